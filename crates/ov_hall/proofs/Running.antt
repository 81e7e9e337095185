-- What the desk makes of its core and of its lanes, one moment after another.
use Rattle.std.proofs.Common.{◌≡◌, ◌≢◌, inl, inr, ℕ, ◌+◌, ◌<◌, List, [], ◌∷◌, ◌++◌, length, length-append, get_or, slice_set, get_or-set_other, length-set, refl, sym, ap, subst, ◌∙◌, append_assoc, append-nil, Bool, true, false, Option, Some, None, cond, arith, rules}
use Rattle.std.specs.Prelude.{option_to_list, MatchOption}
use Rattle.std.proofs.lemmas.Bool.{cases_eq, cases_Bool, eq-eqb, ne_eqb, false≢true}
use Rattle.std.proofs.lemmas.Grind.{get_or-set_at}
use Rattle.std.proofs.lemmas.List.{get_or_default}
use Rattle.std.proofs.lemmas.Option.{same_Some}
use Rattle.rtrb.specs.Ring.{sent, received}
use Rattle.ov_specs.specs.machine.Machine.{State, Entry, is_open}
use Rattle.ov_lanes.specs.Moments.{AreTimed, AreTimedBy, Tells}
use Rattle.ov_lanes.specs.Lanes.{IsAt, SameLane, PutsAlone, LooksAt, StaysAs, StayAs, TakesOne, AreOver, Serves}
use Rattle.ov_lanes.specs.declared.lane.Lane.{Lane}
use Rattle.ov_lanes.proofs.PlaceLaws.{some_before, some_after}
use Rattle.ov_lanes.specs.declared.desk.Desk.{Desk}
use Rattle.ov_hall.specs.declared.hall.Hall.{Hall}
use Rattle.ov_hall.specs.Guests.{IsKept}
use Rattle.ov_hall.specs.Time.{TakesTime}
use Rattle.ov_core.specs.Following.{CoreState, Timed}
use Rattle.ov_hall.specs.Serving.{times, AreApart, TakesFor, KeepsPlaces, KeepsHall, TakesNoted, IsTended}

-- ---- places that are kept

-- no note, and nothing taken
kept_none : (ls ms : List (Option Lane)) → StayAs (λ l m. SameLane l m × (received m.inbound ≡ received l.inbound)) ls ms → KeepsPlaces [] ls ms
kept_none ls ms s = record { many = s.many; each = λ at. by (get_or ls at None) (get_or ms at None) (s.each at) }
  where
    by : (p q : Option Lane) → StaysAs (λ l m. SameLane l m × (received m.inbound ≡ received l.inbound)) p q → StaysAs (λ l m. SameLane l m × (length (received m.inbound) ≡ length (received l.inbound) + times l.session.serial [])) p q
    by None q x = x
    by (Some l) None x = x
    by (Some l) (Some m) (same, taken) = (same, let e = ap length taken in omega (arith, e))

times_append : (n : ℕ) (xs ys : List ℕ) → times n (xs ++ ys) ≡ times n xs + times n ys
times_append n [] ys = omega arith
times_append n (x ∷ xs) ys = let e = times_append n xs ys in omega (arith, e)

pub tended_same : (l m : Lane) → IsTended l m → SameLane l m × (received m.inbound ≡ received l.inbound)
tended_same l m t = (let inbound = t.0 in let outbound = t.1 in let session = t.2 in search rules, ap received t.0)

pub puts_taken : (l m : Lane) → PutsAlone l m → SameLane l m × (received m.inbound ≡ received l.inbound)
puts_taken l m (outbound, inbound, session) = (search rules, ap received inbound)

stays_by : (P Q : Lane → Lane → Type 0) → ((l m : Lane) → P l m → Q l m) → (ls ms : List (Option Lane)) → StayAs P ls ms → StayAs Q ls ms
stays_by P Q by ls ms s = record { many = s.many; each = λ at. one (get_or ls at None) (get_or ms at None) (s.each at) }
  where
    one : (p q : Option Lane) → StaysAs P p q → StaysAs Q p q
    one None q x = x
    one (Some l) None x = x
    one (Some l) (Some m) x = by l m x

pub kept_tended : (ls ms : List (Option Lane)) → StayAs IsTended ls ms → KeepsPlaces [] ls ms
kept_tended ls ms s = kept_none ls ms (stays_by IsTended (λ l m. SameLane l m × (received m.inbound ≡ received l.inbound)) tended_same ls ms s)

pub kept_puts : (ls ms : List (Option Lane)) → StayAs PutsAlone ls ms → KeepsPlaces [] ls ms
kept_puts ls ms s = kept_none ls ms (stays_by PutsAlone (λ l m. SameLane l m × (received m.inbound ≡ received l.inbound)) puts_taken ls ms s)

pub looks_tended : (ls ms : List (Option Lane)) → StayAs IsTended ls ms → StayAs LooksAt ls ms
looks_tended ls ms s = stays_by IsTended LooksAt (λ l m t. (ap received t.0, ap sent t.1, t.2, t.3, t.4, t.5)) ls ms s

tended_self : (l : Lane) → IsTended l l
tended_self l = (refl, refl, refl, refl, refl, refl)

pub tended_all : (ls : List (Option Lane)) → StayAs IsTended ls ls
tended_all ls = record { many = refl; each = λ at. one (get_or ls at None) }
  where
    one : (p : Option Lane) → StaysAs IsTended p p
    one None = refl
    one (Some l) = tended_self l

pub stay_tended_set : (ls : List (Option Lane)) (i : ℕ) (place place' : Option Lane) → i < length ls → place ≡ get_or ls i place → StaysAs IsTended place place' → StayAs IsTended ls (slice_set ls i place')
stay_tended_set ls i place place' lt read x = record {
  many = length-set ls i place';
  each = λ at. elim (cases_eq at i) [
    | inl e ↦
        subst (λ (q : Option Lane). StaysAs IsTended (get_or ls at None) q) (sym (get_or-set_at ls i at place' None e lt))
        (subst (λ (q : Option Lane). StaysAs IsTended q place') (read ∙ (sym (get_or_default ls i None place lt) ∙ ap (λ (k : ℕ). get_or ls k None) (sym e))) x)
    | inr ne ↦ subst (λ (q : Option Lane). StaysAs IsTended (get_or ls at None) q) (sym (get_or-set_other ls i at place' None ne)) ((tended_all ls).each at)
  ];
}

pub tended_along : (ls ms ns : List (Option Lane)) → StayAs IsTended ls ms → StayAs IsTended ms ns → StayAs IsTended ls ns
tended_along ls ms ns x y = record { many = y.many ∙ x.many; each = λ at. one (get_or ls at None) (get_or ms at None) (get_or ns at None) (x.each at) (y.each at) }
  where
    one : (p q r : Option Lane) → StaysAs IsTended p q → StaysAs IsTended q r → StaysAs IsTended p r
    one None q r x y = subst (λ (k : Option Lane). StaysAs IsTended k r) x y
    one (Some l) None r x y = absurd x
    one (Some l) (Some m) None x y = absurd y
    one (Some l) (Some m) (Some n) x y = (y.0 ∙ x.0, y.1 ∙ x.1, y.2 ∙ x.2, y.3 ∙ x.3, y.4 ∙ x.4, y.5 ∙ x.5)

pub tended_same_all : (ls ms : List (Option Lane)) → StayAs IsTended ls ms → StayAs SameLane ls ms
tended_same_all ls ms s = stays_by IsTended SameLane (λ l m t. (tended_same l m t).0) ls ms s

pub puts_same_all : (ls ms : List (Option Lane)) → StayAs PutsAlone ls ms → StayAs SameLane ls ms
puts_same_all ls ms s = stays_by PutsAlone SameLane (λ l m p. (puts_taken l m p).0) ls ms s

pub kept_same : (notes : List ℕ) (ls ms : List (Option Lane)) → KeepsPlaces notes ls ms → StayAs SameLane ls ms
kept_same notes ls ms s = stays_by (TakesFor notes) SameLane (λ l m c. c.0) ls ms s

pub apart_stays : (ls ms : List (Option Lane)) → StayAs SameLane ls ms → AreApart ls → AreApart ms
apart_stays ls ms s apart i j m n is_m is_n same =
    let x = some_before SameLane (get_or ls i None) (get_or ms i None) m (s.each i) is_m in
    let y = some_before SameLane (get_or ls j None) (get_or ms j None) n (s.each j) is_n in
    apart i j x.0 y.0 x.1 y.1 (sym (ap (λ k. k.serial) x.2.2) ∙ (same ∙ ap (λ k. k.serial) y.2.2))

counts_along : (xs ys : List ℕ) (p q r : Option Lane) → StaysAs (TakesFor xs) p q → StaysAs (TakesFor ys) q r → StaysAs (TakesFor (xs ++ ys)) p r
counts_along xs ys None q r x y = subst (λ (k : Option Lane). StaysAs (TakesFor ys) k r) x y
counts_along xs ys (Some l) None r x y = absurd x
counts_along xs ys (Some l) (Some m) None x y = absurd y
counts_along xs ys (Some l) (Some m) (Some n) (same, count) (same', count') = (
  search rules,
  (let e = times_append l.session.serial xs ys in let f = ap (λ k. times k.serial ys) same.2 in omega (arith, count, count', e, f)),
)

pub kept_along : (xs ys : List ℕ) (ls ms ns : List (Option Lane)) → KeepsPlaces xs ls ms → KeepsPlaces ys ms ns → KeepsPlaces (xs ++ ys) ls ns
kept_along xs ys ls ms ns x y = record { many = y.many ∙ x.many; each = λ at. counts_along xs ys (get_or ls at None) (get_or ms at None) (get_or ns at None) (x.each at) (y.each at) }

-- ---- an item for a note

module _ (serial : ℕ) (ls ms : List (Option Lane)) (same : StayAs SameLane ls ms) where
  counted_at : (at : ℕ) (p q : Option Lane) → StaysAs SameLane p q → ((l m : Lane) → p ≡ Some l → q ≡ Some m → length (received m.inbound) ≡ length (received l.inbound) + times l.session.serial (serial ∷ [])) → StaysAs (TakesFor (serial ∷ [])) p q
  counted_at at None q s count = s
  counted_at at (Some l) None s count = s
  counted_at at (Some l) (Some m) s count = (s, count l m refl refl)

  once : (l : Lane) → l.session.serial ≡ serial → times l.session.serial (serial ∷ []) ≡ 1
  once l is = ap (λ (b : Bool). cond b 1 0 + 0) (eq-eqb serial l.session.serial (sym is))

  never : (l : Lane) → l.session.serial ≢ serial → times l.session.serial (serial ∷ []) ≡ 0
  never l ne = ap (λ (b : Bool). cond b 1 0 + 0) (ne_eqb serial l.session.serial (λ e. ne (sym e)))

  taken_count : TakesOne serial ls ms → AreApart ls → (at : ℕ) (l m : Lane) → IsAt ls at l → IsAt ms at m → length (received m.inbound) ≡ length (received l.inbound) + times l.session.serial (serial ∷ [])
  taken_count (place, t, is) apart at l m is_l is_m = elim (cases_eq at place) [
    | inl e ↦
        let here : l ≡ t.lane = same_Some l t.lane (sym is_l ∙ (ap (λ (k : ℕ). get_or ls k None) e ∙ t.there)) in
        let there : m ≡ t.lane' = same_Some m t.lane' (sym is_m ∙ (ap (λ (k : ℕ). get_or ms k None) e ∙ t.there')) in
        let n = once l (ap (λ (k : Lane). k.session.serial) here ∙ is) in
        let long = ap length t.taken ∙ length-append (received t.lane.inbound) (t.item ∷ []) in
        let a = ap (λ (k : Lane). length (received k.inbound)) here in
        let b = ap (λ (k : Lane). length (received k.inbound)) there in
        omega (arith, n, long, a, b)
    | inr ne ↦
        let x = some_after (λ a b. received b.inbound ≡ received a.inbound) (get_or ls at None) (get_or ms at None) l (t.others at ne) is_l in
        let mine : x.0 ≡ m = same_Some x.0 m (sym x.1 ∙ is_m) in
        let n = never l (λ e. ne (apart at place l t.lane is_l t.there (e ∙ sym is))) in
        let a = ap length x.2 in let b = ap (λ (k : Lane). length (received k.inbound)) mine in
        omega (arith, n, a, b)
  ]

  none_count : ms ≡ ls → ((at : ℕ) (l : Lane) → IsAt ls at l → l.session.serial ≢ serial) → (at : ℕ) (l m : Lane) → IsAt ls at l → IsAt ms at m → length (received m.inbound) ≡ length (received l.inbound) + times l.session.serial (serial ∷ [])
  none_count e none at l m is_l is_m =
      let mine : l ≡ m = same_Some l m (sym is_l ∙ (ap (λ (k : List (Option Lane)). get_or k at None) (sym e) ∙ is_m)) in
      let n = never l (none at l is_l) in let b = ap (λ (k : Lane). length (received k.inbound)) mine in
      omega (arith, n, b)

  pub kept_noted : (b : Bool) → TakesNoted serial ls b ms → AreApart ls → KeepsPlaces (serial ∷ []) ls ms
  kept_noted true t apart = record { many = same.many; each = λ at. counted_at at (get_or ls at None) (get_or ms at None) (same.each at) (λ l m is_l is_m. taken_count t apart at l m is_l is_m) }
  kept_noted false (e, none) apart = record { many = same.many; each = λ at. counted_at at (get_or ls at None) (get_or ms at None) (same.each at) (λ l m is_l is_m. none_count e none at l m is_l is_m) }

-- an item that was taken after nothing was seen
pub looks_then_takes : (serial : ℕ) (ls ms ns : List (Option Lane)) → StayAs LooksAt ls ms → TakesOne serial ms ns → TakesOne serial ls ns
looks_then_takes serial ls ms ns looks (place, t, is) =
    let x = some_before LooksAt (get_or ls place None) (get_or ms place None) t.lane (looks.each place) t.there in (
      place,
      record {
        lane = x.0;
        lane' = t.lane';
        there = x.1;
        there' = t.there';
        item = t.item;
        taken = t.taken ∙ ap (λ l. l ++ t.item ∷ []) x.2.0;
        others = λ at ne. beside (get_or ls at None) (get_or ms at None) (get_or ns at None) (looks.each at) (t.others at ne);
      },
      sym (ap (λ k. k.serial) x.2.2) ∙ is,
    )
  where
    beside : (p q r : Option Lane) → StaysAs LooksAt p q → StaysAs (λ l m. received m.inbound ≡ received l.inbound) q r → StaysAs (λ l m. received m.inbound ≡ received l.inbound) p r
    beside None q r x y = subst (λ (k : Option Lane). StaysAs (λ l m. received m.inbound ≡ received l.inbound) k r) x y
    beside (Some l) None r x y = absurd x
    beside (Some l) (Some m) None x y = absurd y
    beside (Some l) (Some m) (Some n) x y = y ∙ x.0

pub looks_along : (ls ms ns : List (Option Lane)) → StayAs LooksAt ls ms → StayAs LooksAt ms ns → StayAs LooksAt ls ns
looks_along ls ms ns x y = record { many = y.many ∙ x.many; each = λ at. one (get_or ls at None) (get_or ms at None) (get_or ns at None) (x.each at) (y.each at) }
  where
    one : (p q r : Option Lane) → StaysAs LooksAt p q → StaysAs LooksAt q r → StaysAs LooksAt p r
    one None q r x y = subst (λ (k : Option Lane). StaysAs LooksAt k r) x y
    one (Some l) None r x y = absurd x
    one (Some l) (Some m) None x y = absurd y
    one (Some l) (Some m) (Some n) x y = (y.0 ∙ x.0, y.1 ∙ x.1, y.2 ∙ x.2, y.3 ∙ x.3, y.4 ∙ x.4, y.5 ∙ x.5)

-- ---- a hall that is kept

module _ {K D S W L : Type 0} where
  pub hall_along : (xs ys : List ℕ) (a b c : Hall K D S W L) → KeepsHall xs a b → KeepsHall ys b c → KeepsHall (xs ++ ys) a c
  hall_along xs ys a b c x y k none =
      let ls = a.desk.lanes.items in let ms = b.desk.lanes.items in
      let p = x k none in let q = y p.0 p.1 in (
        q.0,
        q.1,
        q.2 ∙ p.2,
        q.3 ∙ p.3,
        λ apart. let first = p.4 apart in kept_along xs ys ls ms c.desk.lanes.items first (q.4 (apart_stays ls ms (kept_same xs ls ms first) apart)),
      )

  pub hall_same : (a : Hall K D S W L) → KeepsHall [] a a
  hall_same a k none = (k, none, refl, refl, λ apart. kept_tended a.desk.lanes.items a.desk.lanes.items (tended_all a.desk.lanes.items))

  pub hall_passed : (a : Hall K D S W L) (core : CoreState K D) → core.state.next ≡ a.desk.core.state.next → KeepsHall [] a (record a { desk = record a.desk { core = core } })
  hall_passed a core next k none = (k, none, refl, next, λ apart. kept_tended a.desk.lanes.items a.desk.lanes.items (tended_all a.desk.lanes.items))

  pub hall_puts : (a : Hall K D S W L) (d : Desk K D) → StayAs PutsAlone a.desk.lanes.items d.lanes.items → d.core.state.next ≡ a.desk.core.state.next → KeepsHall [] a (record a { desk = d })
  hall_puts a d s next k none = (k, none, refl, next, λ apart. kept_puts a.desk.lanes.items d.lanes.items s)

  pub hall_tended : (a b : Hall K D S W L) → (b.keeps ≡ a.keeps) × (b.accepted ≡ a.accepted) → b.desk.core ≡ a.desk.core → IsKept a b → KeepsHall [] a b
  hall_tended a b same core kept k none = let x = kept k in (same.0 ∙ k, same.1 ∙ none, x.1, ap (λ (c : CoreState K D). c.state.next) core, λ apart. kept_tended a.desk.lanes.items b.desk.lanes.items x.0)

pub briefly : (old new : List ℕ) (note : Option ℕ) → MatchOption note (new ≡ old) (λ n. new ≡ old ++ n ∷ []) → new ≡ old ++ option_to_list note
briefly old new None is = is ∙ sym (append-nil old)
briefly old new (Some n) is = is

-- ---- from the first to the last

pub time_of : {K D C : Type 0} (tells : C → ℕ → C → Type 0) (old new : Timed K D C) (mid : State) (opened more entries : List Entry) (moments : List ℕ) → entries ≡ opened ++ more
    → ((reported : ℕ) → AreTimed reported old.core.state opened mid) → Tells tells old.clock moments new.clock → AreTimedBy moments mid more new.core.state → TakesTime tells old entries new
time_of tells old new mid opened more entries moments parts opens told timed = record { opened = opened; others = more; mid = mid; parts = parts; opens = opens; moments = moments; reported = told; timed = timed }

-- a session that was not open when a core was `start` is not open once the sessions at all places are over
pub shut_over : {K D : Type 0} (start : CoreState K D) (b : Desk K D) → Serves start b.core b.lanes.items → AreOver b.lanes.items → (n : ℕ) → is_open start.state n ≡ false → is_open b.core.state n ≡ false
shut_over start b t over n away = elim (cases_Bool (is_open b.core.state n)) [
  | inl there ↦ elim (t.have_places n there) [
    | inl was ↦ absurd (false≢true (sym away ∙ was))
    | inr (j, l, is, serial) ↦ absurd (false≢true (sym ((t.fits j l is).ends (over j l is).0) ∙ (ap (λ k. is_open b.core.state k) serial ∙ there)))
  ]
  | inr shut ↦ shut
]

-- one note more was taken, or none
pub noted_more : (first old new notes : List ℕ) (note : Option ℕ) → old ≡ first ++ notes → new ≡ old ++ option_to_list note → new ≡ first ++ (notes ++ option_to_list note)
noted_more first old new notes note was is = is ∙ (ap (λ l. l ++ option_to_list note) was ∙ append_assoc first notes (option_to_list note))
