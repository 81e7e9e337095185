-- What a turn makes of the lanes, apart from what becomes of their sessions.
use Rattle.std.proofs.Common.{◌≡◌, ◌⊎◌, inl, inr, ℕ, zero, suc, ◌+◌, ◌<◌, ◌≤◌, List, [], ◌∷◌, ◌++◌, length, get_or, slice_set, refl, sym, ap, subst, ◌∙◌, get_or-set_other, length-set, Bool, true, false, Option, Some, None, arith, rules}
use Rattle.std.specs.Prelude.{MatchBool, is_some}
use Rattle.std.proofs.lemmas.Grind.{get_or-set_at}
use Rattle.std.proofs.lemmas.Bool.{cases_eq, false≢true}
use Rattle.std.proofs.lemmas.List.{get_or_default}
use Rattle.std.proofs.lemmas.Option.{same_Some}
use Rattle.rtrb.specs.Ring.{received}
use Rattle.ov_specs.specs.machine.Machine.{is_open}
use Rattle.ov_specs.specs.wire.Message.{Message}
use Rattle.ov_order.specs.declared.items.Brought.{Brought}
use Rattle.ov_workers.specs.declared.cause.ReadCause.{ReadCause}
use Rattle.ov_core.specs.Following.{CoreState}
use Rattle.ov_lanes.specs.Entering.{EntersTurn}
use Rattle.ov_lanes.specs.Lanes.{SameLane, LooksAt, PutsAlone, IsAt, IsServed, StaysAs, StayAs, IsFlushedLane, AreFlushedBelow, IsQuiet, GivesUpIf, unmarked, unmarked_at, TakesItemOf, TakesAtPlace, TakesAt, TakesOne, LookAll}
use Rattle.ov_lanes.specs.declared.lane.Lane.{Lane}
use Rattle.ov_lanes.proofs.Entering.{turn_by}
use Rattle.ov_lanes.proofs.PlaceLaws.{none_some, some_before, at_below}

-- ---- relations place by place

module _ (P Q R : Lane → Lane → Type 0) (along : (l m n : Lane) → P l m → Q m n → R l n) where
  pub stays_along : (p q r : Option Lane) → StaysAs P p q → StaysAs Q q r → StaysAs R p r
  stays_along None q r x y = subst (λ (k : Option Lane). StaysAs Q k r) x y
  stays_along (Some l) None r x y = absurd x
  stays_along (Some l) (Some m) None x y = absurd y
  stays_along (Some l) (Some m) (Some n) x y = along l m n x y

  stay_along : (ls ms ns : List (Option Lane)) → StayAs P ls ms → StayAs Q ms ns → StayAs R ls ns
  stay_along ls ms ns x y = record { many = y.many ∙ x.many; each = λ at. stays_along (get_or ls at None) (get_or ms at None) (get_or ns at None) (x.each at) (y.each at) }

module _ (P : Lane → Lane → Type 0) (self : (l : Lane) → P l l) where
  stays_self : (p : Option Lane) → StaysAs P p p
  stays_self None = refl
  stays_self (Some l) = self l

  stay_self : (ls : List (Option Lane)) → StayAs P ls ls
  stay_self ls = record { many = refl; each = λ at. stays_self (get_or ls at None) }

  -- one place has changed
  stay_set : (ls : List (Option Lane)) (i : ℕ) (place place' : Option Lane) → i < length ls → place ≡ get_or ls i place → StaysAs P place place' → StayAs P ls (slice_set ls i place')
  stay_set ls i place place' lt read x = record {
    many = length-set ls i place';
    each = λ at. elim (cases_eq at i) [
      | inl e ↦
          subst (λ (q : Option Lane). StaysAs P (get_or ls at None) q) (sym (get_or-set_at ls i at place' None e lt))
          (subst (λ (q : Option Lane). StaysAs P q place') (read ∙ (sym (get_or_default ls i None place lt) ∙ ap (λ (k : ℕ). get_or ls k None) (sym e))) x)
      | inr ne ↦ subst (λ (q : Option Lane). StaysAs P (get_or ls at None) q) (sym (get_or-set_other ls i at place' None ne)) (stays_self (get_or ls at None))
    ];
  }

pub some_stays : (P : Lane → Lane → Type 0) (place : Option Lane) (l m : Lane) → place ≡ Some l → P l m → StaysAs P place (Some m)
some_stays P None l m is h = absurd (none_some l is)
some_stays P (Some k) l m is h = subst (λ (x : Lane). P x m) (sym (same_Some k l is)) h

pub none_stays : (P : Lane → Lane → Type 0) (place : Option Lane) → place ≡ None → StaysAs P place place
none_stays P place is = subst (λ (p : Option Lane). StaysAs P p p) (sym is) refl

-- of lanes with the same rings
same_self : (l : Lane) → SameLane l l
same_self l = search rules

pub same_along : (l m n : Lane) → SameLane l m → SameLane m n → SameLane l n
same_along l m n a b = search rules

puts_self : (l : Lane) → PutsAlone l l
puts_self l = search rules

puts_along : (l m n : Lane) → PutsAlone l m → PutsAlone m n → PutsAlone l n
puts_along l m n a b = search rules

puts_same : (l m : Lane) → PutsAlone l m → SameLane l m
puts_same l m a = search rules

looks_self : (l : Lane) → LooksAt l l
looks_self l = (refl, refl, refl, refl, refl, refl)

pub stay_same : (ls : List (Option Lane)) → StayAs SameLane ls ls
stay_same ls = stay_self SameLane same_self ls

pub stay_same_set : (ls : List (Option Lane)) (i : ℕ) (place place' : Option Lane) → i < length ls → place ≡ get_or ls i place → StaysAs SameLane place place' → StayAs SameLane ls (slice_set ls i place')
stay_same_set = stay_set SameLane same_self

pub stay_puts : (ls : List (Option Lane)) → StayAs PutsAlone ls ls
stay_puts ls = stay_self PutsAlone puts_self ls

pub stay_puts_set : (ls : List (Option Lane)) (i : ℕ) (place place' : Option Lane) → i < length ls → place ≡ get_or ls i place → StaysAs PutsAlone place place' → StayAs PutsAlone ls (slice_set ls i place')
stay_puts_set = stay_set PutsAlone puts_self

pub stay_puts_along : (ls ms ns : List (Option Lane)) → StayAs PutsAlone ls ms → StayAs PutsAlone ms ns → StayAs PutsAlone ls ns
stay_puts_along = stay_along PutsAlone PutsAlone PutsAlone puts_along

pub stay_then_puts : (ls ms ns : List (Option Lane)) → StayAs SameLane ls ms → StayAs PutsAlone ms ns → StayAs SameLane ls ns
stay_then_puts = stay_along SameLane PutsAlone SameLane (λ l m n x y. same_along l m n x (puts_same m n y))

pub stay_along_same : (ls ms ns : List (Option Lane)) → StayAs SameLane ls ms → StayAs SameLane ms ns → StayAs SameLane ls ns
stay_along_same = stay_along SameLane SameLane SameLane same_along

pub look_self : (ls : List (Option Lane)) → StayAs LooksAt ls ls
look_self ls = stay_self LooksAt looks_self ls

pub look_set : (ls : List (Option Lane)) (i : ℕ) (place place' : Option Lane) → i < length ls → place ≡ get_or ls i place → StaysAs LooksAt place place' → StayAs LooksAt ls (slice_set ls i place')
look_set = stay_set LooksAt looks_self

-- ---- sessions that are served

-- by the lane that was found at a place
pub served_here : (ls : List (Option Lane)) (i : ℕ) (place : Option Lane) (l : Lane) → i < length ls → place ≡ get_or ls i place → place ≡ Some l → (n : ℕ) → n ≡ l.session.serial → IsServed ls n
served_here ls i place l lt read is n same = (i, l, get_or_default ls i None place lt ∙ (sym read ∙ is), sym same)

-- and so they were before
served_before : (P : Lane → Lane → Type 0) → ((l m : Lane) → P l m → m.session ≡ l.session) → (ls ms : List (Option Lane)) → StayAs P ls ms → (n : ℕ) → IsServed ms n → IsServed ls n
served_before P same ls ms s n (at, m, is, serial) =
    let x = some_before P (get_or ls at None) (get_or ms at None) m (s.each at) is in
    (at, x.0, x.1, sym (ap (λ k. k.serial) (same x.0 m x.2)) ∙ serial)

pub served_puts : (ls ms : List (Option Lane)) → StayAs PutsAlone ls ms → (n : ℕ) → IsServed ms n → IsServed ls n
served_puts = served_before PutsAlone (λ l m p. p.2)

pub served_same : (ls ms : List (Option Lane)) → StayAs SameLane ls ms → (n : ℕ) → IsServed ms n → IsServed ls n
served_same = served_before SameLane (λ l m p. p.2)

-- ---- an item that was taken

-- what is known of a place whose lane took an item
placed : {K D : Type 0} (place place' : Option Lane) (old new : CoreState K D) → TakesAtPlace place old place' new → (l m : Lane) × (place ≡ Some l) × (place' ≡ Some m) × TakesItemOf l old m new
placed None place' old new t = absurd t
placed (Some l) None old new t = absurd t
placed (Some l) (Some m) old new t = (l, m, refl, refl, t)

module _ (ls : List (Option Lane)) (i : ℕ) (place place' : Option Lane) (lt : i < length ls) (read : place ≡ get_or ls i place) where
  abbrev takes_set : (l m : Lane) → place ≡ Some l → place' ≡ Some m → (item : Brought Message ReadCause) → received m.inbound ≡ received l.inbound ++ item ∷ [] → TakesAt i ls (slice_set ls i place')
  takes_set l m was is item taken = record {
    lane = l;
    lane' = m;
    there = get_or_default ls i None place lt ∙ (sym read ∙ was);
    there' = get_or-set_at ls i i place' None refl lt ∙ is;
    item = item;
    taken = taken;
    others = λ at ne.
        subst (λ (q : Option Lane). StaysAs (λ l m. received m.inbound ≡ received l.inbound) (get_or ls at None) q) (sym (get_or-set_other ls i at place' None ne))
        (stays_self (λ l m. received m.inbound ≡ received l.inbound) (λ l. refl) (get_or ls at None));
  }

  takes_and_enters : {K D : Type 0} (old new : CoreState K D) → TakesAtPlace place old place' new
      → (t : TakesAt i ls (slice_set ls i place')) × EntersTurn (IsServed ls) t.lane.session.serial t.item old new
  takes_and_enters old new t =
      let x = placed place place' old new t in
      let l = x.0 in let m = x.1 in let taken = x.4 in (
        takes_set l m x.2 x.3 taken.0 taken.1,
        turn_by old new taken.0 (λ n. n ≡ l.session.serial) (IsServed ls) (served_here ls i place l lt read x.2) l.session.serial taken.2,
      )

  pub taken_at : {K D : Type 0} (b : Bool) (old new : CoreState K D) → MatchBool b (TakesAtPlace place old place' new) ((new ≡ old) × StaysAs LooksAt place place')
      → MatchBool b ((t : TakesAt i ls (slice_set ls i place')) × EntersTurn (IsServed ls) t.lane.session.serial t.item old new) ((new ≡ old) × LookAll ls (slice_set ls i place'))
  taken_at true old new t = takes_and_enters old new t
  taken_at false old new (same, looks) = (same, look_set ls i place place' lt read looks)

-- and then more was put
pub some_at : (q r : Option Lane) (m : Lane) → q ≡ Some m → StaysAs PutsAlone q r → (n : Lane) × (r ≡ Some n) × PutsAlone m n
some_at None r m is x = absurd (none_some m is)
some_at (Some k) None m is x = absurd x
some_at (Some k) (Some n) m is x = (n, refl, subst (λ (y : Lane). PutsAlone y n) (same_Some k m is) x)

abbrev pub takes_then_puts : (i : ℕ) (ls ms ns : List (Option Lane)) → TakesAt i ls ms → StayAs PutsAlone ms ns → TakesAt i ls ns
takes_then_puts i ls ms ns t x =
    let y = some_at (get_or ms i None) (get_or ns i None) t.lane' t.there' (x.each i) in
    record {
      lane = t.lane;
      lane' = y.0;
      there = t.there;
      there' = y.1;
      item = t.item;
      taken = ap received y.2.1 ∙ t.taken;
      others = λ at ne.
          stays_along (λ l m. received m.inbound ≡ received l.inbound) PutsAlone (λ l m. received m.inbound ≡ received l.inbound)
          (λ l m n a b. ap received b.1 ∙ a) (get_or ls at None) (get_or ms at None) (get_or ns at None) (t.others at ne) (x.each at);
    }

-- whether an item was taken of a place
pub place_taken : {K D : Type 0} (b : Bool) (old new : CoreState K D) (place : Option Lane) (l m : Lane) → place ≡ Some l
    → MatchBool b (TakesItemOf l old m new) ((new ≡ old) × LooksAt l m)
    → MatchBool b (TakesAtPlace place old (Some m) new) ((new ≡ old) × StaysAs LooksAt place (Some m))
place_taken true old new place l m is t = subst (λ (p : Option Lane). TakesAtPlace p old (Some m) new) (sym is) t
place_taken false old new place l m is (same, looks) = (same, some_stays LooksAt place l m is looks)

-- a lane that was found at a place
pub found_at : (ls : List (Option Lane)) (i serial : ℕ) (place : Option Lane) (l : Lane) → i < length ls → place ≡ get_or ls i place → place ≡ Some l → l.session.serial ≡ serial → (m : Lane) × IsAt ls i m × (m.session.serial ≡ serial)
found_at ls i serial place l lt read is serial_is = (l, get_or_default ls i None place lt ∙ (sym read ∙ is), serial_is)

-- one place more is known to be taken
pub taken_more : (ls : List (Option Lane)) (i n : ℕ) (place : Option Lane) → i < length ls → place ≡ get_or ls i place → is_some place ≡ true → n ≡ i + 1
    → ((j : ℕ) → j < i → (l : Lane) × IsAt ls j l) → (j : ℕ) → j < n → (l : Lane) × IsAt ls j l
taken_more ls i n None lt read some count before j low = absurd (false≢true some)
taken_more ls i n (Some l) lt read some count before j low = elim (cases_eq j i) [
  | inl e ↦ (l, ap (λ (k : ℕ). get_or ls k None) e ∙ (get_or_default ls i None (Some l) lt ∙ sym read))
  | inr ne ↦ before j (omega (arith, low, count, ne))
]

-- an item of a session was taken, and then more was put
abbrev pub turned : (serial i : ℕ) (ls ms ns : List (Option Lane)) → (l : Lane) × IsAt ls i l × (l.session.serial ≡ serial) → TakesAt i ls ms → StayAs PutsAlone ms ns → TakesOne serial ls ns
turned serial i ls ms ns (l, is, serial_is) t x =
    let u = takes_then_puts i ls ms ns t x in
    (i, u, ap (λ (k : Lane). k.session.serial) (same_Some u.lane l (sym u.there ∙ is)) ∙ serial_is)

-- ---- what is flushed

flushed_on : {K D : Type 0} (old new : CoreState K D) (l : Lane) → IsQuiet old new → IsFlushedLane old l → IsFlushedLane new l
flushed_on old new l quiet (inl marked) = inl marked
flushed_on old new l quiet (inr (there, none)) = inr (
  ap (λ s. is_open s l.session.serial) quiet.0 ∙ there,
  elim (quiet.1 l.session.serial) [
    | inl same ↦ same ∙ none
    | inr none' ↦ none'
  ],
)

module _ {K D : Type 0} (old new : CoreState K D) (ls : List (Option Lane)) (i : ℕ) (place place' : Option Lane) (lt : i < length ls) where
  -- one place more
  pub flushed_more : GivesUpIf false old place new place' → AreFlushedBelow i old ls → AreFlushedBelow (i + 1) new (slice_set ls i place')
  flushed_more (quiet, few, own) below j l low is = elim (cases_eq j i) [
    | inl e ↦ own l (sym (get_or-set_at ls i j place' None e lt) ∙ is)
    | inr ne ↦ flushed_on old new l quiet (below j l (omega (arith, low, ne)) (sym (get_or-set_other ls i j place' None ne) ∙ is))
  ]

-- all places
pub flushed_all : {K D : Type 0} (core : CoreState K D) (ls : List (Option Lane)) (n : ℕ) → length ls ≤ n → AreFlushedBelow n core ls → (at : ℕ) (l : Lane) → IsAt ls at l → IsFlushedLane core l
flushed_all core ls n all below j l is = below j l (let lt = at_below ls j l is in omega (arith, lt, all)) is

-- whether one of them was given up so far
pub fewer_then : (any any' b : Bool) (x y z : ℕ) → MatchBool any (y < x) (y ≤ x) → MatchBool b (z < y) (z ≤ y) → ((b ≡ true) × (any' ≡ true)) ⊎ ((b ≡ false) × (any' ≡ any)) → MatchBool any' (z < x) (z ≤ x)
fewer_then true any' true x y z p q (inl (e, is)) = subst (λ k. MatchBool k (z < x) (z ≤ x)) (sym is) (omega (arith, p, q))
fewer_then false any' true x y z p q (inl (e, is)) = subst (λ k. MatchBool k (z < x) (z ≤ x)) (sym is) (omega (arith, p, q))
fewer_then any any' false x y z p q (inl (e, is)) = absurd (false≢true e)
fewer_then any any' true x y z p q (inr (e, is)) = absurd (false≢true (sym e))
fewer_then true any' false x y z p q (inr (e, is)) = subst (λ k. MatchBool k (z < x) (z ≤ x)) (sym is) (omega (arith, p, q))
fewer_then false any' false x y z p q (inr (e, is)) = subst (λ k. MatchBool k (z < x) (z ≤ x)) (sym is) (omega (arith, p, q))

-- how many are unmarked, one of them having changed
set_unmarked : (ls : List (Option Lane)) (i : ℕ) (p : Option Lane) → i < length ls → unmarked (slice_set ls i p) + unmarked_at (get_or ls i None) ≡ unmarked ls + unmarked_at p
set_unmarked [] i p lt = absurd (omega (arith, lt))
set_unmarked (x ∷ ls) zero p lt = omega arith
set_unmarked (x ∷ ls) (suc i) p lt = let e = set_unmarked ls i p (omega (arith, lt)) in omega (arith, e)

module _ {K D : Type 0} (old new : CoreState K D) (ls : List (Option Lane)) (i : ℕ) (place place' : Option Lane) (lt : i < length ls) (read : place ≡ get_or ls i place) where
  pub fewer : (b : Bool) → GivesUpIf b old place new place' → MatchBool b (unmarked (slice_set ls i place') < unmarked ls) (unmarked (slice_set ls i place') ≤ unmarked ls)
  fewer b g =
      let e = set_unmarked ls i place' lt in
      let is : unmarked_at (get_or ls i None) ≡ unmarked_at place = ap unmarked_at (get_or_default ls i None place lt ∙ sym read) in
      by b g e is
    where
      by : (b : Bool) → GivesUpIf b old place new place' → unmarked (slice_set ls i place') + unmarked_at (get_or ls i None) ≡ unmarked ls + unmarked_at place' → unmarked_at (get_or ls i None) ≡ unmarked_at place
          → MatchBool b (unmarked (slice_set ls i place') < unmarked ls) (unmarked (slice_set ls i place') ≤ unmarked ls)
      by true g e is = omega (arith, g, e, is)
      by false g e is = omega (arith, g.1, e, is)
