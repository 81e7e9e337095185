-- What a step makes of the places of a desk.
use Rattle.std.proofs.Common.{◌≡◌, ◌≢◌, ◌⊎◌, inl, inr, ℕ, zero, suc, ◌+◌, ◌<◌, ◌≤◌, List, [], ◌∷◌, ◌++◌, length, get_or, slice_set, refl, sym, ap, subst, ◌∙◌, append_assoc, append-nil, get_or-set_other, true, false, Option, Some, None, arith}
use Rattle.std.specs.Prelude.{◌-◌, not, is_some}
use Rattle.std.specs.Option.{option_or}
use Rattle.std.proofs.lemmas.Grind.{get_or-set_at}
use Rattle.std.proofs.lemmas.Bool.{cases_eq, cases_lt, false≢true}
use Rattle.std.proofs.lemmas.List.{get_or_default}
use Rattle.std.proofs.lemmas.Option.{same_Some}
use Rattle.rtrb.specs.Ring.{sent, received}
use Rattle.ov_specs.specs.machine.Machine as machine
use Rattle.ov_specs.specs.machine.Machine.{Entry, is_open}
use Rattle.ov_history.specs.History.{HasHistory}
use Rattle.ov_core.specs.Following.{CoreState, CountsWork}
use Rattle.ov_core.proofs.Counted.{counts_none, counts_on}
use Rattle.ov_lanes.specs.Courses.{Course, Spares}
use Rattle.ov_lanes.specs.Moments.{AreTimed}
use Rattle.ov_lanes.specs.Since.{Since, course_of, course_before}
use Rattle.ov_lanes.specs.Lanes.{LaneFits, Moves, LooksAt, IsNewLane, AreNewLanes, IsAt, AreFree, IsUntold, StaysAs, StayAs, Serves, ServesOn, PlacesGoOn, PlaceFits, MovesPlace}
use Rattle.ov_lanes.specs.declared.lane.Lane.{Lane}
use Rattle.ov_lanes.proofs.Timing.{timed_append}
use Rattle.ov_lanes.proofs.Courses.{Passes, goes_same}
use Rattle.ov_lanes.proofs.Fitting.{fits_spared}
use Rattle.ov_lanes.proofs.Own.{spares_same, spares_along}
use Rattle.ov_lanes.proofs.Single.{lane_fits}
use Rattle.ov_lanes.specs.Opening.{OpensAll}
use Rattle.ov_lanes.proofs.Openings.{opens_none, none_entered, fits_new}
use Rattle.ov_lanes.proofs.Coming.{coming_away}

-- ---- single sessions

some_or : {A : Type 0} (o : Option A) (x : A) → option_or o (Some x) ≡ None → ⊥
some_or None x h = cc
some_or (Some y) x h = cc

pub none_some : {A : Type 0} (x : A) → None ≡ Some x → ⊥
none_some x h = cc

-- one that is open after it was open before
pub open_before : (c d : Course) → Spares c d → d.is_open ≡ true → c.is_open ≡ true
open_before c d s there = elim s.closes [
  | inl (same, closed) ↦ sym same ∙ there
  | inr (was, away, closed) ↦ was
]

pub untold_spared : (c d : Course) → Spares c d → IsUntold c → IsUntold d
untold_spared c d s untold away none = elim s.closes [
  | inl (same, closed) ↦ s.handed ∙ untold (sym same ∙ away) (sym closed ∙ none)
  | inr (was, away', closed) ↦ absurd (some_or c.closed machine.Memory (sym closed ∙ none))
]

untold_closed : (c : Course) → is_some c.closed ≡ not c.is_open → IsUntold c
untold_closed c opens away none = absurd (false≢true (sym (ap is_some none) ∙ (opens ∙ ap not away)))

pub untold_open : (c : Course) → c.is_open ≡ true → IsUntold c
untold_open c there away none = absurd (false≢true (sym away ∙ there))

module _ {K D : Type 0} {start a b : CoreState K D} (p : Since start a) (q : Since start b) where
  pub lane_spared : (l : Lane) → Spares (course_of p l.session.serial) (course_of q l.session.serial) → LaneFits p l → LaneFits q l
  lane_spared l s f = fits_spared (course_of p l.session.serial) (course_of q l.session.serial) l.cause (received l.inbound) (sent l.outbound) l.marked l.ended s f

-- nothing was taken of a lane and nothing put
lane_looked : {K D : Type 0} {start a : CoreState K D} (p : Since start a) (l m : Lane) → LooksAt l m → LaneFits p l → LaneFits p m
lane_looked p l m (taken, puts, session, cause, ended, marked) f =
    lane_fits p l.session.serial l.cause (received l.inbound) (sent l.outbound) l.marked l.ended m
    (record { serial = ap (λ s. s.serial) session; cause = cause; taken = taken; puts = puts; is_marked = marked; is_ended = ended }) f

pub looked_moves : {K D : Type 0} {start a : CoreState K D} (at : ℕ) (p : Since start a) (l m : Lane) → LooksAt l m → LaneFits p l → Moves at p l a m
looked_moves at p l m looks f = record { goes = goes_same at l.session.serial p; fits = lane_looked p l m looks f }

-- ---- places, one of which has changed

-- what was done beside a place
pub record Beside {K D : Type 0} {start a b : CoreState K D} (ls : List (Option Lane)) (i : ℕ) (p : Since start a) (q : Since start b) : Type 0 where
  pub spares : (j : ℕ) (l : Lane) → j ≢ i → IsAt ls j l → Spares (course_of p l.session.serial) (course_of q l.session.serial)
  pub untold : (n : ℕ) → IsUntold (course_of q n)
  pub earlier : (n : ℕ) → n < start.state.next → Spares (course_before start n) (course_of q n)

-- the places are served, and this is what was done
pub record ServedSince {K D : Type 0} {start b : CoreState K D} (q : Since start b) (ls : List (Option Lane)) : Type 0 where
  pub serves : Serves start b ls
  pub is : serves.since ≡ q

pub served_on : {K D : Type 0} {start a b : CoreState K D} (at : ℕ) (ls ms : List (Option Lane)) (s : Serves start a ls) (q : Since start b) → ServedSince q ms → (more : List Entry) → q.entries ≡ s.since.entries ++ more → AreTimed at a.state more b.state → CountsWork a more b → ServesOn at s b ms
served_on at ls ms s q x more adds timed counts = record { after = x.serves; more = more; adds = ap (λ (r : _). r.entries) x.is ∙ adds; timed = timed; counts = counts }

module _ {K D : Type 0} {start a b : CoreState K D} (ls : List (Option Lane)) (i : ℕ) (lt : i < length ls) (s : Serves start a ls) (q : Since start b) (beside : Beside ls i s.since q) where
  -- the lane at another place is the same
  still_at : (j : ℕ) (place : Option Lane) (l : Lane) → j ≢ i → IsAt (slice_set ls i place) j l → IsAt ls j l
  still_at j place l ne is = sym (get_or-set_other ls i j place None ne) ∙ is

  now_at : (j : ℕ) (place : Option Lane) (l : Lane) → j ≢ i → IsAt ls j l → IsAt (slice_set ls i place) j l
  now_at j place l ne is = get_or-set_other ls i j place None ne ∙ is

  -- and at this one
  own_at : (j : ℕ) (place : Option Lane) (l : Lane) → j ≡ i → IsAt (slice_set ls i place) j l → place ≡ Some l
  own_at j place l e is = sym (get_or-set_at ls i j place None e lt) ∙ is

  -- the place is free now
  pub serves_freed : ((n : ℕ) → is_open b.state n ≡ true → (is_open start.state n ≡ true) ⊎ ((j : ℕ) × (l : Lane) × (j ≢ i) × IsAt ls j l × (l.session.serial ≡ n))) → ServedSince q (slice_set ls i None)
  serves_freed have = record {
    serves = record {
      since = q;
      fits = λ j l is. elim (cases_eq j i) [
        | inl e ↦ absurd (none_some l (own_at j None l e is))
        | inr ne ↦ lane_spared s.since q l (beside.spares j l ne (still_at j None l ne is)) (s.fits j l (still_at j None l ne is))
      ];
      apart = λ j k l m is_l is_m same. elim (cases_eq j i) [
        | inl e ↦ absurd (none_some l (own_at j None l e is_l))
        | inr ne ↦ elim (cases_eq k i) [
          | inl e ↦ absurd (none_some m (own_at k None m e is_m))
          | inr ne' ↦ s.apart j k l m (still_at j None l ne is_l) (still_at k None m ne' is_m) same
        ]
      ];
      later = λ j l is. elim (cases_eq j i) [
        | inl e ↦ absurd (none_some l (own_at j None l e is))
        | inr ne ↦ s.later j l (still_at j None l ne is)
      ];
      have_places = λ n there. elim (have n there) [
        | inl was ↦ inl was
        | inr (j, l, ne, is, serial) ↦ inr (j, l, now_at j None l ne is, serial)
      ];
      untold = beside.untold;
      earlier = beside.earlier;
    };
    is = refl;
  }

  -- the place has this lane now
  pub serves_taken : (m : Lane) → LaneFits q m → start.state.next ≤ m.session.serial → ((j : ℕ) (l : Lane) → j ≢ i → IsAt ls j l → l.session.serial ≢ m.session.serial)
      → ((n : ℕ) → n ≢ m.session.serial → is_open b.state n ≡ true → (is_open start.state n ≡ true) ⊎ ((j : ℕ) × (l : Lane) × (j ≢ i) × IsAt ls j l × (l.session.serial ≡ n)))
      → ServedSince q (slice_set ls i (Some m))
  serves_taken m fits low other have = record {
    serves = record {
      since = q;
      fits = λ j l is. elim (cases_eq j i) [
        | inl e ↦ subst (λ (k : Lane). LaneFits q k) (same_Some m l (own_at j (Some m) l e is)) fits
        | inr ne ↦ lane_spared s.since q l (beside.spares j l ne (still_at j (Some m) l ne is)) (s.fits j l (still_at j (Some m) l ne is))
      ];
      apart = λ j k l o is_l is_o same. elim (cases_eq j i) [
        | inl e ↦ elim (cases_eq k i) [
          | inl e' ↦ e ∙ sym e'
          | inr ne ↦ absurd (other k o ne (still_at k (Some m) o ne is_o) (sym same ∙ sym (ap (λ (x : Lane). x.session.serial) (same_Some m l (own_at j (Some m) l e is_l)))))
        ]
        | inr ne ↦ elim (cases_eq k i) [
          | inl e ↦ absurd (other j l ne (still_at j (Some m) l ne is_l) (same ∙ sym (ap (λ (x : Lane). x.session.serial) (same_Some m o (own_at k (Some m) o e is_o)))))
          | inr ne' ↦ s.apart j k l o (still_at j (Some m) l ne is_l) (still_at k (Some m) o ne' is_o) same
        ]
      ];
      later = λ j l is. elim (cases_eq j i) [
        | inl e ↦ subst (λ (k : Lane). start.state.next ≤ k.session.serial) (same_Some m l (own_at j (Some m) l e is)) low
        | inr ne ↦ s.later j l (still_at j (Some m) l ne is)
      ];
      have_places = λ n there. elim (cases_eq n m.session.serial) [
        | inl e ↦ inr (i, m, get_or-set_at ls i i (Some m) None refl lt, sym e)
        | inr ne ↦ elim (have n ne there) [
          | inl was ↦ inl was
          | inr (j, l, ne', is, serial) ↦ inr (j, l, now_at j (Some m) l ne' is, serial)
        ]
      ];
      untold = beside.untold;
      earlier = beside.earlier;
    };
    is = refl;
  }

-- ---- one place was moved on

module _ {K D : Type 0} {start a : CoreState K D} (at : ℕ) (ls : List (Option Lane)) (i : ℕ) (lt : i < length ls) (s : Serves start a ls) where
  -- it is free now, and its session is closed if it had one
  pub freed : ((l : Lane) → IsAt ls i l → l.ended ≡ true) → ServesOn at s a (slice_set ls i None)
  freed gone = served_on at ls (slice_set ls i None) s s.since
      (serves_freed ls i lt s s.since (record { spares = λ j l ne is. spares_same (course_of s.since l.session.serial); untold = s.untold; earlier = s.earlier })
      (λ n there. elim (s.have_places n there) [
        | inl was ↦ inl was
        | inr (j, l, is, serial) ↦ elim (cases_eq j i) [
          | inl e ↦
              let here : IsAt ls i l = subst (λ (k : ℕ). IsAt ls k l) e is in
              absurd (false≢true (sym ((s.fits j l is).ends (gone l here)) ∙ (ap (λ k. is_open a.state k) serial ∙ there)))
          | inr ne ↦ inr (j, l, ne, is, serial)
        ]
      ]))
      [] (sym (append-nil s.since.entries)) refl (counts_none a)

  -- its lane was moved on
  moved : {b : CoreState K D} (l m : Lane) → IsAt ls i l → m.session ≡ l.session → Moves at s.since l b m → ServesOn at s b (slice_set ls i (Some m))
  moved {b} l m there same moves =
      let q = moves.goes.after in
      let serial : m.session.serial ≡ l.session.serial = ap (λ k. k.serial) same in
      let low : start.state.next ≤ l.session.serial = s.later i l there in
      let others : (j : ℕ) (k : Lane) → j ≢ i → IsAt ls j k → k.session.serial ≢ l.session.serial = λ j k ne is e. ne (s.apart j i k l is there e) in
      served_on at ls (slice_set ls i (Some m)) s q
      (serves_taken ls i lt s q
      (record {
        spares = λ j k ne is. moves.goes.beside k.session.serial (others j k ne is);
        untold = λ n. elim (cases_eq n l.session.serial) [
          | inl e ↦ untold_closed (course_of q n) (subst (λ (k : ℕ). is_some (course_of q k).closed ≡ not (course_of q k).is_open) (serial ∙ sym e) moves.fits.opens)
          | inr ne ↦ untold_spared (course_of s.since n) (course_of q n) (moves.goes.beside n ne) (s.untold n)
        ];
        earlier = λ n before.
            let ne : n ≢ l.session.serial = λ e. omega (arith, before, low, e) in
            spares_along (course_before start n) (course_of s.since n) (course_of q n) (s.earlier n before) (moves.goes.beside n ne);
      })
      m moves.fits (omega (arith, low, serial)) (λ j k ne is e. others j k ne is (e ∙ serial))
      (λ n ne there'.
      let ne' : n ≢ l.session.serial = λ e. ne (e ∙ sym serial) in
      elim (s.have_places n (open_before (course_of s.since n) (course_of q n) (moves.goes.beside n ne') there')) [
        | inl was ↦ inl was
        | inr (j, k, is, is_serial) ↦ elim (cases_eq j i) [
          | inl e ↦ absurd (ne' (sym is_serial ∙ ap (λ (x : Lane). x.session.serial) (same_Some k l (sym is ∙ (ap (λ (x : ℕ). get_or ls x None) e ∙ there)))))
          | inr ne'' ↦ inr (j, k, ne'', is, is_serial)
        ]
      ]))
      moves.goes.more moves.goes.adds moves.goes.timed moves.goes.counts

  -- in whichever way
  serves_moved : {b : CoreState K D} (place place' : Option Lane) → get_or ls i None ≡ place → MovesPlace at s.since place b place' → ServesOn at s b (slice_set ls i place')
  serves_moved {b} None place' is (same, none) =
      subst (λ (k : CoreState K D). ServesOn at s k (slice_set ls i place')) (sym same)
      (subst (λ (x : Option Lane). ServesOn at s a (slice_set ls i x)) (sym none) (freed (λ l there. absurd (none_some l (sym is ∙ there)))))
  serves_moved {b} (Some l) None is never = absurd never
  serves_moved {b} (Some l) (Some m) is (moves, same) = moved l m is same moves

-- what fits at a place
fits_place : {K D : Type 0} {start a : CoreState K D} (ls : List (Option Lane)) (i : ℕ) (s : Serves start a ls) (place : Option Lane) → get_or ls i None ≡ place → PlaceFits s.since place
fits_place ls i s None is = tt
fits_place ls i s (Some l) is = s.fits i l is

-- by the clause of a call
pub goes_at : {K D : Type 0} {a b : CoreState K D} (at : ℕ) (ls : List (Option Lane)) (i : ℕ) (place place' : Option Lane) → i < length ls → place ≡ get_or ls i place
    → ((start : CoreState K D) (since : Since start a) → PlaceFits since place → MovesPlace at since place b place') → PlacesGoOn at a ls b (slice_set ls i place')
goes_at at ls i place place' lt read moves start s =
    let is : get_or ls i None ≡ place = get_or_default ls i None place lt ∙ sym read in
    serves_moved at ls i lt s place place' is (moves start s.since (fits_place ls i s place is))

-- by the clauses of what moves a lane
pub moves_some : {K D : Type 0} {start a b : CoreState K D} (at : ℕ) (place : Option Lane) (l m : Lane) → place ≡ Some l → m.session ≡ l.session → (since : Since start a) → (LaneFits since l → Moves at since l b m) → PlaceFits since place → MovesPlace at since place b (Some m)
moves_some at None l m is same since moves f = absurd (none_some l is)
moves_some {b = b} at (Some k) l m is same since moves f =
    let e : k ≡ l = same_Some k l is in
    subst (λ (x : Lane). Moves at since x b m × (m.session ≡ x.session)) (sym e) (moves (subst (λ (x : Lane). LaneFits since x) e f), same)

pub moves_none : {K D : Type 0} {start a : CoreState K D} (at : ℕ) (place : Option Lane) → place ≡ None → (since : Since start a) → MovesPlace at since place a place
moves_none {a = a} at place is since = subst (λ (p : Option Lane). MovesPlace at since p a p) (sym is) (refl, refl)

-- ---- all places

module _ {K D : Type 0} {start a b : CoreState K D} (at : ℕ) (ls : List (Option Lane)) (s : Serves start a ls) (x : Passes at s.since b) where
  -- no session was meant
  serves_passed : ServesOn at s b ls
  serves_passed = served_on at ls ls s x.after
      (record {
        serves = record {
          since = x.after;
          fits = λ j l is. lane_spared s.since x.after l (x.all l.session.serial) (s.fits j l is);
          apart = s.apart;
          later = s.later;
          have_places = λ n there. s.have_places n (open_before (course_of s.since n) (course_of x.after n) (x.all n) there);
          untold = λ n. untold_spared (course_of s.since n) (course_of x.after n) (x.all n) (s.untold n);
          earlier = λ n low. spares_along (course_before start n) (course_of s.since n) (course_of x.after n) (s.earlier n low) (x.all n);
        };
        is = refl;
      })
      x.more x.adds x.timed x.counts

pub goes_none : {K D : Type 0} (at : ℕ) (a : CoreState K D) (ls : List (Option Lane)) → PlacesGoOn at a ls a ls
goes_none at a ls start s = record { after = s; more = []; adds = sym (append-nil s.since.entries); timed = refl; counts = counts_none a }

pub goes_unchanged : {K D : Type 0} {a b : CoreState K D} (at : ℕ) (ls : List (Option Lane)) → b ≡ a → PlacesGoOn at a ls b ls
goes_unchanged {a = a} at ls same = subst (λ (k : CoreState _ _). PlacesGoOn at a ls k ls) (sym same) (goes_none at a ls)

pub goes_along : {K D : Type 0} {a b c : CoreState K D} (at : ℕ) (ls ms ns : List (Option Lane)) → PlacesGoOn at a ls b ms → PlacesGoOn at b ms c ns → PlacesGoOn at a ls c ns
goes_along {a = a} {b = b} {c = c} at ls ms ns x y start s =
    let p = x start s in let q = y start p.after in
    record {
      after = q.after;
      more = p.more ++ q.more;
      adds = q.adds ∙ (ap (λ (l : List Entry). l ++ q.more) p.adds ∙ append_assoc s.since.entries p.more q.more);
      timed = timed_append at a.state p.more q.more b.state c.state p.timed q.timed;
      counts = counts_on a b c p.more q.more p.counts q.counts;
    }

pub goes_passed : {K D : Type 0} {a b : CoreState K D} (at : ℕ) (ls : List (Option Lane)) → ((start : CoreState K D) (since : Since start a) → Passes at since b) → PlacesGoOn at a ls b ls
goes_passed at ls passes start s = serves_passed at ls s (passes start s.since)

-- nothing was taken of any lane and nothing put
module _ (P : Lane → Lane → Type 0) where
  pub some_before : (p q : Option Lane) (m : Lane) → StaysAs P p q → q ≡ Some m → (l : Lane) × (p ≡ Some l) × P l m
  some_before None q m s is = absurd (none_some m (sym s ∙ is))
  some_before (Some l) None m s is = absurd s
  some_before (Some l) (Some n) m s is = (l, refl, subst (λ (k : Lane). P l k) (same_Some n m is) s)

  pub some_after : (p q : Option Lane) (l : Lane) → StaysAs P p q → p ≡ Some l → (m : Lane) × (q ≡ Some m) × P l m
  some_after None q l s is = absurd (none_some l is)
  some_after (Some k) None l s is = absurd s
  some_after (Some k) (Some m) l s is = (m, refl, subst (λ (x : Lane). P x m) (same_Some k l is) s)

pub goes_looked : {K D : Type 0} {a : CoreState K D} (at : ℕ) (ls ms : List (Option Lane)) → StayAs LooksAt ls ms → PlacesGoOn at a ls a ms
goes_looked {a = a} at ls ms looks start s =
    served_on at ls ms s s.since
    (record {
      serves = record {
        since = s.since;
        fits = λ i m is. let x = before i m is in lane_looked s.since x.0 m x.2 (s.fits i x.0 x.1);
        apart = λ i j m n is_m is_n same.
            let x = before i m is_m in let y = before j n is_n in
            s.apart i j x.0 y.0 x.1 y.1 (sym (ap (λ k. k.serial) x.2.2) ∙ (same ∙ ap (λ k. k.serial) y.2.2));
        later = λ i m is. let x = before i m is in let low = s.later i x.0 x.1 in omega (arith, low, ap (λ k. k.serial) x.2.2);
        have_places = λ n there. elim (s.have_places n there) [
          | inl was ↦ inl was
          | inr (i, l, is, serial) ↦ let y = some_after LooksAt (get_or ls i None) (get_or ms i None) l (looks.each i) is in inr (i, y.0, y.1, ap (λ k. k.serial) y.2.2 ∙ serial)
        ];
        untold = s.untold;
        earlier = s.earlier;
      };
      is = refl;
    })
    [] (sym (append-nil s.since.entries)) refl (counts_none a)
  where
    before : (i : ℕ) (m : Lane) → IsAt ms i m → (l : Lane) × IsAt ls i l × LooksAt l m
    before i m is = some_before LooksAt (get_or ls i None) (get_or ms i None) m (looks.each i) is

-- ---- from the first on

-- one free place more
pub free_more : (ls : List (Option Lane)) → AreFree ls → AreFree (ls ++ None ∷ [])
free_more [] free zero = refl
free_more [] free (suc at) = refl
free_more (l ∷ ls) free zero = free zero
free_more (l ∷ ls) free (suc at) = free_more ls (λ k. free (suc k)) at

pub serves_none : {K D : Type 0} (a : CoreState K D) (ls : List (Option Lane)) → HasHistory a.state a.kept → AreFree ls → (s : Serves a a ls) × (s.since.entries ≡ [])
serves_none a ls known free =
    let nothing = opens_none a known in (
      record {
        since = nothing.since;
        fits = λ j l is. absurd (none_some l (sym (free j) ∙ is));
        apart = λ j k l m is_l is_m same. absurd (none_some l (sym (free j) ∙ is_l));
        later = λ j l is. absurd (none_some l (sym (free j) ∙ is));
        have_places = λ n there. inl there;
        untold = λ n away none. (nothing.untouched n).2;
        earlier = nothing.earlier;
      },
      none_entered a known,
    )

-- ---- sessions that were opened together

-- a place of these
pub at_below : (ls : List (Option Lane)) (i : ℕ) (l : Lane) → IsAt ls i l → i < length ls
at_below [] i l is = absurd (none_some l is)
at_below (p ∷ ls) zero l is = omega arith
at_below (p ∷ ls) (suc i) l is = let lt = at_below ls i l is in omega (arith, lt)

new_at : (serial : ℕ) (ls : List (Option Lane)) (i : ℕ) → AreNewLanes serial ls → i < length ls → (l : Lane) × IsAt ls i l × IsNewLane (serial + i) l
new_at serial [] i are lt = absurd (omega (arith, lt))
new_at serial (p ∷ ls) zero are lt = (are.0.0, are.0.1, subst (λ (n : ℕ). IsNewLane n are.0.0) (omega arith) are.0.2)
new_at serial (p ∷ ls) (suc i) are lt =
    let r = new_at (serial + 1) ls i are.1 (omega (arith, lt)) in
    (r.0, r.1, subst (λ (n : ℕ). IsNewLane n r.0) (omega arith) r.2)

module _ {K D : Type 0} {start a : CoreState K D} (ls : List (Option Lane)) (o : OpensAll start start.state.next (length ls) a) (are : AreNewLanes start.state.next ls) where
  lane_new : (i : ℕ) (l : Lane) → IsAt ls i l → IsNewLane (start.state.next + i) l
  lane_new i l is = let x = new_at start.state.next ls i are (at_below ls i l is) in subst (λ (k : Lane). IsNewLane (start.state.next + i) k) (same_Some x.0 l (sym x.1 ∙ is)) x.2

  pub serves_opened : ServedSince o.since ls
  serves_opened = record {
    serves = record {
      since = o.since;
      fits = λ i l is.
          let new = lane_new i l is in let lt = at_below ls i l is in
          lane_fits o.since (start.state.next + i) None [] [] false false l
          (record { serial = new.session; cause = new.cause; taken = new.taken; puts = new.puts; is_marked = new.is_marked; is_ended = new.is_ended })
          (fits_new (course_of o.since (start.state.next + i)) (o.untouched (start.state.next + i)) (o.there (start.state.next + i) (omega arith) (omega (arith, lt))));
      apart = λ i j l m is_l is_m same. let x = (lane_new i l is_l).session in let y = (lane_new j m is_m).session in omega (arith, same, x, y);
      later = λ i l is. let x = (lane_new i l is).session in omega (arith, x);
      have_places = λ n there. elim (cases_lt n start.state.next) [
        | inl low ↦ inl (sym (o.others n low) ∙ there)
        | inr high ↦ elim (cases_lt n (start.state.next + length ls)) [
          | inl below ↦
              let i = n - start.state.next in
              let x = new_at start.state.next ls i are (omega (arith, high, below)) in
              inr (i, x.0, x.1, x.2.session ∙ omega (arith, high))
          | inr beyond ↦ absurd (false≢true (sym (coming_away o.since n (omega (arith, beyond, o.next))) ∙ there))
        ]
      ];
      untold = λ n away none. (o.untouched n).2;
      earlier = o.earlier;
    };
    is = refl;
  }
