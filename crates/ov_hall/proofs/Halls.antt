-- A hall whose places are taken and left.
use Rattle.std.proofs.Common.{◌≡◌, inl, inr, ℕ, ◌+◌, ◌<◌, ◌≤◌, List, [], ◌∷◌, length, get_or, slice_set, get_or-set_other, refl, sym, ap, subst, ◌∙◌, Bool, Option, Some, None, true, arith}
use Rattle.std.specs.Prelude.{◌||◌}
use Rattle.std.proofs.lemmas.Bool.{cases_eq, cases_lt, eq-eqb}
use Rattle.std.proofs.lemmas.Grind.{get_or-set_at}
use Rattle.ov_specs.specs.values.Uuid.{Uuid}
use Rattle.ov_specs.specs.machine.Machine as machine
use Rattle.ov_specs.specs.machine.Machine.{is_open}
use Rattle.ov_specs.proofs.laws.Turns.{turn_open}
use Rattle.ov_specs.proofs.laws.Truths.{or_truth}
use Rattle.ov_sessions.specs.declared.session.Session.{Session}
use Rattle.ov_history.specs.declared.event.Stepped.TheVariants as answer
use Rattle.ov_core.specs.Following.{CoreState}
use Rattle.ov_core.specs.Stepping.{IsEntered}
use Rattle.ov_lanes.specs.Lanes.{AreOver, PlacesGoOn, IsAt}
use Rattle.ov_lanes.specs.declared.lane.Lane.{Lane}
use Rattle.ov_workers.specs.declared.link.Link.{Link}
use Rattle.ov_lanes.proofs.PlaceLaws.{freed, none_some, at_below, goes_none, goes_along}
use Rattle.ov_hall.specs.declared.hall.Hall.{Hall}
use Rattle.ov_hall.specs.Guests.{HasPlace, TendsHall}
use Rattle.ov_workers.specs.LinkStates.{LinkState}
use Rattle.ov_hall.specs.Lists.{AreAmong, EachFrom}
use Rattle.ov_hall.specs.Seats.{AreSeats, Seating, WorkAt}
use Rattle.ov_threads.specs.declared.workers.Workers.{Workers}
use Rattle.ov_hall.proofs.Guests.{leaves_none, leaves_along, there_none, there_along}
use Rattle.ov_hall.specs.Admitting.{Admits}
use Rattle.ov_hall.specs.declared.admit.Admitted.{Admitted}
use Rattle.ov_hall.specs.declared.admit.Admitted.TheVariants as admitted

-- a place is free, whose session's reader has ended if there was one
pub goes_left : {K D : Type 0} {a : CoreState K D} (at : ℕ) (ls : List (Option Lane)) (i : ℕ) → i < length ls → ((l : Lane) → IsAt ls i l → l.ended ≡ true) → PlacesGoOn at a ls a (slice_set ls i None)
goes_left at ls i lt ended start s = freed at ls i lt s ended

-- a session that was opened is open, and its serial was the next one
pub opened_there : {K D : Type 0} {a b : CoreState K D} (draws : D → Uuid → D → Type 0) (at : ℕ) (session : Session) → IsEntered draws at machine.Open a (answer.Opened session) b → (is_open b.state a.state.next ≡ true) × (b.state.next ≡ a.state.next + 1)
opened_there {a = a} {b = b} draws at session entered =
    let n = a.state.next in
    let turn = turn_open n a.state entered.entry (record { state = b.state; sent = entered.moves.sent }) entered.moves.stepped entered.tells.0 in
    (turn.open_is ∙ (ap (λ (k : Bool). is_open a.state n || k) (eq-eqb n n refl) ∙ or_truth (is_open a.state n)), turn.next_is)

-- what a link was admitted to
pub admitted_goes : {K D : Type 0} {a b c : CoreState K D} (at : ℕ) (ls ms : List (Option Lane)) (i : ℕ) (m : Lane) → c ≡ b → ms ≡ slice_set ls i (Some m) → PlacesGoOn at a ls b (slice_set ls i (Some m)) → PlacesGoOn at a ls c ms
admitted_goes {a = a} {c = c} at ls ms i m same is goes =
    subst (λ (l : List (Option Lane)). PlacesGoOn at a ls c l) (sym is) (subst (λ (k : CoreState _ _). PlacesGoOn at a ls k (slice_set ls i (Some m))) (sym same) goes)

module _ {K D S W L : Type 0} (bells parts : ℕ) (link : Link S W) (old new : Seating K D S W L) where
  -- whatever it was, the lanes that were there are there, with their workers
  pub admitted_stays : (result : Admitted) → Admits bells parts link old result new → (at : ℕ) (l : Lane) (w : Workers S W L) → IsAt old.desk.lanes.items at l → WorkAt old.workers at w → IsAt new.desk.lanes.items at l × WorkAt new.workers at w
  admitted_stays admitted.Opened a at l w is works =
      let place = a.place in
      elim (cases_eq at place.at) [
        | inl e ↦ absurd (none_some l (sym place.free ∙ (ap (λ (k : ℕ). get_or old.desk.lanes.items k None) (sym e) ∙ is)))
        | inr ne ↦ (
          ap (λ (k : List (Option Lane)). get_or k at None) place.lanes ∙ (get_or-set_other old.desk.lanes.items place.at at (Some place.lane) None ne ∙ is),
          ap (λ (k : List (Option (Workers S W L))). get_or k at None) place.workers ∙ (get_or-set_other old.workers place.at at (Some place.works) None ne ∙ works),
        )
      ]
  admitted_stays admitted.Full a at l w is works = (ap (λ (k : List (Option Lane)). get_or k at None) a.1.1 ∙ is, ap (λ (k : List (Option (Workers S W L))). get_or k at None) a.1.2 ∙ works)
  admitted_stays (admitted.Refused why) a at l w is works = (ap (λ (k : List (Option Lane)). get_or k at None) a.1.1 ∙ is, ap (λ (k : List (Option (Workers S W L))). get_or k at None) a.1.2 ∙ works)

  -- whether the link got a session
  pub record Seats : Type 0 where
    pub seated : List (Link S W)
    pub among : AreAmong seated (link ∷ [])
    pub next : new.desk.core.state.next ≡ old.desk.core.state.next + length seated
    pub places : EachFrom (λ n k. HasPlace new.desk.lanes.items new.workers n k) old.desk.core.state.next seated

  not_seated : new.desk.core ≡ old.desk.core → Seats
  not_seated same = record { seated = []; among = tt; next = (let next = ap (λ (k : CoreState _ _). k.state.next) same in omega (arith, next)); places = tt }

  pub admitted_seats : (result : Admitted) → Admits bells parts link old result new → Seats
  admitted_seats admitted.Opened a =
      let place = a.place in
      record {
        seated = link ∷ [];
        among = inl (refl, tt);
        next = (let next = a.next in omega (arith, next));
        places = (
          (
            place.at,
            place.lane,
            place.works,
            ap (λ (k : List (Option Lane)). get_or k place.at None) place.lanes ∙ get_or-set_at old.desk.lanes.items place.at place.at (Some place.lane) None refl place.within.0,
            ap (λ (k : List (Option (Workers S W L))). get_or k place.at None) place.workers ∙ get_or-set_at old.workers place.at place.at (Some place.works) None refl place.within.1,
            place.session,
            place.handed,
          ),
          tt,
        );
      }
  admitted_seats admitted.Full a = not_seated a.1.0
  admitted_seats (admitted.Refused why) a = not_seated a.1.0

-- ---- a hall that is tended

module _ {K D S W L : Type 0} (ends : S → W → LinkState) where
  pub tends_none : (a : Hall K D S W L) → AreSeats a → TendsHall ends a a
  tends_none a seats = record {
    core = refl;
    many = refl;
    goes = λ moment. goes_none moment a.desk.core a.desk.lanes.items;
    leaves = leaves_none ends a.desk.lanes.items a.workers.items;
    there = there_none a.desk.lanes.items;
    same = (refl, refl);
    seats = seats;
  }

  pub tends_along : (a b c : Hall K D S W L) → TendsHall ends a b → TendsHall ends b c → TendsHall ends a c
  tends_along a b c x y = record {
    core = y.core ∙ x.core;
    many = y.many ∙ x.many;
    goes = λ moment. goes_along moment a.desk.lanes.items b.desk.lanes.items c.desk.lanes.items (x.goes moment) (y.goes moment);
    leaves = leaves_along ends a.desk.lanes.items b.desk.lanes.items c.desk.lanes.items a.workers.items b.workers.items c.workers.items x.leaves y.leaves;
    there = there_along a.desk.lanes.items b.desk.lanes.items c.desk.lanes.items x.there y.there;
    same = (y.same.0 ∙ x.same.0, y.same.1 ∙ x.same.1);
    seats = y.seats;
  }

-- ---- places that are freed one after another

module _ (ls : List (Option Lane)) (i : ℕ) where
  pub emptied_over : i < length ls → AreOver ls → AreOver (slice_set ls i None)
  emptied_over lt over at l is = elim (cases_eq at i) [
    | inl e ↦ absurd (none_some l (sym (get_or-set_at ls i at None None e lt) ∙ is))
    | inr ne ↦ over at l (sym (get_or-set_other ls i at None None ne) ∙ is)
  ]

  pub emptied_more : i < length ls → ((j : ℕ) → j < i → get_or ls j None ≡ None) → (j : ℕ) → j < i + 1 → get_or (slice_set ls i None) j None ≡ None
  emptied_more lt free j low = elim (cases_eq j i) [
    | inl e ↦ get_or-set_at ls i j None None e lt
    | inr ne ↦ get_or-set_other ls i j None None ne ∙ free j (omega (arith, low, ne))
  ]

beyond : (ls : List (Option Lane)) (at : ℕ) (p : Option Lane) → get_or ls at None ≡ p → length ls ≤ at → p ≡ None
beyond ls at None is high = refl
beyond ls at (Some l) is high = absurd (let lt = at_below ls at l is in omega (arith, lt, high))

-- all of them
pub all_emptied : (ls : List (Option Lane)) (n : ℕ) → length ls ≤ n → ((j : ℕ) → j < n → get_or ls j None ≡ None) → (at : ℕ) → get_or ls at None ≡ None
all_emptied ls n long free at = elim (cases_lt at n) [
  | inl low ↦ free at low
  | inr high ↦ beyond ls at (get_or ls at None) refl (omega (arith, long, high))
]
