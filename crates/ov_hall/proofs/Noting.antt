-- What notes make of the places of a hall.
use Rattle.std.proofs.Common.{◌≡◌, inl, inr, ℕ, List, [], ◌∷◌, ◌++◌, length, get_or, refl, sym, ap, subst, ◌∙◌, append_assoc, append-nil, Bool, true, false, Option, Some, None, cond, arith, rules}
use Rattle.std.specs.Prelude.{option_to_list, MatchBool}
use Rattle.rtrb.specs.Ring.{received}
use Rattle.ov_lanes.specs.Lanes.{SameLane, PutsAlone, StayAs}
use Rattle.ov_lanes.specs.declared.lane.Lane.{Lane}
use Rattle.ov_lanes.proofs.PlaceLaws.{some_after}
use Rattle.ov_hall.specs.declared.hall.Hall.{Hall}
use Rattle.ov_workers.specs.LinkStates.{LinkState}
use Rattle.ov_threads.specs.declared.workers.Workers.{Workers}
use Rattle.ov_hall.specs.Seats.{ArePlaces, AreSeats}
use Rattle.ov_hall.specs.Guests.{StayOrLeave, TakesNote, TakesNotes, ServesNote, ServesEach, is_of_lobby, session_notes, notes_in}
use Rattle.ov_hall.specs.Serving.{AreApart, TakesFor, KeepsPlaces, TakesNoted, IsTended}
use Rattle.ov_hall.proofs.Running.{tended_same, puts_taken, kept_noted}
use Rattle.ov_hall.proofs.Seats.{works_at}

-- ---- one lane

for_none : (l m : Lane) → SameLane l m × (received m.inbound ≡ received l.inbound) → TakesFor [] l m
for_none l m (same, taken) = (same, let e = ap length taken in omega (arith, e))

for_self : (l : Lane) → TakesFor [] l l
for_self l = for_none l l (tended_same l l (refl, refl, refl, refl, refl, refl))

for_along : (notes : List ℕ) (l m k : Lane) → TakesFor notes l m → TakesFor [] m k → TakesFor notes l k
for_along notes l m k (same, count) (same', count') = (search rules, omega (arith, count, count'))

-- ---- all places

module _ {S W : Type 0} (ends : S → W → LinkState) where
  pub notes_none : (ls : List (Option Lane)) → TakesNotes ends [] ls ls
  notes_none ls at l is = (l, for_self l, inl is)

  -- bells were rung, and sessions have left
  pub notes_left : {L : Type 0} (keeps : Bool) (ls ms : List (Option Lane)) (ws vs : List (Option (Workers S W L))) → ArePlaces keeps ls ws → StayOrLeave IsTended ends ls ws ms vs → TakesNotes ends [] ls ms
  notes_left keeps ls ms ws vs seats x at l is =
      let w = works_at keeps ls ws at l is seats in
      elim (x at l w.0 is w.1) [
        | inl (m, there, works, t) ↦ (m, for_none l m (tended_same l m t), inl there)
        | inr (link, has, left) ↦ (l, for_self l, inr (link, left))
      ]

  -- what waits was moved
  pub notes_puts : (ls ms : List (Option Lane)) → StayAs PutsAlone ls ms → TakesNotes ends [] ls ms
  notes_puts ls ms s at l is = let y = some_after PutsAlone (get_or ls at None) (get_or ms at None) l (s.each at) is in (y.0, for_none l y.0 (puts_taken l y.0 y.2), inl y.1)

  notes_kept : (notes : List ℕ) (ls ms : List (Option Lane)) → KeepsPlaces notes ls ms → TakesNotes ends notes ls ms
  notes_kept notes ls ms s at l is = let y = some_after (TakesFor notes) (get_or ls at None) (get_or ms at None) l (s.each at) is in (y.0, y.2, inl y.1)

  pub notes_then : (notes : List ℕ) (ls ms ns : List (Option Lane)) → TakesNotes ends notes ls ms → TakesNotes ends [] ms ns → TakesNotes ends notes ls ns
  notes_then notes ls ms ns x y at l is =
      let p = x at l is in
      elim p.2 [
        | inl there ↦ let q = y at p.0 there in (q.0, for_along notes l p.0 q.0 p.1 q.1, q.2)
        | inr left ↦ (p.0, p.1, inr left)
      ]

-- ---- a note

module _ {K D S W L : Type 0} (ends : S → W → LinkState) where
  pub noted_of : (old : Hall K D S W L) (note : ℕ) (taken : Bool) (new : Hall K D S W L) → AreSeats old → TakesNote ends note old taken new → AreApart old.desk.lanes.items → TakesNotes ends (session_notes old (Some note)) old.desk.lanes.items new.desk.lanes.items
  noted_of old note taken new seats x apart = by (is_of_lobby old note) x
    where
      by : (b : Bool) → MatchBool b (StayOrLeave IsTended ends old.desk.lanes.items old.workers.items new.desk.lanes.items new.workers.items) (StayAs SameLane old.desk.lanes.items new.desk.lanes.items × TakesNoted note old.desk.lanes.items taken new.desk.lanes.items)
          → TakesNotes ends (cond b [] (note ∷ [])) old.desk.lanes.items new.desk.lanes.items
      by true left = notes_left ends old.keeps old.desk.lanes.items new.desk.lanes.items old.workers.items new.workers.items seats left
      by false turned = notes_kept ends (note ∷ []) old.desk.lanes.items new.desk.lanes.items (kept_noted note old.desk.lanes.items new.desk.lanes.items turned.0 taken turned.1 apart)

  -- one after another
  pub each_more : (notes : List (Option ℕ)) (note : Option ℕ) (a b c : Hall K D S W L) → ServesEach ends notes a b → ServesNote ends note b c → ServesEach ends (notes ++ note ∷ []) a c
  each_more [] note a b c same step = (c, subst (λ (h : Hall K D S W L). ServesNote ends note h c) same step, refl)
  each_more (n ∷ notes) note a b c (mid, first, rest) step = (mid, first, each_more notes note mid b c rest step)

notes_in_more : (notes : List (Option ℕ)) (note : Option ℕ) → notes_in (notes ++ note ∷ []) ≡ notes_in notes ++ option_to_list note
notes_in_more [] note = append-nil (option_to_list note)
notes_in_more (n ∷ notes) note = ap (λ (l : List ℕ). option_to_list n ++ l) (notes_in_more notes note) ∙ sym (append_assoc (option_to_list n) (notes_in notes) (option_to_list note))

-- one note more was taken, or none
pub taken_more : (first old new : List ℕ) (notes : List (Option ℕ)) (note : Option ℕ) → old ≡ first ++ notes_in notes → new ≡ old ++ option_to_list note → new ≡ first ++ notes_in (notes ++ note ∷ [])
taken_more first old new notes note was is =
    is
    ∙ (ap (λ (l : List ℕ). l ++ option_to_list note) was
    ∙ (append_assoc first (notes_in notes) (option_to_list note) ∙ ap (λ (l : List ℕ). first ++ l) (sym (notes_in_more notes note))))
