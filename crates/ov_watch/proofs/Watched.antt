-- The monitors of the sessions, by what the map has at their serials.
use Rattle.std.proofs.Common.{◌≡◌, ℕ, List, [], ◌∷◌, ◌++◌, Bool, true, false, cond, eqb, Option, Some, Result, Ok, Err, refl, sym, ap, subst, ◌∙◌}
use Rattle.std.specs.Prelude.{unwrap_or, OnErr}
use Rattle.std.specs.BTreeMap.{BTreeMap, is_at, get}
use Rattle.std.specs.Ordering.{nat_cmp}
use Rattle.std.specs.Map.{set_value}
use Rattle.std.proofs.lemmas.Map.Steps.{set_value_same}
use Rattle.ov_specs.specs.monitors.Monitors.{Monitor}
use Rattle.ov_specs.specs.monitors.Requests.{MonitorFault}
use Rattle.ov_watch.specs.declared.fault.WatchFault.{WatchFault}
use Rattle.ov_watch.specs.declared.fault.WatchFault.TheVariants as fault
use Rattle.ov_watch.specs.Views.{IsWatchResult}
use Rattle.ov_sessions.proofs.Keying.{same_serial}
use Rattle.ov_watch.specs.Watching.{Watching, monitors_at, WatchesWith, WatchesAsGiven}

abbrev pub Watched : Type 0
Watched = BTreeMap ℕ (List Monitor)

-- those that are there, or none
abbrev pub monitors_in : Option (List Monitor) → List Monitor
monitors_in o = unwrap_or o []

-- after the map was updated at one serial
pub watched_after : (m n : Watched) (s : ℕ) (w : Option (List Monitor)) → ((q : ℕ) → get nat_cmp n q ≡ cond (is_at (nat_cmp s) q) w (get nat_cmp m q)) → WatchesWith s (monitors_in w) m.entries n.entries
watched_after m n s w h other = ap monitors_in (h other ∙ ap (λ b. cond b w (get nat_cmp m other)) (same_serial s other)) ∙ by_test (eqb other s)
  where
    by_test : (b : Bool) → monitors_in (cond b w (get nat_cmp m other)) ≡ cond b (monitors_in w) (monitors_in (get nat_cmp m other))
    by_test true = refl
    by_test false = refl

-- if its monitors are as they were, the map is
pub kept_watched : (s : ℕ) (result : Result (Unit {0}) WatchFault) (m n : Watched) (before after : List Monitor) → Some before ≡ get nat_cmp m s → n.entries ≡ set_value (is_at (nat_cmp s)) m.entries after → OnErr result (after ≡ before) → OnErr result (n.entries ≡ m.entries)
kept_watched s (Ok u) m n before after found set same = tt
kept_watched s (Err fault) m n before after found set same = set ∙ (ap (λ w. set_value (is_at (nat_cmp s)) m.entries w) same ∙ set_value_same (is_at (nat_cmp s)) m.entries before (sym found))

-- a list with one more at its end is not empty
pub not_empty : (front : List Monitor) (m : Monitor) → [] ≡ front ++ m ∷ [] → ⊥
not_empty [] m h = cc
not_empty (x ∷ front) m h = cc

-- if there is a fault, it does not matter what was changed
its_fault : (seen : Unit {0} → List Monitor) (given : Result (List Monitor) MonitorFault) (fault : WatchFault) → IsWatchResult seen given (Err fault) → IsWatchResult {A = Unit {0}} (λ _. []) given (Err fault)
its_fault seen given fault.Syntax h = h
its_fault seen given fault.UnknownTable h = h
its_fault seen given fault.UnknownColumn h = h
its_fault seen given fault.Duplicate h = h
its_fault seen given fault.Unknown h = h
its_fault seen given fault.Limit h = h
its_fault seen given fault.Memory h = h

-- the session has what its own monitors became
pub as_given : (s : ℕ) (given : List Monitor → Result (List Monitor) MonitorFault) (result : Result (Unit {0}) WatchFault) (before after : List Monitor) (old new : Watching) → before ≡ monitors_at s old
    → IsWatchResult (λ _. after) (given before) result → OnErr result (new ≡ old) → WatchesWith s after old new → WatchesAsGiven s (given (monitors_at s old)) old result new
as_given s given (Ok u) before after old new is h kept with =
    let P : List Monitor → Type 0 = λ b. given b ≡ Ok after in
    (after, subst P is h, with)
as_given s given (Err fault) before after old new is h kept with =
    let P : List Monitor → Type 0 = λ b. IsWatchResult {A = Unit {0}} (λ _. after) (given b) (Err fault) in
    (its_fault (λ _. after) (given (monitors_at s old)) fault (subst P is h), kept)
