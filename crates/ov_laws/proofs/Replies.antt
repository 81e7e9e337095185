-- The reply at the end of what is sent.
use Rattle.std.proofs.Common.{◌≡◌, ℕ, List, [], ◌∷◌, ◌++◌, map, Option, Some, None, refl, sym, ap, ◌∙◌}
use Rattle.std.specs.Prelude.{codes, option_and_then}
use Rattle.std.proofs.lemmas.Option.{same_Some}
use Rattle.serde_json.specs.Data.{Data, Items}
use Rattle.serde_json.specs.Find.{as_array}
use Rattle.serde_json.specs.Find as find
use Rattle.ov_specs.specs.locks.Queues.{locked_notification}
use Rattle.ov_specs.specs.machine.Machine.{Sent, told, results_to}

-- the results of the last tree that is sent, if it is a reply with results
abbrev pub last_results : List Sent → Option Items
last_results [] = None
last_results (x ∷ []) = option_and_then as_array (find.get (codes "result") x.tree)
last_results (x ∷ y ∷ sent) = last_results (y ∷ sent)

last-one : (sent : List Sent) (x : Sent) → last_results (sent ++ x ∷ []) ≡ last_results (x ∷ [])
last-one [] x = refl
last-one (y ∷ []) x = refl
last-one (y ∷ z ∷ sent) x = last-one (z ∷ sent) x

pub last-append : (sent : List Sent) (n : ℕ) (id : Data) (results : Items) → last_results (sent ++ results_to n id results) ≡ Some results
last-append sent n id results = last-one sent _

-- a reply has one array of results
pub same_results : (sent other : List Sent) (n m : ℕ) (i j : Data) (a b : Items) → sent ++ results_to n i a ≡ other ++ results_to m j b → a ≡ b
same_results sent other n m i j a b h = same_Some a b (sym (last-append sent n i a) ∙ (ap last_results h ∙ last-append other m j b))

-- those that become owners of locks are sent no results
pub notifications_tell_no_results : (freed : List (ℕ × List ℕ)) → last_results (told (map (λ f. (f.0, locked_notification f.1)) freed)) ≡ None
notifications_tell_no_results [] = refl
notifications_tell_no_results (f ∷ []) = refl
notifications_tell_no_results (f ∷ g ∷ freed) = notifications_tell_no_results (g ∷ freed)
