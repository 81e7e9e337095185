use Rattle.std.proofs.Common.{◌≡◌, ◌+◌, ℕ, List, drop}
use Rattle.std.specs.Prelude.{option_map}
use Rattle.serde_json.specs.View.{items_view}
use Rattle.ov_specs.specs.operations.NamedUuids.{place_declared}
use Rattle.std.specs.Option.{option_or}
use Rattle.ov_given.specs.Naming.{place_at}
use Rattle.ov_given.proofs.names.places_of.Given as goal

abbrev pub invariant-loop-place : goal.invariant-loop-place
invariant-loop-place l =
    (name : List ℕ) → option_or (place_at l.places name) (option_map (λ n. l.place + n) (place_declared name (items_view (drop l.place l.operations)))) ≡ place_declared name (items_view l.operations)
