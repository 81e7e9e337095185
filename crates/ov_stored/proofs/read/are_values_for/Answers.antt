use Rattle.std.proofs.Common.{ℕ, List, sym, ap, ◌∙◌}
use Rattle.ov_specs.specs.schema.SchemaTypes.{Column}
use Rattle.ov_stored.proofs.Guessed.{are_rest_for, are_values_in_turn}
use Rattle.ov_stored.proofs.read.are_values_for.Goals as goal

pub loop-name-init : goal.loop-name-init
loop-name-init c =
    are_values_in_turn c.args.table.now c.args.values ∙ ap (λ (cs : List (List ℕ × Column)). are_rest_for cs c.args.values) (sym c.columns-name-items.ensures)
