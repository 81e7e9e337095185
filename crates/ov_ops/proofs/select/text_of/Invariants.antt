use Rattle.std.proofs.Common.{◌≡◌, map, take}
use Rattle.serde_json.specs.View.{items_of}
use Rattle.ov_specs.specs.operations.Select.{written_row}
use Rattle.ov_ops.specs.Shown.{shown_of}
use Rattle.ov_ops.proofs.select.text_of.Given as goal

abbrev pub invariant-loop-at : goal.invariant-loop-at
invariant-loop-at l = l.text ≡ items_of (map (λ r. written_row (shown_of l.names r)) (take l.at l.rows))
