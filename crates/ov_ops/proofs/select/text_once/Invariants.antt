use Rattle.std.proofs.Common.{◌≡◌, [], map, take}
use Rattle.std.specs.List.{list_any}
use Rattle.serde_json.specs.View.{items_of}
use Rattle.ov_specs.specs.operations.Select.{written_row}
use Rattle.ov_specs.specs.rows.Database.{same_columns}
use Rattle.ov_projection.proofs.Repeats.{Shown, kept_with}
use Rattle.ov_projection.proofs.Showing.{any_at}
use Rattle.ov_ops.proofs.select.text_once.Given as goal

abbrev pub invariant-loop-row : goal.invariant-loop-row
invariant-loop-row l = record {
  text : l.text ≡ items_of (map written_row (kept_with same_columns [] (take l.row-index l.rows)));
  seen : (q : Shown) → any_at q l.seen.keys ≡ list_any (λ x. same_columns x q) (take l.row-index l.rows);
}
