use Rattle.std.proofs.Common.{◌≡◌, drop}
use Rattle.serde_json.specs.Find.{as_str}
use Rattle.serde_json.specs.View.{items_view}
use Rattle.ov_specs.specs.values.Reading.{each_read}
use Rattle.ov_specs.specs.values.Reading.{list_read}
use Rattle.ov_atoms.proofs.Lists.{after}
use Rattle.ov_schema_text.specs.ShapeViews.{indexes_view}
use Rattle.ov_schema_text.proofs.parse.table_shape.indexes_of.Given as goal

abbrev pub invariant-loop-item : goal.invariant-loop-item
invariant-loop-item l = each_read (list_read as_str) (items_view l.item-items) ≡ after (indexes_view l.indexes.items) (each_read (list_read as_str) (items_view (drop l.item-index l.item-items)))
