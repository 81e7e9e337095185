use Rattle.std.proofs.Common.{◌≡◌, drop}
use Rattle.std.specs.List.{list_any}
use Rattle.ov_specs.specs.schema.Schema.{is_bad_index}
use Rattle.ov_schema_text.specs.ShapeViews.{indexes_view, table_view}
use Rattle.ov_schema_text.proofs.parse.table_shape.TableShape.has_bad_index.Given as goal

abbrev pub invariant-loop-index : goal.invariant-loop-index
invariant-loop-index l =
    list_any (is_bad_index (table_view l.self)) (indexes_view l.index-items) ≡ list_any (is_bad_index (table_view l.self)) (indexes_view (drop l.index-index l.index-items))
