use Rattle.std.proofs.Common.{◌≡◌, map, drop}
use Rattle.std.specs.List.{list_any}
use Rattle.ov_schema_text.specs.ShapeViews.{named_table_view}
use Rattle.ov_schema_text.proofs.parse.schema_shape.SchemaShape.has_root.Given as goal

abbrev pub invariant-loop-table : goal.invariant-loop-table
invariant-loop-table l =
    list_any (λ t. t.1.is_root) (map named_table_view l.table-items) ≡ list_any (λ t. t.1.is_root) (map named_table_view (drop l.table-index l.table-items))
