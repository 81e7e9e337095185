use Rattle.std.proofs.Common.{◌≡◌, map, drop}
use Rattle.std.specs.List.{list_any}
use Rattle.ov_schema_text.specs.ShapeViews.{named_table_view, schema_view}
use Rattle.ov_schema_text.specs.Flaws.{table_has}
use Rattle.ov_schema_text.proofs.parse.schema_shape.SchemaShape.has.Given as goal

abbrev pub invariant-loop-name : goal.invariant-loop-name
invariant-loop-name l =
    list_any (λ t. table_has (schema_view l.self) l.flaw t.0 t.1) (map named_table_view l.name-items)
    ≡ list_any (λ t. table_has (schema_view l.self) l.flaw t.0 t.1) (map named_table_view (drop l.name-index l.name-items))
