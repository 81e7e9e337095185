use Rattle.std.proofs.Common.{◌≡◌, map, drop}
use Rattle.std.specs.List.{list_any}
use Rattle.ov_schema_text.specs.ShapeViews.{named_column_view, schema_view}
use Rattle.ov_schema_text.specs.Flaws.{column_has}
use Rattle.ov_schema_text.proofs.parse.table_shape.TableShape.has_in_columns.Given as goal

abbrev pub invariant-loop-name : goal.invariant-loop-name
invariant-loop-name l =
    list_any (λ c. column_has (schema_view l.schema) l.flaw c.0 c.1) (map named_column_view l.name-items)
    ≡ list_any (λ c. column_has (schema_view l.schema) l.flaw c.0 c.1) (map named_column_view (drop l.name-index l.name-items))
