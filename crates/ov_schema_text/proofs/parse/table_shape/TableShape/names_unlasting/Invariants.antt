use Rattle.std.proofs.Common.{◌≡◌, not, drop}
use Rattle.std.specs.List.{list_any}
use Rattle.ov_specs.specs.schema.Schema.{column_named, is_lasting}
use Rattle.ov_schema_text.specs.ShapeViews.{texts_view, table_view}
use Rattle.ov_schema_text.proofs.parse.table_shape.TableShape.names_unlasting.Given as goal

abbrev pub invariant-loop-name : goal.invariant-loop-name
invariant-loop-name l =
    list_any (λ name. not (is_lasting (column_named (table_view l.self).columns name))) (texts_view l.index)
    ≡ list_any (λ name. not (is_lasting (column_named (table_view l.self).columns name))) (texts_view (drop l.name-index l.index))
