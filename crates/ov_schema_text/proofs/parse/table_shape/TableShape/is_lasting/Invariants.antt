use Rattle.std.proofs.Common.{◌≡◌, map, drop}
use Rattle.ov_specs.specs.schema.Schema.{column_named}
use Rattle.ov_schema_text.specs.ShapeViews.{named_column_view}
use Rattle.ov_schema_text.proofs.parse.table_shape.TableShape.is_lasting.Given as goal

abbrev pub invariant-loop-known : goal.invariant-loop-known
invariant-loop-known l =
    column_named (map named_column_view l.known-items) l.name ≡ column_named (map named_column_view (drop l.known-index l.known-items)) l.name
