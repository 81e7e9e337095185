use Rattle.std.proofs.Common.{◌≡◌, map, drop}
use Rattle.std.specs.List.{list_any}
use Rattle.std.specs.Str.{bytes_eq}
use Rattle.ov_schema_text.specs.ShapeViews.{named_table_view}
use Rattle.ov_schema_text.proofs.parse.schema_shape.SchemaShape.has_table.Given as goal

abbrev pub invariant-loop-known : goal.invariant-loop-known
invariant-loop-known l =
    list_any (λ t. bytes_eq t.0 l.name) (map named_table_view l.known-items) ≡ list_any (λ t. bytes_eq t.0 l.name) (map named_table_view (drop l.known-index l.known-items))
