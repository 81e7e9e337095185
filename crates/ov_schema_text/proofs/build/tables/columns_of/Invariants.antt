use Rattle.std.proofs.Common.{◌≡◌, map, take}
use Rattle.ov_schema_text.specs.Built.{named_column_of}
use Rattle.ov_schema.specs.NamedViews.{named_view}
use Rattle.ov_schema_text.specs.ShapeViews.{named_column_view}
use Rattle.ov_schema_text.proofs.build.tables.columns_of.Given as goal

abbrev pub invariant-loop-name : goal.invariant-loop-name
invariant-loop-name l = map named_view l.columns.items ≡ map named_column_of (map named_column_view (take l.name-index l.shapes))
