use Rattle.std.proofs.Common.{◌≡◌, map, take}
use Rattle.ov_schema_text.specs.Built.{named_table_of}
use Rattle.ov_schema_text.specs.ShapeViews.{named_table_view}
use Rattle.ov_schema_text.proofs.schema.tables_of.Given as goal

abbrev pub invariant-loop-name : goal.invariant-loop-name
invariant-loop-name l = l.tables.items ≡ map (named_table_of l.some_root) (map named_table_view (take l.name-index l.shapes))
