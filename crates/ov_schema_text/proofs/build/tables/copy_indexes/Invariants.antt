use Rattle.std.proofs.Common.{◌≡◌, take}
use Rattle.ov_schema.specs.Built.{indexes_in}
use Rattle.ov_schema_text.specs.ShapeViews.{indexes_view}
use Rattle.ov_schema_text.proofs.build.tables.copy_indexes.Given as goal

abbrev pub invariant-loop-index : goal.invariant-loop-index
invariant-loop-index l = indexes_in l.copies.items ≡ indexes_view (take l.index-index l.indexes)
