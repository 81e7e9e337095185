use Rattle.std.proofs.Common.{◌≡◌, take}
use Rattle.ov_schema_text.specs.ShapeViews.{texts_view}
use Rattle.ov_schema_text.proofs.build.tables.copy_texts.Given as goal

abbrev pub invariant-loop-text : goal.invariant-loop-text
invariant-loop-text l = l.copies.items ≡ texts_view (take l.text-index l.texts)
