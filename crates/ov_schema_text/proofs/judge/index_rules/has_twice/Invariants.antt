use Rattle.std.proofs.Common.{◌≡◌, drop}
use Rattle.ov_specs.specs.schema.Schema.{has_twice}
use Rattle.ov_schema_text.specs.ShapeViews.{texts_view}
use Rattle.ov_schema_text.proofs.judge.index_rules.has_twice.Given as goal

abbrev pub invariant-loop-at : goal.invariant-loop-at
invariant-loop-at l = has_twice (texts_view l.names) ≡ has_twice (texts_view (drop l.at l.names))
