use Rattle.std.proofs.Common.{◌≡◌, drop}
use Rattle.std.specs.List.{list_any}
use Rattle.std.specs.Str.{bytes_eq}
use Rattle.ov_schema_text.specs.ShapeViews.{texts_view}
use Rattle.ov_schema_text.proofs.judge.index_rules.has_name.Given as goal

abbrev pub invariant-loop-other : goal.invariant-loop-other
invariant-loop-other l = list_any (λ other. bytes_eq other l.name) (texts_view l.names) ≡ list_any (λ other. bytes_eq other l.name) (texts_view (drop l.other-index l.names))
