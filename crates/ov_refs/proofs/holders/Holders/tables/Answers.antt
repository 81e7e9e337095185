use Rattle.std.proofs.Common.{sym, ap, ◌∙◌}
use Rattle.std.specs.FinMap.{entries}
use Rattle.ov_rows.proofs.Nested.{entries-nested_of}
use Rattle.ov_refs.specs.Holding.{Holders}
use Rattle.ov_refs.proofs.holders.Holders.tables.Goals as goal

pub returns : goal.returns
returns c = sym (entries-nested_of c.self.inside.tables.entries c.self.invariant) ∙ ap (λ (holders : Holders). entries holders) c.self.view_is
