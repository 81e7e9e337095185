use Rattle.std.proofs.Common.{sym, ◌∙◌}
use Rattle.std.specs.FinMap.{get}
use Rattle.ov_rows.specs.Nested.{id_cmp}
use Rattle.ov_rows.proofs.Maps.{get-lookup}
use Rattle.ov_rows.proofs.table_rows.TableRows.row.Goals as goal

pub returns : goal.returns
returns c = c.get.ensures.value ∙ sym (get-lookup id_cmp c.self.inside.rows.entries c.new.result c.self.invariant) ∙ (λ i. get (c.self.view_is i) (c.new.ensures i))
