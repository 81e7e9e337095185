use Rattle.std.proofs.Common.{sym, ◌∙◌}
use Rattle.std.specs.FinMap.{get}
use Rattle.ov_refs.proofs.HolderMaps.{get-table_rows_of}
use Rattle.ov_refs.proofs.table_holders.TableHolders.of.Goals as goal

pub returns : goal.returns
returns c = c.get.ensures.value ∙ sym (get-table_rows_of c.self.inside.rows.entries c.new.result c.self.invariant) ∙ (λ i. get (c.self.view_is i) (c.new.ensures i))
