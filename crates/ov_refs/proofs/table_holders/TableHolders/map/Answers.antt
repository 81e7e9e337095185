use Rattle.std.proofs.Common.{sym, ap, ◌∙◌}
use Rattle.std.specs.FinMap.{entries, entries-from_sorted}
use Rattle.ov_rows.specs.Nested.{id_cmp}
use Rattle.ov_refs.specs.Holding.{TableHolders}
use Rattle.ov_refs.proofs.table_holders.TableHolders.map.Goals as goal

pub returns : goal.returns
returns c = sym (entries-from_sorted id_cmp c.self.inside.rows.entries c.self.invariant) ∙ ap (λ (holders : TableHolders). entries holders) c.self.view_is
