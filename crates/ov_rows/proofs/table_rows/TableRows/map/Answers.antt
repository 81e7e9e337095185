use Rattle.std.proofs.Common.{sym, ap, ◌∙◌}
use Rattle.std.specs.FinMap.{entries, entries-from_sorted}
use Rattle.ov_rows.specs.Nested.{id_cmp, TableRows}
use Rattle.ov_rows.proofs.table_rows.TableRows.map.Goals as goal

pub returns : goal.returns
returns c = sym (entries-from_sorted id_cmp c.self.inside.rows.entries c.self.invariant) ∙ ap (λ (table : TableRows). entries table) c.self.view_is
