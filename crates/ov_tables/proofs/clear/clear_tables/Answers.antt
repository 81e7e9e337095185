use Rattle.ov_tables.proofs.clear.clear_tables.Goals as goal

pub returns-then-in_cells-clause-ok : goal.returns-then-in_cells-clause-ok
returns-then-in_cells-clause-ok g c clean mode text may = c.clear_cells.ensures.ok clean mode text (λ up. rw c.if-in_cells.true at may up)

pub returns-else-in_cells-clause-ok : goal.returns-else-in_cells-clause-ok
returns-else-in_cells-clause-ok g c clean mode text may = c.clear_lines.ensures.ok clean mode text (λ up. rw c.if-in_cells.false at may up)
