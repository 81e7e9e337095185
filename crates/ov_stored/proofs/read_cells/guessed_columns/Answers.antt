use Rattle.ov_stored.proofs.read_cells.guessed_columns.Goals as goal

pub returns-then-branch-clause-read : goal.returns-then-branch-clause-read
returns-then-branch-clause-read c = c.in_ok-are_cells_of.ensures.read c.if-branch.true
