use Rattle.ov_files.proofs.over.store_or_fault.Goals as goal

pub returns-in-Err-clause-refused : goal.returns-in-Err-clause-refused
returns-in-Err-clause-refused g c = (c.in-Err.refused.connection, c.in-Err.ensures.refused)
