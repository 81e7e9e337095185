use Rattle.ov_files.proofs.close.close_in_file.Goals as goal

pub returns-in-Ok-clause-whole : goal.returns-in-Ok-clause-whole
returns-in-Ok-clause-whole g c = (c.in_ok-log.field-0, c.in_ok-log.ensures.whole)
