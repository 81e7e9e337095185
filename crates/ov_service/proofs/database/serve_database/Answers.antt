use Rattle.ov_service.proofs.database.serve_database.Goals as goal

pub returns-in-Some-clause-file : goal.returns-in-Some-clause-file
returns-in-Some-clause-file g c = rw c.in-Some.is (rw (← c.as_str.ensures) c.serve_file-served.ensures)
