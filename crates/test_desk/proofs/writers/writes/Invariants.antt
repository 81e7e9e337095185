use Rattle.test_desk.proofs.writers.writes.Given as goal

abbrev pub ghosts-written_by : goal.ghosts-written_by
ghosts-written_by g a = record { name = a.blank.name; parts = a.blank.parts }
