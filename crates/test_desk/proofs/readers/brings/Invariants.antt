use Rattle.test_desk.proofs.readers.brings.Given as goal

abbrev pub ghosts-read_by : goal.ghosts-read_by
ghosts-read_by g a = record { name = a.blank.name; parts = a.blank.parts }
