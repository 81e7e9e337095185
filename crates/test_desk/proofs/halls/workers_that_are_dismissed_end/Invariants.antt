use Rattle.test_desk.proofs.halls.workers_that_are_dismissed_end.Given as goal

abbrev pub ghosts-dismissed : goal.ghosts-dismissed
ghosts-dismissed g a = record { name = a.blank.name; parts = a.blank.parts }
