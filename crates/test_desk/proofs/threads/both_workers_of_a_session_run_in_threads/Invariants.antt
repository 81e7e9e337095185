use Rattle.test_desk.proofs.threads.both_workers_of_a_session_run_in_threads.Given as goal

abbrev pub ghosts-serve : goal.ghosts-serve
ghosts-serve g a = record { name = a.blank.name; parts = a.blank.parts }
