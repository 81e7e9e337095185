use Rattle.test_desk.proofs.orders.a_worker_brings_while_the_desk_takes.Given as goal

abbrev pub ghosts-across_threads : goal.ghosts-across_threads
ghosts-across_threads g a = record { name = a.blank.name; parts = a.blank.parts }
