use Rattle.test_desk.proofs.readers.a_reader_that_may_not_begin_brings_nothing.Given as goal

abbrev pub ghosts-dismissed : goal.ghosts-dismissed
ghosts-dismissed g a = record { name = a.blank.name; parts = a.blank.parts }
