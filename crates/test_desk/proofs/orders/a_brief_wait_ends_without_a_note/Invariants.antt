use Rattle.test_desk.proofs.orders.a_brief_wait_ends_without_a_note.Given as goal

abbrev pub ghosts-brief_waits : goal.ghosts-brief_waits
ghosts-brief_waits g a = record { name = a.blank.name; parts = a.blank.parts }
