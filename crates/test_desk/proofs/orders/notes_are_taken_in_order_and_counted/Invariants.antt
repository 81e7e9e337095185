use Rattle.test_desk.proofs.orders.notes_are_taken_in_order_and_counted.Given as goal

abbrev pub ghosts-book_answers : goal.ghosts-book_answers
ghosts-book_answers a = record { name = a.blank.name; parts = a.blank.parts }
