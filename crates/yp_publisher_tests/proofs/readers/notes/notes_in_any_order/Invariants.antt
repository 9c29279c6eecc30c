use Rattle.yp_publisher_tests.proofs.readers.notes.notes_in_any_order.Given as goal

-- the book that was just opened
abbrev pub ghosts-met : goal.ghosts-met
ghosts-met g a = record { book = a.opened }
