use Rattle.yp_publisher_tests.proofs.readers.notes.one_step_for_two_shows.Given as goal

-- the book that was just opened
abbrev pub ghosts-lagged : goal.ghosts-lagged
ghosts-lagged g a = record { book = a.opened }
