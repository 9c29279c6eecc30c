use Rattle.yp_publisher_tests.proofs.readers.threads.read_beside_a_show.Given as goal

-- the book that was just opened
abbrev pub ghosts-rounds : goal.ghosts-rounds
ghosts-rounds g a = record { book = a.opened }
