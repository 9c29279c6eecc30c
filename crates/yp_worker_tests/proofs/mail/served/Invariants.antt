use Rattle.yp_worker_tests.proofs.mail.served.Given as goal

-- the book that was just opened
abbrev pub ghosts-take_turns : goal.ghosts-take_turns
ghosts-take_turns g a = record { book = a.opened }
