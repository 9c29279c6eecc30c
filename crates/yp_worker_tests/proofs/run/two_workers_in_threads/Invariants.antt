use Rattle.yp_worker_tests.proofs.run.two_workers_in_threads.Given as goal

-- the book that was just opened
abbrev pub ghosts-two : goal.ghosts-two
ghosts-two g a = record { book = a.opened }
