use Rattle.yp_worker_tests.proofs.run.visited.Given as goal

-- the book that was just opened
abbrev pub ghosts-one : goal.ghosts-one
ghosts-one g a = record { book = a.opened }
