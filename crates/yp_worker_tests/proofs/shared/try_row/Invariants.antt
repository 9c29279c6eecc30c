use Rattle.yp_worker_tests.proofs.shared.try_row.Given as goal

-- the book that was just opened
abbrev pub ghosts-both : goal.ghosts-both
ghosts-both g a = record { book = a.opened }
