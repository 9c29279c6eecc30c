use Rattle.yp_worker_tests.proofs.mail.transfers.Given as goal

-- the book that was just opened
abbrev pub ghosts-transfers_behind : goal.ghosts-transfers_behind
ghosts-transfers_behind g a = record { book = a.opened }
