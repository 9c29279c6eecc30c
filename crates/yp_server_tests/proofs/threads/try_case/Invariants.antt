use Rattle.yp_server_tests.proofs.threads.try_case.Given as goal

-- the book that was just opened
abbrev pub ghosts-served : goal.ghosts-served
ghosts-served g a = record { book = a.opened }
