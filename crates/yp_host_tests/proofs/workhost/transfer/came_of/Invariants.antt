use Rattle.yp_host_tests.proofs.workhost.transfer.came_of.Given as goal

-- the book that was just opened
abbrev pub ghosts-staged : goal.ghosts-staged
ghosts-staged g a = record { book = a.opened }
