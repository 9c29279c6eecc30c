use Rattle.yp_publisher_tests.proofs.shared.installs.try_installs.Given as goal

-- the book that was just opened
abbrev pub ghosts-played : goal.ghosts-played
ghosts-played g a = record { book = a.opened }
