use Rattle.yp_publisher_tests.proofs.readers.newest.refresh_newest.Given as goal

-- the book that was just opened
abbrev pub ghosts-newest : goal.ghosts-newest
ghosts-newest g a = record { book = a.opened }
