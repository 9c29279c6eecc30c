use Rattle.yp_publisher_tests.proofs.readers.newest.old_versions_are_let_go.Given as goal

-- the book that was just opened
abbrev pub ghosts-owners : goal.ghosts-owners
ghosts-owners g a = record { book = a.opened }
