use Rattle.yp_worker_tests.proofs.mail.transfers_behind.Given as goal

-- the maps of both hosts
abbrev pub ghosts-transfers_of : goal.ghosts-transfers_of
ghosts-transfers_of g a = record { catalogue = a.hosts.0.reader.catalogue }
