use Rattle.yp_worker_tests.proofs.shared.both.Given as goal

-- the maps of both hosts
abbrev pub ghosts-run_both : goal.ghosts-run_both
ghosts-run_both g a = record { catalogue = a.hosts.0.reader.catalogue }
