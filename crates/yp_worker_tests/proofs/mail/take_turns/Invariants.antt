use Rattle.yp_worker_tests.proofs.mail.take_turns.Given as goal

-- the maps of both hosts
abbrev pub ghosts-serve_turns : goal.ghosts-serve_turns
ghosts-serve_turns g a = record { catalogue = a.hosts.0.reader.catalogue }
