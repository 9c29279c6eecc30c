use Rattle.std.specs.Prelude.{[]}
use Rattle.yp_memory.specs.inside.MemHall.{entries_of}
use Rattle.yp_worker_tests.proofs.run.two.Given as goal

-- this hall before its first connection
abbrev pub ghosts-shared-J-Reception : goal.ghosts-shared-J-Reception
ghosts-shared-J-Reception g a = record {
  starts = [];
  most = 12;
  opening = record {
    past = entries_of a.listen;
    most = a.listen.most;
    accepted = a.listen.accepted;
    returned = a.listen.returned;
    let_go = a.listen.let_go;
    faults = a.listen.faults;
  };
}

abbrev pub ghosts-shared-J-Site : goal.ghosts-shared-J-Site
ghosts-shared-J-Site g a = record { catalogue = a.hosts.0.reader.catalogue }

abbrev pub ghosts-shared-J-Ledger : goal.ghosts-shared-J-Ledger
ghosts-shared-J-Ledger g a = record { name = a.blanks.out.name; parts = a.blanks.out.parts }

abbrev pub ghosts-shared-E-Ledger : goal.ghosts-shared-E-Ledger
ghosts-shared-E-Ledger g a = record { name = a.blanks.ended.name; parts = a.blanks.ended.parts }
