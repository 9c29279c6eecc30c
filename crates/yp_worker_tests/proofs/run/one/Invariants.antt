use Rattle.yp_memory.specs.inside.MemHall.{entries_of}
use Rattle.yp_worker_tests.proofs.run.one.Given as goal

-- what this hall is before its first connection, and what the reader knows then
abbrev pub ghosts-served-J-Reception : goal.ghosts-served-J-Reception
ghosts-served-J-Reception g a = record {
  starts = a.host.reader.known;
  most = 12;
  opening = record {
    past = entries_of a.listen;
    most = a.listen.most;
    accepted = a.listen.accepted;
    returned = a.listen.returned;
    let_go = a.listen.let_go;
    faults = a.listen.faults;
  };
}

abbrev pub ghosts-served-J-Site : goal.ghosts-served-J-Site
ghosts-served-J-Site g a = record { catalogue = a.host.reader.catalogue }

abbrev pub ghosts-served-J-Ledger : goal.ghosts-served-J-Ledger
ghosts-served-J-Ledger g a = record { name = a.blanks.out.name; parts = a.blanks.out.parts }

abbrev pub ghosts-served-E-Ledger : goal.ghosts-served-E-Ledger
ghosts-served-E-Ledger g a = record { name = a.blanks.ended.name; parts = a.blanks.ended.parts }
