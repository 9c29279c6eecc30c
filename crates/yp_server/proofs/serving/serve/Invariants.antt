use Rattle.std.proofs.Common.{map}
use Rattle.yp_worker.specs.Receptions.{opening_by}
use Rattle.yp_publisher.specs.Rising.{publisher_state}
use Rattle.yp_publisher.specs.sharing.Failures.{disks_of, faults_over}
use Rattle.yp_host.specs.workers.Makings.{IsBuiltAsNamed}
use Rattle.yp_server.proofs.serving.serve.Given as goal

-- what is lent, as it is before the first connection
abbrev pub ghosts-with_queue-J-Reception : goal.ghosts-with_queue-J-Reception
ghosts-with_queue-J-Reception g a = record {
  starts = g.B.Show.log a.resources.publisher.board;
  most = a.setting.spec.most;
  opening = opening_by g.L.Hall a.resources.listen;
}

abbrev pub ghosts-with_queue-J-Site : goal.ghosts-with_queue-J-Site
ghosts-with_queue-J-Site g a = record { catalogue = a.resources.publisher.catalogue }

abbrev pub ghosts-with_queue-J-Supplies : goal.ghosts-with_queue-J-Supplies
ghosts-with_queue-J-Supplies g a = record {
  text = g.T.Texts.text a.resources.desk.texts;
  hosts = a.resources.desk.hosts;
  text_faults = g.T.Texts.faults a.resources.desk.texts;
  wires = g.A.Dial.past a.resources.desk.dial;
  letters = g.A.Dial.letters a.resources.desk.dial;
  dial_faults = g.A.Dial.faults a.resources.desk.dial;
  unread = a.blanks.charges.desk.unread.name;
  orders = a.blanks.charges.desk.orders.name;
  sources = a.blanks.charges.desk.sources.name;
  call_backs = a.blanks.call_backs;
}

abbrev pub ghosts-with_queue-J-Ledger : goal.ghosts-with_queue-J-Ledger
ghosts-with_queue-J-Ledger g a = record { name = a.blanks.listener.out.name; parts = a.blanks.listener.out.parts }

abbrev pub ghosts-with_queue-E-Ledger : goal.ghosts-with_queue-E-Ledger
ghosts-with_queue-E-Ledger g a = record { name = a.blanks.listener.ended.name; parts = a.blanks.listener.ended.parts }

abbrev pub ghosts-with_queue-J-Accounts : goal.ghosts-with_queue-J-Accounts
ghosts-with_queue-J-Accounts g a = record {
  built = IsBuiltAsNamed (g.T.Texts.text a.resources.desk.texts) a.resources.publisher.catalogue;
  first = publisher_state g.B.Show.log a.resources.publisher;
  histories = map g.D.Disk.history (disks_of a.resources.publisher.maps);
  disk_faults = faults_over g.D.Disk.faults (disks_of a.resources.publisher.maps);
  failures = a.blanks.charges.failures.name;
  made = a.blanks.charges.made.name;
  versions = a.blanks.charges.versions.name;
  fetched = a.blanks.fetches;
  shares = a.blanks.charges.failures.parts;
}
