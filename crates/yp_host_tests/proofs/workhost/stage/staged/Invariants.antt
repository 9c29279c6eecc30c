-- The catalogue, and what the publisher and the desk have before they are shared.
use Rattle.std.specs.Prelude.{Some, map}
use Rattle.yp_memory.specs.inside.MemDial.{wires_of}
use Rattle.yp_memory.specs.inside.MemDisk.{Platter, history_of}
use Rattle.yp_publisher.specs.Rising.{publisher_state}
use Rattle.yp_board.specs.inside.readers.Boards.{Written}
use Rattle.yp_publisher.specs.sharing.Failures.{disks_of, faults_over}
use Rattle.yp_host.specs.workers.Makings.{IsBuiltAsNamed}
use Rattle.yp_host_tests.proofs.workhost.stage.staged.Given as goal

abbrev pub ghosts-under_locks-S-Site : goal.ghosts-under_locks-S-Site
ghosts-under_locks-S-Site g a = record { catalogue = a.stage.publisher.catalogue }

abbrev pub ghosts-under_locks-S-Accounts : goal.ghosts-under_locks-S-Accounts
ghosts-under_locks-S-Accounts g a = record {
  built = IsBuiltAsNamed (g.T.Texts.text a.stage.desk.texts) a.stage.publisher.catalogue;
  first = publisher_state (λ (w : Written). w.log) a.stage.publisher;
  histories = map (λ (p : Platter). Some (history_of p)) (disks_of a.stage.publisher.maps);
  disk_faults = faults_over (λ (p : Platter). p.faults) (disks_of a.stage.publisher.maps);
  failures = a.blanks.failures.name;
  made = a.blanks.made.name;
  versions = a.blanks.versions.name;
  fetched = a.blanks.fetches;
  shares = 4;
}

abbrev pub ghosts-under_locks-S-Supplies : goal.ghosts-under_locks-S-Supplies
ghosts-under_locks-S-Supplies g a = record {
  text = g.T.Texts.text a.stage.desk.texts;
  hosts = a.stage.desk.hosts;
  text_faults = g.T.Texts.faults a.stage.desk.texts;
  wires = wires_of a.stage.desk.dial;
  letters = Some a.stage.desk.dial.letters;
  dial_faults = a.stage.desk.dial.faults;
  unread = a.blanks.unread.name;
  orders = a.blanks.orders.name;
  sources = a.blanks.sources.name;
  call_backs = a.stage.call_backs;
}
