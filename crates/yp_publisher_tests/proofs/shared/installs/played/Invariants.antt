use Rattle.std.specs.Prelude.{Some, map}
use Rattle.yp_memory.specs.inside.MemDisk.{Platter, history_of}
use Rattle.yp_publisher.specs.Rising.{publisher_state}
use Rattle.yp_board.specs.inside.readers.Boards.{Written}
use Rattle.yp_publisher.specs.sharing.Failures.{disks_of, faults_over}
use Rattle.yp_publisher_tests.proofs.shared.installs.played.Given as goal

-- the maps of this publisher, how they stand, and its disks; whatever is offered as built is
abbrev pub ghosts-play_all-S-Site : goal.ghosts-play_all-S-Site
ghosts-play_all-S-Site g a = record { catalogue = a.maps.catalogue }

abbrev pub ghosts-play_all-S-Accounts : goal.ghosts-play_all-S-Accounts
ghosts-play_all-S-Accounts g a = record {
  built = λ log number last version. Unit {0};
  first = publisher_state (λ (w : Written). w.log) a.maps;
  histories = map (λ (p : Platter). Some (history_of p)) (disks_of a.maps.maps);
  disk_faults = faults_over (λ (p : Platter). p.faults) (disks_of a.maps.maps);
  failures = a.blanks.failures.name;
  made = a.blanks.made.name;
  versions = a.blanks.versions.name;
  fetched = a.blanks.fetches;
  shares = a.blanks.failures.parts;
}
