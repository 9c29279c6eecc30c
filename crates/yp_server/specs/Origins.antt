-- Where what was shown came from, and what maps are behind at the end.
use Rattle.std.specs.Prelude.{ℕ, List, map, Option}
use Rattle.yp_io.specs.Disk.{History}
use Rattle.yp_io.specs.Dials.{Wires}
use Rattle.yp_board.specs.Catalogues.{Catalogue}
use Rattle.yp_board.specs.Logs.{Log}
use Rattle.yp_publisher.specs.Rising.{PublisherState}
use Rattle.yp_publisher.specs.sharing.Sources.{Building, IsSourced}
use Rattle.yp_publisher.specs.sharing.Tracing.{FetchLog, IsNewBehind, Traces}
use Rattle.yp_host.specs.workers.Wires.{IsGood, CoversBy, AllCameByWire}
use Rattle.yp_server.specs.Serving.{DisksStand}

-- maps that were served: which they are, what had been shown of them at first and how they stood then, what was shown
-- at the end, and their disks then
pub record ServedMaps (D : Type 0) : Type 0 where
  pub catalogue : Catalogue
  pub first : PublisherState
  pub log : Log
  pub disks : List D

abbrev pub served_maps : {D : Type 0} → Catalogue → PublisherState → Log → List D → ServedMaps D
served_maps catalogue first log disks =
    record { catalogue = catalogue; first = first; log = log; disks = disks }

-- Since a first moment at least `made` built versions were shown. The versions that were shown and weren't built,
-- together with those that maps are behind at the end, are at most `fetched`.
pub record Stems {D : Type 0} (history : D → Option History) (Is : Building) (maps : ServedMaps D) (made fetched : ℕ)
    : Type 0 where
  pub leaves : DisksStand history maps.catalogue maps.log maps.disks
  pub sourced : IsSourced Is maps.first (record {
    log = maps.log;
    standings = map (λ kept. kept.standing) leaves.kept;
  }) made fetched

-- Versions come from builds and from wires: at least `made` built versions were shown, and all others that were shown,
-- with those that maps are behind at the end, are at most as many as the wires that came of the dial and give a
-- version.
pub record ComesFrom {D : Type 0} (history : D → Option History) (Is : Building) (maps : ServedMaps D) (made : ℕ)
    (past past' : Option Wires) : Type 0 where
  pub fetched : ℕ
  pub stems : Stems history Is maps made fetched
  pub good : CoversBy IsGood past past' fetched

-- How maps stand at the end whose disks told these histories first. Each version that was shown was built, or was
-- fetched as one of these, and so is each of which a crash leaves the bytes at some moment, and each that a map is
-- behind at the end.
pub record LeavesTraced {D : Type 0} (history : D → Option History) (Is : Building) (fetches : FetchLog)
    (maps : ServedMaps D) (histories : List (Option History)) : Type 0 where
  pub leaves : DisksStand history maps.catalogue maps.log maps.disks
  pub traced : Traces history (IsNewBehind Is fetches) maps.first.log maps.log histories leaves.kept

-- The same, and for each version that was fetched a wire came of the dial that gives it.
pub record EachComesFrom {D : Type 0} (history : D → Option History) (Is : Building) (maps : ServedMaps D)
    (histories : List (Option History)) (past past' : Option Wires) : Type 0 where
  pub fetches : FetchLog
  pub traced : LeavesTraced history Is fetches maps histories
  pub came : AllCameByWire past past' fetches
