-- What a server shows of a map at moments of a log that rises.
use Rattle.std.specs.Prelude.{◌≡◌, ◌⊎◌, ℕ, ◌≤◌, true, List, Result, Ok, Err}
use Rattle.yp_messages.specs.declared.stat.YpStat.{YpStat}
use Rattle.yp_messages.specs.declared.stat.YpStat.TheVariants.{Yperr}
use Rattle.yp_version.specs.Versions.{MapVersion, IsVersion}
use Rattle.yp_board.specs.Catalogues.{Catalogue}
use Rattle.yp_board.specs.Logs.{Log}
use Rattle.yp_board.specs.Views.{IsFront}
use Rattle.yp_publisher.specs.Rising.{IsRisingLog}
use Rattle.yp_answer.specs.Maps.{Maps, map_check, row_check}
use Rattle.yp_answer.specs.Served.{AreServed, maps_on}

-- Versions that are shown at two moments, and have one order, are one version, and that is shown at each moment
-- between.
abbrev pub ShownBetween : Type 0
ShownBetween =
    (catalogue : Catalogue) (first middle final log : Log) (domain map : List ℕ) (version other : MapVersion)
    → IsRisingLog log
    → IsFront first middle
    → IsFront middle final
    → IsFront final log
    → map_check (maps_on catalogue first) domain map ≡ Ok version
    → map_check (maps_on catalogue final) domain map ≡ Ok other
    → version.order ≡ other.order
    → map_check (maps_on catalogue middle) domain map ≡ Ok version

-- What is served at the end of a log was served at each of its fronts.
abbrev pub FrontIsServed : Type 0
FrontIsServed =
    (catalogue : Catalogue) (front log : Log)
    → IsFront front log
    → AreServed (maps_on catalogue log)
    → AreServed (maps_on catalogue front)

-- A version that is shown is within its limits. Its rows are shown, too, or refused with YPERR, where it is secure and
-- the port is one that anybody has.
abbrev pub ShowsRows : ℕ → MapVersion → Result MapVersion YpStat → Type 0
ShowsRows port version held =
    (held ≡ Ok version) ⊎ ((held ≡ Err Yperr) × (version.secure ≡ true) × (1024 ≤ port))

abbrev pub ShownIsSound : Type 0
ShownIsSound =
    (maps : Maps) (port : ℕ) (domain map : List ℕ) (version : MapVersion)
    → AreServed maps
    → map_check maps domain map ≡ Ok version
    → IsVersion version × ShowsRows port version (row_check maps port domain map)
