-- What a check of a map gives.
use Rattle.std.specs.Prelude.{◌≡◌, ◌<◌, length, Some, Result, Ok, Err}
use Rattle.yp_messages.specs.declared.stat.YpStat.{YpStat}
use Rattle.yp_version.specs.Versions.{MapVersion}
use Rattle.yp_board.specs.Logs.{shown}
use Rattle.yp_answer.specs.declared.check.ShownVersion.{ShownVersion}
use Rattle.yp_answer.specs.Maps.{Maps}

-- the version, or the status
abbrev pub checked : Result ShownVersion YpStat → Result MapVersion YpStat
checked (Ok held) = Ok held.version.now
checked (Err stat) = Err stat

-- a version of the maps, and the number of its map
pub record IsShownVersion (maps : Maps) (held : ShownVersion) : Type 0 where
  pub inside : held.map < length maps.catalogue.maps
  pub shown_of : shown held.map maps.log ≡ Some held.version.now
