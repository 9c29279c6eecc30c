-- What a version is that a worker made, and why a map that it made has its status.
use Rattle.std.specs.Prelude.{◌≡◌, ℕ, List, Option}
use Rattle.yp_messages.specs.declared.transfer.XfrStat.{XfrStat}
use Rattle.yp_messages.specs.declared.transfer.XfrStat.TheVariants.{Succ}
use Rattle.yp_version.specs.Versions.{MapVersion}
use Rattle.yp_board.specs.Catalogues.{Catalogue}
use Rattle.yp_board.specs.Logs.{Log, shown}
use Rattle.yp_board.specs.Views.{IsFront}
use Rattle.yp_board.specs.Between.{Between}
use Rattle.yp_texts.specs.After.{HasLaterOrder}
use Rattle.yp_publisher.specs.Rising.{with_shown}
use Rattle.yp_answer.specs.declared.make.MakeJob.{MakeJob}
use Rattle.yp_answer.specs.Make.{job_of}
use Rattle.yp_answer.specs.Causes.{Told, IsAnew, IsCaused, task_of}
use Rattle.yp_publisher.specs.sharing.Sources.{Building}
use Rattle.yp_host.specs.workers.Desks.{texts_alone}

-- A version was made for the own host of what its map is made of, a text or what a log shows of the netgroups, behind
-- the last version of the map.
abbrev pub IsBuiltAsNamed : (List ℕ → Option (List ℕ)) → Catalogue → Building
IsBuiltAsNamed text served at number last version =
    IsAnew (texts_alone text) (task_of served (job_of served number) at last) version

-- A version was made anew behind the versions of its map before it, with a higher order, of the netgroups that were
-- shown at a moment between where it is made of these, and was shown: last of all that is known, and behind all that
-- was.
pub record IsShownLast (told : Told) (catalogue : Catalogue) (job : MakeJob) (old new : Log) : Type 0 where
  pub version : MapVersion
  pub before : Log
  pub begins : IsFront old before
  pub anew : Between old before (λ at. IsAnew told (task_of catalogue job at (shown job.map before)) version)
  pub over : HasLaterOrder (shown job.map before) version
  pub entry : new ≡ with_shown job.map version before

-- A map that was made is shown so; each other status has its cause in what is known.
abbrev pub IsMadeSo : Told → Catalogue → MakeJob → XfrStat → Log → Log → Type 0
IsMadeSo told catalogue job Succ old new = IsShownLast told catalogue job old new
IsMadeSo told catalogue job stat old new = IsCaused told catalogue job stat old new
