-- Failures that are counted by what answered for them.
use Rattle.std.specs.Prelude.{◌≡◌, ◌≢◌, ℕ, ◌+◌, ◌<◌, ◌≤◌, List, Option, IsSome, Result, Ok, Err}
use Rattle.yp_io.specs.Counts.{last_count}
use Rattle.yp_io.specs.Disk.{History}
use Rattle.yp_map_file.specs.Commits.{generation_max}
use Rattle.yp_messages.specs.declared.transfer.XfrStat.{XfrStat}
use Rattle.yp_messages.specs.declared.transfer.XfrStat.TheVariants.{File}
use Rattle.yp_publisher.specs.declared.install.Origin.{Origin}
use Rattle.yp_publisher.specs.declared.install.Origin.TheVariants.{Built, Fetched}
use Rattle.yp_publisher.specs.Standing.{Level, StoredMap, OfMap}
use Rattle.yp_publisher.specs.declared.sharing.locked.ShareFault.{ShareFault}
use Rattle.yp_publisher.specs.Stats.{share_stat}
use Rattle.yp_publisher.specs.sharing.Failures.{faults_over, disks_of}

-- how many failures a status stands for
abbrev pub files_in : XfrStat → ℕ
files_in File = 1
files_in _ = 0

-- how many failed files a fault stands for: none, where memory ran out or the version doesn't follow what is shown
abbrev pub failures_in : ShareFault → ℕ
failures_in why = files_in (share_stat why)

abbrev pub failures_of : {T : Type 0} → Result T ShareFault → ℕ
failures_of (Ok installed) = 0
failures_of (Err why) = failures_in why

-- how many built versions were shown by an install
abbrev pub made_by : {T : Type 0} → Origin → Result T ShareFault → ℕ
made_by Built (Ok installed) = 1
made_by Built (Err why) = 0
made_by Fetched result = 0

-- A map's disk tells what a crash may leave, its count of faults doesn't stand at its last value, and the last
-- generation of its file isn't reached.
pub record MapTellsFaults {D : Type 0} (history : D → Option History) (faults : D → ℕ)
    (kept : StoredMap D) : Type 0 where
  pub told : IsSome (history kept.disk)
  pub counts : faults kept.disk < last_count
  pub unspent : kept.standing ≡ Level → kept.generation ≢ generation_max

-- The disks have failed at least this many times more than before, where each map tells its faults.
abbrev pub Covers : {D : Type 0} → (D → Option History) → (D → ℕ) → ℕ → List (StoredMap D) → ℕ → Type 0
Covers history faults before maps failures =
    ((number : ℕ) → OfMap number maps (MapTellsFaults history faults))
    → before + failures ≤ faults_over faults (disks_of maps)
