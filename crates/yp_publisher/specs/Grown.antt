-- Logs that grew by versions that were made or fetched, and what a crash leaves of a map meanwhile.
use Rattle.std.specs.Prelude.{◌≡◌, ◌⊎◌, ℕ, suc, ◌-◌, List, [], ◌∷◌, ◌++◌, take, slice_get, All, Option, IfSome, IsSome}
use Rattle.std.specs.Prelude.{⊤}
use Rattle.yp_io.specs.Disk.{DiskState, IsImage, History, states, moment, HistoryGoesOn, LeavesOnly, MayLeave}
use Rattle.yp_version.specs.Versions.{MapVersion}
use Rattle.yp_map_file.specs.Stands.{Stored, stands}
use Rattle.yp_board.specs.Logs.{Log, shown}
use Rattle.yp_board.specs.Views.{IsFront}
use Rattle.yp_board.specs.Between.{Between}
use Rattle.yp_publisher.specs.Standing.{MapStanding, Level, Behind, stands_for}

-- what it is that a version was made or fetched of a map behind a log
abbrev pub Making : Type 1
Making = ℕ → Log → MapVersion → Type 0

-- Each of these entries was made or fetched behind the log and the entries before it.
abbrev pub AreMade : Making → Log → Log → Type 0
AreMade Is log [] = ⊤
AreMade Is log (entry ∷ more) = Is entry.0 log entry.1 × AreMade Is (log ++ entry ∷ []) more

-- A log grew by versions that were made or fetched, each behind the log before it.
pub record GrowsBy (Is : Making) (first last : Log) : Type 0 where
  pub more : Log
  pub last_is : last ≡ first ++ more
  pub made : AreMade Is first more

-- ---- what a crash leaves

-- The bytes stand for what the log shows of a map, or for a version that was made or fetched of it behind the log.
abbrev pub IsShownOrMade : Making → ℕ → Log → List ℕ → Type 0
IsShownOrMade Is number log image =
    (stands image ≡ stands_for (shown number log))
    ⊎ ((version : MapVersion) × Is number log version × (stands image ≡ Stored version))

-- Of these moments, the last one first: each has a log, which is a front of that of the next moment, and a crash leaves
-- only bytes that have P by it.
abbrev pub LeavesInTurn : (Log → List ℕ → Type 0) → List DiskState → (first last : Log) → Type 0
LeavesInTurn P [] first last = IsFront first last
LeavesInTurn P (state ∷ earlier) first last = Between first last
    (λ log. ((image : List ℕ) → IsImage state image → P log image) × LeavesInTurn P earlier first log)

-- A disk went on, and so it is of each moment from the old history to the new one, where they are told.
pub record LeavesByFronts (P : Log → List ℕ → Type 0) (old new : Option History) (first last : Log) : Type 0 where
  pub goes_on : HistoryGoesOn old new
  pub each : IfSome old (λ before. IfSome new
      (λ after. LeavesInTurn P (take (suc (moment after - moment before)) (states after)) first last))

-- Bytes have P by a log, or that is still the first one, and they might have been left before.
abbrev pub OrAsBefore : Option History → Log → (Log → List ℕ → Type 0) → Log → List ℕ → Type 0
OrAsBefore before first P log image = (MayLeave before image × (log ≡ first)) ⊎ P log image

-- A map is level, or behind a version that was made or fetched of it behind the log.
abbrev pub IsBehindMade : Making → ℕ → Log → MapStanding → Type 0
IsBehindMade Is number log Level = ⊤
IsBehindMade Is number log (Behind version) = Is number log version

-- P holds of the disk with this number before and after, and nothing is said where there is none
abbrev pub AtDisk : {D : Type 0} → ℕ → List D → List D → (D → D → Type 0) → Type 0
AtDisk number old new P = IfSome (slice_get old number) (λ before. IfSome (slice_get new number) (P before))

-- At each moment a crash leaves of a disk what it might have left at the start, or bytes with P.
abbrev pub LeavesOr : {D : Type 0} → (D → Option History) → (List ℕ → Type 0) → D → D → Type 0
LeavesOr history P before after =
    LeavesOnly (history before) (history after) (λ image. MayLeave (history before) image ⊎ P image)

-- every disk tells its history
abbrev pub AreTold : {D : Type 0} → (D → Option History) → List D → Type 0
AreTold history disks = All (λ disk. IsSome (history disk)) disks
