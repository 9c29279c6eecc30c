-- The disks of maps, as a run has them.
use Rattle.std.specs.Prelude.{◌≡◌, ◌⊎◌, ℕ, ◌+◌, List, [], ◌∷◌, map, Option, None, Some, slice_get}
use Rattle.std.specs.Option.{option_and_then, option_map, option_map_or}
use Rattle.yp_io.specs.Disk.{History, LeavesOnly, MayLeave, after_sync}
use Rattle.yp_board.specs.Catalogues.{Name, name_view}
use Rattle.yp_command.specs.declared.office.disks.NamedDisk.{NamedDisk}

-- the maps of disks, in their order
abbrev pub names_of : {D : Type 0} → List (NamedDisk D) → List Name
names_of disks = map (λ disk. name_view disk.name) disks

-- the disks of maps, in their order
abbrev pub disks_of : {D : Type 0} → List (NamedDisk D) → List D
disks_of disks = map (λ disk. disk.disk) disks

-- what the only disk tells, where there is one alone
abbrev pub only_history : {D : Type 0} → (D → Option History) → List D → Option History
only_history history [] = None
only_history history (disk ∷ []) = history disk
only_history history (disk ∷ another ∷ more) = None

abbrev pub history_of : {D : Type 0} → (D → Option History) → List (NamedDisk D) → Option History
history_of history disks = only_history history (disks_of disks)

-- what a disk tells, of those in their order
abbrev pub told_at : {D : Type 0} → (D → Option History) → ℕ → List (NamedDisk D) → Option History
told_at history place disks = option_and_then history (slice_get (disks_of disks) place)

-- Nothing was written to a disk: it stays, or was synced, and no crash left what one might not have left before.
pub record IsOnlyRead (old new : Option History) : Type 0 where
  pub same : (new ≡ old) ⊎ (new ≡ option_map after_sync old)
  pub any_moment : LeavesOnly old new (MayLeave old)

-- how often a disk has failed, of those in their order
abbrev pub faults_at : {D : Type 0} → (D → ℕ) → ℕ → List (NamedDisk D) → ℕ
faults_at faults place disks = option_map_or faults (slice_get (disks_of disks) place) 0

-- how often disks have failed, together
abbrev pub total_faults : {D : Type 0} → (D → ℕ) → List D → ℕ
total_faults faults [] = 0
total_faults faults (disk ∷ disks) = faults disk + total_faults faults disks

abbrev pub faults_of : {D : Type 0} → (D → ℕ) → List (NamedDisk D) → ℕ
faults_of faults disks = total_faults faults (disks_of disks)
