-- Answers that stand for a failed file, and what covers their number: how often the disks of maps have failed.
use Rattle.std.specs.Prelude.{ℕ, ◌+◌, List, [], ◌∷◌, map}
use Rattle.yp_publisher.specs.Standing.{StoredMap}

-- how often disks have failed in all
abbrev pub faults_over : {D : Type 0} → (D → ℕ) → List D → ℕ
faults_over faults [] = 0
faults_over faults (disk ∷ disks) = faults disk + faults_over faults disks

-- the disks of maps
abbrev pub disks_of : {D : Type 0} → List (StoredMap D) → List D
disks_of maps = map (λ kept. kept.disk) maps
