-- The steps that a disk in memory keeps.
use Rattle.std.specs.Prelude.{ℕ, ◌/◌, ◌%◌, List, map, Option, None, Some, Vec, ◌==◌, if◌then◌else◌}
use Rattle.std.specs.declared.alloc.Global.{Global}
use Rattle.yp_memory.specs.declared.disk.DiskCall.{DiskCall}
use Rattle.yp_memory.specs.declared.disk.DiskCall.TheVariants as step
use Rattle.yp_memory.specs.declared.disk.Crash.{Crash}
use Rattle.yp_io.specs.Disk.{overwritten}
use Rattle.yp_memory.specs.inside.MemDisk.{DiskStep, Wrote, Synced, placed}

-- a step, its piece as bytes
abbrev pub step_of : DiskCall → DiskStep
step_of (step.Wrote at piece) = Wrote at piece.items
step_of step.Synced = Synced

abbrev pub steps_of : List DiskCall → List DiskStep
steps_of steps = map step_of steps

-- what a read gives: the bytes at first, until the first write
abbrev pub current : List ℕ → Option (Vec ℕ Global) → List ℕ
current first None = first
current first (Some bytes) = bytes.items

-- what is replayed: what a read gives, what a crash leaves, and the bits of the writes to come
pub record Replayed : Type 0 where
  pub reads : List ℕ
  pub image : List ℕ
  pub bits : ℕ

abbrev pub crash_of : Crash → Replayed
crash_of crash = record { reads = crash.reads.items; image = crash.image.items; bits = crash.bits }

abbrev pub after_crash_step : ℕ → Replayed → DiskStep → Replayed
after_crash_step kept crash (Wrote at piece) = record {
  reads = overwritten at piece crash.reads;
  image = if crash.bits % 2 == 1 then placed at piece crash.image else crash.image;
  bits = crash.bits / 2;
}
after_crash_step kept crash Synced = record { reads = crash.reads; image = crash.reads; bits = kept }
