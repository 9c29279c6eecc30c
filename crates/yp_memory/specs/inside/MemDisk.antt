-- What a disk in memory keeps, and what a crash may leave of it.
use Rattle.std.specs.Prelude.{◌⊎◌, ℕ, ◌+◌, ◌-◌, ◌/◌, ◌%◌, ◌^◌, ◌≤◌, List, [], ◌∷◌, ◌++◌, length, replicate, Option}
use Rattle.std.specs.Prelude.{◌==◌, if◌then◌else◌, Contains, IsSomeAnd}
use Rattle.std.specs.List.{fold}
use Rattle.yp_io.specs.Disk.{History, written_at, after_sync, overwritten}

-- a call that was done
pub data DiskStep : Type 0 where
  Wrote : (at : ℕ) (piece : List ℕ) → DiskStep
  Synced : DiskStep

-- a disk in memory: its bytes at first, each write and sync that was done, the oldest first, and which calls fail:
-- each from the one of this number on, and those that are listed
pub record Platter : Type 0 where
  pub first : List ℕ
  pub steps : List DiskStep
  pub stop : Option ℕ
  pub failing : List ℕ
  pub calls : ℕ
  pub faults : ℕ

-- a disk with these bytes, all of them synced
abbrev pub fresh : List ℕ → History
fresh bytes = record { state = record { synced = bytes; written = []; reads = bytes }; past = [] }

abbrev pub after_step : History → DiskStep → History
after_step history (Wrote at piece) = written_at at piece history
after_step history Synced = after_sync history

-- its history
abbrev pub played : List ℕ → List DiskStep → History
played first steps = fold after_step (fresh first) steps

abbrev pub history_of : Platter → History
history_of disk = played disk.first disk.steps

-- the writes since the last sync, each with its place, the oldest first
abbrev pub unsynced_after : List (ℕ × List ℕ) → DiskStep → List (ℕ × List ℕ)
unsynced_after writes (Wrote at piece) = writes ++ (at, piece) ∷ []
unsynced_after writes Synced = []

abbrev pub unsynced : List DiskStep → List (ℕ × List ℕ)
unsynced steps = fold unsynced_after [] steps

-- bytes with a piece over them; where it begins past their end, zeros stand between
abbrev pub placed : ℕ → List ℕ → List ℕ → List ℕ
placed at piece old = overwritten at piece (old ++ replicate (at - length old) 0)

-- the bytes with those of the writes whose bit is set, where the first write has this number
abbrev pub with_kept : ℕ → ℕ → List (ℕ × List ℕ) → List ℕ → List ℕ
with_kept kept number [] bytes = bytes
with_kept kept number (write ∷ writes) bytes =
    with_kept kept (number + 1) writes (if (kept / 2 ^ number) % 2 == 1 then placed write.0 write.1 bytes else bytes)

-- what a crash leaves that keeps the unsynced writes whose bit is set, and no other
abbrev pub crashed : ℕ → List ℕ → List DiskStep → List ℕ
crashed kept first steps = with_kept kept 0 (unsynced steps) (played first steps).state.synced

-- a call of this number fails
abbrev pub FailsBy : Option ℕ → List ℕ → ℕ → Type 0
FailsBy stop failing call = IsSomeAnd stop (λ first. first ≤ call) ⊎ Contains failing call

-- the next call of a disk in memory fails
abbrev pub FailsNow : Platter → Type 0
FailsNow disk = FailsBy disk.stop disk.failing disk.calls
