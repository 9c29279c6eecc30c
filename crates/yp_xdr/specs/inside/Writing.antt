-- What a writer leaves in its buffer.
use Rattle.std.specs.Prelude.{◌≡◌, ℕ, ◌+◌, ◌<◌, ◌≤◌, List, ◌++◌, length, take, drop, Result, IfOk, OnOk, OnErr}
use Rattle.yp_xdr.specs.declared.fault.NoRoom.{NoRoom}

-- the buffer with these bytes at a place, and all others as they were
abbrev pub written : List ℕ → ℕ → List ℕ → List ℕ
written buf at bytes = take at buf ++ bytes ++ drop (at + length bytes) buf

-- A writer puts these bytes at the place, and answers the place after them; where they don't fit nothing changes.
pub record Writes (bytes : List ℕ) (at : ℕ) (result : Result ℕ NoRoom) (old new : List ℕ) : Type 0 where
  pub place : IfOk result (λ end. (end ≡ at + length bytes) × (end ≤ length old))
  pub bytes_there : OnOk result (new ≡ written old at bytes)
  pub no_room : OnErr result (length old < at + length bytes)
  pub unchanged : OnErr result (new ≡ old)

-- A writer that needs the room puts these bytes at the place, and answers the place after them. What is then written
-- there stands
-- behind them as if both were written at once.
pub record Sets (bytes : List ℕ) (at end : ℕ) (old new : List ℕ) : Type 0 where
  pub place : end ≡ at + length bytes
  pub bytes_there : new ≡ written old at bytes
  pub with_more : (more : List ℕ) (last : List ℕ) → last ≡ written new end more → last ≡ written old at (bytes ++ more)
