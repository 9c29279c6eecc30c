-- A transfer that waits until its reply is out.
use Rattle.std.specs.Prelude.{◌≤◌, ◌<◌, ℕ, length}
use Rattle.yp_messages.specs.Numbers.{name_max}
use Rattle.yp_answer.specs.Transfer.{Taken}

-- It is of one of so many maps, and its source has a name that can be asked.
pub record IsDue (maps : ℕ) (taken : Taken) : Type 0 where
  pub inside : taken.map < maps
  pub named : 0 < length taken.source
  pub source_len : length taken.source ≤ name_max
