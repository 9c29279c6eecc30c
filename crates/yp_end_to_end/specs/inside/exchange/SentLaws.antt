-- What is sent of a record is that record in fragments.
use Rattle.std.specs.Prelude.{ℕ, ◌≤◌, List, length}
use Rattle.yp_rpc.specs.Records.{Fragments, sent}

abbrev pub SentIsWhole : Type 0
SentIsWhole = (limit : ℕ) (message : List ℕ) → length message ≤ limit → Fragments limit message (sent message)
