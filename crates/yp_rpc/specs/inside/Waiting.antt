-- The bytes that a writer of records holds back.
use Rattle.std.specs.Prelude.{ℕ, ◌+◌, ◌*◌, List, [], ◌++◌}
use Rattle.yp_rpc.specs.Records.{fragment_max, sent}
use Rattle.yp_rpc.specs.Waiting.{held_max, full_len, Waiting}

-- the room for as many
abbrev pub held_room : ℕ
held_room = held_max * full_len

-- the most bytes of a record that wait
abbrev pub held_bytes : ℕ
held_bytes = held_max * fragment_max

-- nothing waits
abbrev pub none : Waiting
none = record { whole = []; piece = [] }

-- what is still to be sent of a record, of which this is the rest
abbrev pub promised : Waiting → List ℕ → List ℕ
promised held rest = held.whole ++ sent (held.piece ++ rest)
