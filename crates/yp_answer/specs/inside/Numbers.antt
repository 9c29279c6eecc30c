-- How large a buffer is enough on each path.
use Rattle.std.specs.Prelude.{ℕ}
use Rattle.yp_rpc.specs.Turns.{datagram_max}
use Rattle.yp_answer.specs.declared.procedure.Path.{Path}
use Rattle.yp_answer.specs.declared.procedure.Path.TheVariants.{Stream, Datagram}
use Rattle.yp_answer.specs.Numbers.{record_max}

-- the bytes of a buffer that is enough for each reply on a path, or each piece of it
abbrev pub room_of : Path → ℕ
room_of Stream = record_max
room_of Datagram = datagram_max
