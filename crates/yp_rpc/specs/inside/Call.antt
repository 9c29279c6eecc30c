-- Where the arguments of a call that is heard begin.
use Rattle.std.specs.Prelude.{ℕ, ◌≤◌, List, length}
use Rattle.yp_rpc.specs.declared.call.Heard.{Heard}
use Rattle.yp_rpc.specs.declared.call.Heard.TheVariants.{Call, WrongRpc, Noise}

-- the arguments of a call begin inside the message, or at its end
abbrev pub BodyIsInside : List ℕ → Heard → Type 0
BodyIsInside message (Call call) = call.body ≤ length message
BodyIsInside message (WrongRpc xid) = Unit {0}
BodyIsInside message Noise = Unit {0}
