-- Which calls may have a map made for them.
use Rattle.std.specs.Prelude.{ℕ, ◌&&◌, Bool, true, false, List}
use Rattle.std.specs.Prelude.{bytes_eq}
use Rattle.yp_io.specs.declared.stream.Peer.{Peer}
use Rattle.yp_io.specs.Peers.{own_host}
use Rattle.yp_rpc.specs.Judging.{judged}
use Rattle.yp_rpc.specs.declared.judging.Judged.{Judged}
use Rattle.yp_rpc.specs.declared.judging.Judged.TheVariants.{Ignored, Refused, Admitted}
use Rattle.yp_answer.specs.Procedures.{programs_on}
use Rattle.yp_answer.specs.declared.procedure.Path.{Path}
use Rattle.yp_answer.specs.declared.procedure.Procedure.{Procedure}
use Rattle.yp_answer.specs.declared.procedure.Procedure.TheVariants.{Make, MakeNamed}

-- it is MAKE, or MAKE_NAMED
abbrev pub is_make : Procedure → Bool
is_make Make = true
is_make MakeNamed = true
is_make _ = false

-- a message is let to one of these
abbrev pub is_let_to_make : Judged Procedure → Bool
is_let_to_make Ignored = false
is_let_to_make (Refused xid head) = false
is_let_to_make (Admitted call procedure) = is_make procedure

-- A map may be made for what comes on a path: it is a call of one of these, by a caller on the server's own host.
abbrev pub may_make : Path → Peer → List ℕ → Bool
may_make path peer message = bytes_eq peer.addr own_host && is_let_to_make (judged (programs_on path) message)
