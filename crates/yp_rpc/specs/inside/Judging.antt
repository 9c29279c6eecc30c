-- Where the arguments of a call that is let in begin.
use Rattle.std.specs.Prelude.{ℕ, ◌≤◌, List, length}
use Rattle.yp_rpc.specs.declared.judging.Judged.{Judged}
use Rattle.yp_rpc.specs.declared.judging.Judged.TheVariants.{Ignored, Refused, Admitted}

-- the arguments of a call that is let to a procedure begin inside the message, or at its end
abbrev pub IsLetInside : {Procedure : Type 0} → List ℕ → Judged Procedure → Type 0
IsLetInside message Ignored = Unit {0}
IsLetInside message (Refused xid head) = Unit {0}
IsLetInside message (Admitted call procedure) = call.body ≤ length message
