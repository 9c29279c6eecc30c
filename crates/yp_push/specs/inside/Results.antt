-- Whether a call to a slave is awaited.
use Rattle.std.specs.Prelude.{Bool, true, false}
use Rattle.yp_push.specs.declared.outcome.Outcome.{Outcome}
use Rattle.yp_push.specs.declared.outcome.Outcome.TheVariants.{Unsent, Unanswered, Missed as WasMissed, Answered}

-- A slave hasn't answered yet, so a call with its transaction counts.
abbrev pub awaits_call : Outcome → Bool
awaits_call Unsent = false
awaits_call Unanswered = true
awaits_call (WasMissed _) = true
awaits_call (Answered _) = false
