-- What a walk comes to over several replies.
use Rattle.std.specs.Prelude.{◌≡◌, ◌⊎◌}
use Rattle.yp_transfer.specs.declared.fault.XfrFault.TheVariants.{NoMemory}
use Rattle.yp_transfer.specs.walk.Standings.{WalkState, refusal}

-- The walk has the expected state, or has ended because memory ran out.
abbrev pub ComesTo : WalkState → WalkState → Type 0
ComesTo expected standing = (standing ≡ expected) ⊎ (standing ≡ refusal NoMemory)
