-- What a call of a port mapper goes on to.
use Rattle.std.proofs.Common.{◌≡◌, ◌≤◌, Bool, true, false, ℕ, List, length, Option, Some, None, refl, ap, arith}
use Rattle.std.specs.Prelude.{is_some}
use Rattle.yp_xdr.specs.Spelling.{opaque, fixed}
use Rattle.yp_rpc.specs.Turns.{Letter}
use Rattle.yp_binding.specs.declared.portmap.asking.PortCall.{PortCall}
use Rattle.yp_binding.specs.declared.portmap.asking.PortCall.TheVariants.{GetPort, Set, Unset}
use Rattle.yp_binding.specs.portmap.Asking.{port_call}
use Rattle.yp_command_mail.specs.declared.mapper.Asking.{Asking}
use Rattle.yp_command_mail.specs.Mapper.{Answer, call_number, call_of, wanted, sent}

-- a call is short
pub call_short : (call : PortCall) → length (port_call call_number call) ≤ 56
unfolding opaque fixed
call_short (GetPort prog vers prot) = omega arith
call_short (Set mapping) = omega arith
call_short (Unset prog vers) = omega arith

-- without an answer, a call that is due is sent
pub letter_goes : (answer : Option Answer) (due : Bool) (old : Asking) (bytes : List ℕ) → is_some answer ≡ false
    → due ≡ true → bytes ≡ call_of old
    → (Letter old.mapper bytes ≡ wanted answer due old) × (record old { is_due = false } ≡ sent answer old)
letter_goes (Some x) due old bytes none is e = absurd cc
letter_goes None false old bytes none is e = absurd cc
letter_goes None true old bytes none is e = (ap (λ (b : List ℕ). Letter old.mapper b) e, refl)
