-- An error that is handed on.
use Rattle.std.proofs.Common.{◌≡◌, Result, Ok, Err, subst, sym}
use Rattle.std.specs.Prelude.{IfErr}
use Rattle.std.specs.Result.{IsErrAnd}
use Rattle.yp_netgroup.specs.declared.reverse.fault.RevFault.{RevFault}

-- what is so of it is so of what is answered
pub err_same : {T : Type 0} (result : Result T RevFault) (fault : RevFault) (P : RevFault → Type 0)
    → IsErrAnd result (λ other. other ≡ fault) → P fault → IfErr result P
err_same (Ok x) fault P is h = tt
err_same (Err other) fault P is h = subst P (sym is) h
