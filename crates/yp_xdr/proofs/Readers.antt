-- What a reader's answer says of the bytes that it had before it.
use Rattle.std.proofs.Common.{Result, Ok, Err}
use Rattle.std.specs.Prelude.{IfOk, OnErr}
use Rattle.yp_xdr.specs.declared.fault.XdrFault.{XdrFault}
use Rattle.yp_xdr.specs.Kind.{Kind, Value}
use Rattle.yp_xdr.specs.Reading.{Remaining}
use Rattle.yp_xdr.specs.inside.Reading.{Reads, BeginsWith, BeginsWithNone, IsBytes}
use Rattle.yp_xdr.proofs.KindLaws.{read_is_spelled, refused_is_not_spelled}

-- what a reader answers is spelled by the bytes that it passed
pub spelled : {X : Type 0} (kind : Kind) (view : X → Value kind) (result : Result X XdrFault) (old new : Remaining)
    → IsBytes old.bytes → Reads kind view result old new → IfOk result (λ x. BeginsWith kind (view x) old new)
spelled kind view (Ok x) old new are_bytes reads = read_is_spelled kind old new (view x) are_bytes reads
spelled kind view (Err fault) old new are_bytes reads = tt

-- where a reader refuses, no front of the bytes spells a value
pub refused : {X : Type 0} (kind : Kind) (view : X → Value kind) (result : Result X XdrFault) (old new : Remaining)
    → Reads kind view result old new → OnErr result (BeginsWithNone kind old.bytes)
refused kind view (Ok x) old new reads = tt
refused kind view (Err fault) old new reads = refused_is_not_spelled kind old fault reads.0
