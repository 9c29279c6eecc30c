-- Arguments that a reader gave.
use Rattle.std.proofs.Common.{◌≡◌, List, ℕ, Result, Ok, Err, sym, ap, ◌∙◌}
use Rattle.std.specs.Prelude.{IfOk}
use Rattle.yp_xdr.specs.declared.fault.XdrFault.{XdrFault}
use Rattle.yp_xdr.specs.Kind.{Kind, Value}
use Rattle.yp_xdr.specs.inside.Spelling.{Fits}
use Rattle.yp_xdr.specs.Reading.{Remaining, reading}
use Rattle.yp_xdr.specs.inside.Reading.{Reads, BeginsWith}
use Rattle.yp_answer.specs.Reply.{value_read}
use Rattle.yp_answer.specs.inside.Reply.{ReadsArguments}

pub reads_arguments : {M : Type 0} (kind : Kind) (view : M → Value kind) (bytes : List ℕ) (result : Result M XdrFault) (old new : Remaining)
    → old ≡ record { at = 0; bytes = bytes } → Reads kind view result old new → ReadsArguments kind view bytes result
reads_arguments kind view bytes (Ok arguments) old new begins is = ap (λ left. value_read (reading kind left)) (sym begins) ∙ ap value_read is
reads_arguments kind view bytes (Err fault) old new begins is = ap (λ left. value_read (reading kind left)) (sym begins) ∙ ap value_read is.0

pub fits_arguments : {M : Type 0} (kind : Kind) (view : M → Value kind) (result : Result M XdrFault) (old new : Remaining)
    → IfOk result (λ m. BeginsWith kind (view m) old new) → IfOk result (λ m. Fits kind (view m))
fits_arguments kind view (Ok arguments) old new begins = begins.spells.fits
fits_arguments kind view (Err fault) old new begins = tt
