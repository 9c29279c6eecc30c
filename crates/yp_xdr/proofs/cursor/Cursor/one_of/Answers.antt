use Rattle.std.proofs.Common.{◌≡◌, ℤ, false, refl, sym, subst}
use Rattle.std.specs.Int.{w32, cast_signed, cast_unsigned}
use Rattle.std.proofs.lemmas.Int.{to_z-of_z}
use Rattle.yp_xdr.specs.Spelling.{is_one_of}
use Rattle.yp_xdr.specs.Reading.{one_of_at}
use Rattle.yp_xdr.proofs.cursor.Cursor.one_of.Goals as goal

pub returns-else-contains-clause-read : goal.returns-else-contains-clause-read
unfolding one_of_at
returns-else-contains-clause-read c =
    let number = c.in_ok-number.number in
    let kept : cast_signed w32 (cast_unsigned w32 number) ≡ number =
    to_z-of_z w32 number c.in_ok-number.ensures.spelled.spells.fits in
    let P : ℤ → Type 0 = λ z. is_one_of c.args.allowed.now z ≡ false in
    let other : P number = subst P kept (sym c.if-contains.ensures.value) in
    (rw (c.in_ok-number.ensures.read, other) refl, refl)
