use Rattle.std.proofs.Common.{◌≡◌, true, ap, sym, ◌∙◌}
use Rattle.std.specs.Prelude.{decimal}
use Rattle.std.proofs.lemmas.Slice.Eq.{bytes_eq-Decides}
use Rattle.yp_command.proofs.Numerals.{number_yes, number_no}
use Rattle.yp_command.proofs.form.number.Goals as goal

pub returns-in-Ok : goal.returns-in-Ok
returns-in-Ok c =
    let same = (bytes_eq-Decides c.format.result.now c.args.word.now).0 (sym c.eq.ensures ∙ c.if-eq.true) in
    sym (number_yes c.args.word.now c.parse.result c.in-Ok.number c.parse.ensures.value.0 c.in-Ok.is
    (sym c.format.ensures.text ∙ same))

pub returns-in_default : goal.returns-in_default
returns-in_default c = sym (number_no c.args.word.now c.parse.result c.parse.ensures.value.0 (λ n is same.
    let read = c.in-Ok.is in
    let number : c.in-Ok.number ≡ n = cc in
    let equal : c.eq.result ≡ true =
    c.eq.ensures
    ∙ (bytes_eq-Decides c.format.result.now c.args.word.now).1 (c.format.ensures.text ∙ ap decimal number ∙ same) in
    let unequal = c.if-eq.false in
    absurd cc))

pub returns-in_default-2 : goal.returns-in_default-2
returns-in_default-2 c = sym (number_no c.args.word.now c.parse.result c.parse.ensures.value.0 (λ n is same.
    let failed = c.in_default.is in
    absurd cc))
