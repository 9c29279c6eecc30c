use Rattle.std.proofs.Common.{◌≡◌, ◌<◌, length, [], ◌∷◌, ◌++◌, sym, ◌∙◌, arith}
use Rattle.std.specs.Prelude.{string_bytes}
use Rattle.std.proofs.lemmas.List.{length-map}
use Rattle.std.proofs.lemmas.Result.{err_from_is_err_and}
use Rattle.yp_version.specs.Rows.{Row}
use Rattle.yp_command.specs.Forms as form
use Rattle.yp_command.specs.Words.{texts}
use Rattle.yp_command.proofs.Reading.{each_more, each_wrong}
use Rattle.yp_command.proofs.further.each_pair.Goals as goal

pub loop-i-preserved : goal.loop-i-preserved
loop-i-preserved c =
    let words = texts c.args.words.words.now in
    let before = c.loop-i.invariant in
    let pair = c.in_ok-pair.pair in
    let value : Row = (pair.0.now, pair.1.now) in (
      before.0 ++ value ∷ [],
      c.with_row-rows.ensures before.0 before.1,
      sym (each_more form.pair c.loop-i.i before.0 words value (sym c.in_ok-pair.ensures)) ∙ before.2,
    )

pub returns-in_err-pair : goal.returns-in_err-pair
returns-in_err-pair c =
    let words = texts c.args.words.words.now in
    let before = c.loop-i.invariant in
    let within : c.loop-i.i < length words =
    omega (arith, c.loop-i-test.true, length-map c.args.words.words.now string_bytes) in
    let p = err_from_is_err_and c.from_residual.result c.from_residual.ensures.1 in
    rw (p.1, p.2) (sym before.2 ∙ each_wrong form.pair c.loop-i.i before.0 words _ within (sym c.in_err-pair.ensures))
