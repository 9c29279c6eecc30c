use Rattle.std.proofs.Common.{◌≡◌, ◌<◌, length, [], ◌∷◌, ◌++◌, sym, ◌∙◌, arith}
use Rattle.std.specs.Prelude.{string_bytes}
use Rattle.std.proofs.lemmas.List.{length-map}
use Rattle.std.proofs.lemmas.Result.{err_from_is_err_and}
use Rattle.yp_command.specs.Forms.{Host}
use Rattle.yp_command.specs.Forms as form
use Rattle.yp_command.specs.Words.{texts}
use Rattle.yp_command.proofs.Reading.{each_more, each_wrong}
use Rattle.yp_command.proofs.further.each_host.Goals as goal

pub loop-i-preserved : goal.loop-i-preserved
loop-i-preserved c =
    let words = texts c.args.words.words.now in
    let before = c.loop-i.invariant in
    let host = c.in_ok-host.host in
    let value : Host = (host.0.now, host.1) in (
      before.0 ++ value ∷ [],
      c.with_host-hosts.ensures before.0 before.1,
      sym (each_more form.host c.loop-i.i before.0 words value (sym c.in_ok-host.ensures)) ∙ before.2,
    )

pub returns-in_err-host : goal.returns-in_err-host
returns-in_err-host c =
    let words = texts c.args.words.words.now in
    let before = c.loop-i.invariant in
    let within : c.loop-i.i < length words =
    omega (arith, c.loop-i-test.true, length-map c.args.words.words.now string_bytes) in
    let p = err_from_is_err_and c.from_residual.result c.from_residual.ensures.1 in
    rw (p.1, p.2) (sym before.2 ∙ each_wrong form.host c.loop-i.i before.0 words _ within (sym c.in_err-host.ensures))
