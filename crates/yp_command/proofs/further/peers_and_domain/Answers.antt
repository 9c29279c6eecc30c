use Rattle.std.proofs.Common.{◌≡◌, ◌<◌, length, [], ◌∷◌, ◌++◌, sym, ◌∙◌, arith, rules}
use Rattle.std.specs.Prelude.{string_bytes}
use Rattle.std.proofs.lemmas.List.{length-map}
use Rattle.std.proofs.lemmas.Result.{err_from_is_err_and}
use Rattle.yp_command.specs.Words.{texts}
use Rattle.yp_command.proofs.Reading.{compared_more, compared_early, compared_wrong}
use Rattle.yp_command.proofs.further.peers_and_domain.Goals as goal

pub loop-i-preserved : goal.loop-i-preserved
loop-i-preserved c =
    let words = texts c.args.words.words.now in
    let before = c.loop-i.invariant in
    let peer = c.in_ok-peer.peer in (
      search rules,
      before.1 ++ peer ∷ [],
      c.with_peer-peers.ensures before.1 before.2,
      sym (compared_more c.loop-i.i before.1 c.loop-i.last.now words peer c.in_ok-next.next.now (sym c.in_ok-peer.ensures)
          (sym c.in_ok-next.ensures)) ∙ before.3,
    )

pub returns-in_err-peer : goal.returns-in_err-peer
returns-in_err-peer c =
    let words = texts c.args.words.words.now in
    let before = c.loop-i.invariant in
    let within : c.loop-i.i < length words =
    omega (arith, c.loop-i-test.true, length-map c.args.words.words.now string_bytes) in
    let p = err_from_is_err_and c.from_residual.result c.from_residual.ensures.1 in
    rw (p.1, p.2)
    (sym before.3 ∙ compared_early c.loop-i.i before.1 c.loop-i.last.now words _ within (sym c.in_err-peer.ensures))

pub returns-in_err-next : goal.returns-in_err-next
returns-in_err-next c =
    let words = texts c.args.words.words.now in
    let before = c.loop-i.invariant in
    let within : c.loop-i.i < length words =
    omega (arith, c.loop-i-test.true, length-map c.args.words.words.now string_bytes) in
    let stop = c.from_residual-in_err-next in
    let p = err_from_is_err_and stop.result stop.ensures.1 in
    rw (p.1, p.2)
    (sym before.3 ∙ compared_wrong c.loop-i.i before.1 c.loop-i.last.now words c.in_ok-peer.peer _ within
    (sym c.in_ok-peer.ensures) (sym c.in_err-next.ensures))
