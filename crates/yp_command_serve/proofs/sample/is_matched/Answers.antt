use Rattle.std.proofs.Common.{ℕ, List, ap, ◌∙◌, take}
use Rattle.std.specs.Prelude.{bytes_eq}
use Rattle.yp_answer.specs.Maps.{maps_of}
use Rattle.yp_command_serve.proofs.Counted.{unmatched, matched_is}
use Rattle.yp_command_serve.proofs.sample.is_matched.Goals as goal

pub returns-then-not-branch-clause-matched : goal.returns-then-not-branch-clause-matched
returns-then-not-branch-clause-matched c =
    unmatched (maps_of c.args.board.now) (take c.set_match-len.result c.set_match-len.new.buf) c.args.key.now c.args.value.now c.ask.new.reply.items
    c.in_ok-ask.field-0 c.set_match-len.ensures.call c.in_ok-ask.ensures.reply c.if-not-branch.true

pub returns-clause-matched : goal.returns-clause-matched
returns-clause-matched c =
    let reply = c.ask.new.reply.items in
    let expected = take c.set_value-len.result c.set_value-len.new.buf in
    c.eq.ensures ∙ ap (λ (r : List ℕ). bytes_eq r expected) c.as_slice.ensures.value ∙ ap (λ (e : List ℕ). bytes_eq reply e) c.set_value-len.ensures.reply
    ∙ matched_is (maps_of c.args.board.now) (take c.set_match-len.result c.set_match-len.new.buf) c.args.key.now c.args.value.now reply
    c.in_ok-ask.field-0 c.set_match-len.ensures.call c.in_ok-ask.ensures.reply c.if-not-branch.false
