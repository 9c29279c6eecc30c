use Rattle.std.proofs.Common.{◌≤◌, length, sym, arith}
use Rattle.std.proofs.lemmas.List.{length-take-le}
use Rattle.yp_rpc.specs.Records.{joined}
use Rattle.yp_answer.specs.inside.Streams.{held_parts}
use Rattle.yp_answer.proofs.session.Putting.{rest_behind, rest_in, some_put, not_none}
use Rattle.yp_answer.proofs.session.Sending.{on_err}
use Rattle.yp_answer.proofs.session.open.OpenReply.put_next.Goals as goal

pub slice_bounds-room-end-2 : goal.slice_bounds-room-end-2
slice_bounds-room-end-2 g c =
    let room : 135168 ≤ length c.args.buf.now = omega (arith, c.requires.room) in sym (length-take-le 135168 c.args.buf.now room)

pub piece-len-requires : goal.piece-len-requires
piece-len-requires g c =
    let room : 135168 ≤ length c.args.buf.now = omega (arith, c.requires.room) in omega (arith, length-take-le 135168 c.args.buf.now room)

pub returns-in_err-put-clause-prefix : goal.returns-in_err-put-clause-prefix
returns-in_err-put-clause-prefix g c =
    let front = c.in_err-put.ensures.prefix (joined (held_parts c.piece-len.new.self)) in
    on_err _ c.from_residual.result (rw (← c.self.view_is) (front.0, rw (rest_in _ _ _ _ c.piece-len.ensures.gives) front.1))

pub returns-then-len-gt0-clause-more : goal.returns-then-len-gt0-clause-more
returns-then-len-gt0-clause-more g c _ =
    let sent = c.in_ok-put.ensures.sent in
    let some = c.in_ok-put.ensures.pending (some_put c.self.inside.writer c.piece-len.new.buf c.piece-len.result c.if-len-gt0.true c.piece-len.ensures.within) in
    rw (← c.self.view_is) (
      (λ none _. not_none c.put.new.self some none),
      (
        sent.0,
        sent.1,
        rest_behind (record { held = c.self.inside.held; waits = c.self.inside.writer }) (record { held = c.piece-len.new.self; waits = c.put.new.self }) _
            sent.0 c.piece-len.ensures.gives some sent.2,
      ),
    )
