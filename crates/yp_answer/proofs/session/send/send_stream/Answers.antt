use Rattle.std.proofs.Common.{◌≡◌, ℕ, ◌+◌, ◌<◌, List, [], ◌++◌, length, take, sym, ap, ◌∙◌, append_assoc, arith}
use Rattle.std.proofs.lemmas.List.{length-append, length-take}
use Rattle.std.proofs.lemmas.Result.{on_err_weaker}
use Rattle.yp_rpc.specs.Records.{sent, joined}
use Rattle.yp_answer.specs.inside.Streams.{Streamed, parts_left}
use Rattle.yp_answer.proofs.session.Sending.{on_err, front_sent}
use Rattle.yp_answer.proofs.session.Streaming.{HasPut-none, HasPut-more, put_front, put_whole, all_put, smaller, gives_joined, gives_none}
use Rattle.yp_answer.proofs.session.send.send_stream.Goals as goal

pub loop-len-init : goal.loop-len-init
loop-len-init g c =
    let known = (g.V.View.seen c.args.view.now).known in
    let piece = c.piece-len in
    record {
      put = (
        [],
        HasPut-none (g.K.Sink.output c.args.sink.now) c.args.writer.now c.requires.idle,
        sym (gives_joined (take piece.result piece.new.buf) (parts_left known c.args.stream) (parts_left known piece.new.self) piece.ensures.gives),
      );
      last = λ e. absurd (c.requires.some (piece.ensures.end.0 e));
      waits = λ e. absurd (c.requires.some (piece.ensures.end.0 e));
      within = piece.ensures.within;
      source = ap (λ (s : Streamed). s.source) piece.ensures.same;
      faults = omega arith;
    }

pub returns-in_err-put-clause-prefix : goal.returns-in_err-put-clause-prefix
returns-in_err-put-clause-prefix g c =
    let known = (g.V.View.seen c.args.view.now).known in
    let so_far = c.loop-len.invariant in
    let piece = take c.loop-len.len c.loop-len.buf in
    let more = joined (parts_left known c.loop-len.stream) in
    let p = c.in_err-put.ensures.prefix more in
    on_err _ c.from_residual.result
    (put_front _ _ _ so_far.put.0 c.loop-len.writer piece more (joined (parts_left known c.args.stream)) p.0 so_far.put.1
    (omega (arith, length-take c.loop-len.len c.loop-len.buf, so_far.within, c.loop-len-test.true)) so_far.put.2 p.1)

pub loop-len-smaller : goal.loop-len-smaller
loop-len-smaller g c =
    let known = (g.V.View.seen c.args.view.now).known in
    let next = c.piece-len-in-loop-len in
    let bytes = take next.result next.new.buf in
    smaller c.loop-len.len next.result bytes (parts_left known c.loop-len.stream) (parts_left known next.new.self) next.ensures.gives
    (omega (arith, length-take next.result next.new.buf, next.ensures.within)) c.loop-len-test.true

pub loop-len-preserved : goal.loop-len-preserved
loop-len-preserved g c =
    let known = (g.V.View.seen c.args.view.now).known in
    let so_far = c.loop-len.invariant in
    let piece = take c.loop-len.len c.loop-len.buf in
    let some : 0 < length piece = omega (arith, length-take c.loop-len.len c.loop-len.buf, so_far.within, c.loop-len-test.true) in
    let left = parts_left known c.loop-len.stream in
    let next = c.piece-len-in-loop-len in
    let bytes = take next.result next.new.buf in
    let now = parts_left known next.new.self in
    let put = c.in_ok-put.ensures.sent in
    record {
      put = (
        so_far.put.0 ++ piece,
        HasPut-more _ _ _ so_far.put.0 c.loop-len.writer piece c.put.new.self put.0 so_far.put.1 some put.1 put.2,
        append_assoc so_far.put.0 piece (bytes ++ joined now) ∙ ap (λ (rest : List ℕ). so_far.put.0 ++ (piece ++ rest)) (sym (gives_joined bytes left now next.ensures.gives)) ∙ so_far.put.2,
      );
      last = λ e. gives_none bytes left now next.ensures.gives (next.ensures.end.0 e);
      waits = λ e. c.in_ok-put.ensures.pending (omega (arith, length-append c.loop-len.writer piece));
      within = next.ensures.within;
      source = ap (λ (s : Streamed). s.source) next.ensures.same ∙ so_far.source;
      faults = omega (arith, so_far.faults, c.in_ok-put.ensures.cause.never_falls);
    }

pub returns-clause-prefix : goal.returns-clause-prefix
returns-clause-prefix g c =
    let known = (g.V.View.seen c.args.view.now).known in
    let so_far = c.loop-len.invariant in
    let put = so_far.put.1 in
    let whole = joined (parts_left known c.args.stream) in
    let len : c.loop-len.len ≡ 0 = omega (arith, c.loop-len-test.false) in
    let all = all_put so_far.put.0 (take c.loop-len.len c.loop-len.buf) whole (parts_left known c.loop-len.stream)
    (omega (arith, length-take c.loop-len.len c.loop-len.buf)) (so_far.last len) so_far.put.2 in
    let sends : sent whole ≡ put.out ++ sent c.loop-len.writer = put_whole _ _ so_far.put.0 c.loop-len.writer whole put (so_far.waits len) all in
    on_err_weaker c.end.result (λ h. (length put.out + h.0, front_sent _ _ _ put.out whole c.loop-len.writer h.0 put.gone h.1 sends)) c.end.ensures.prefix
