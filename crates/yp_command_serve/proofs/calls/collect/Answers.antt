use Rattle.std.proofs.Common.{◌≡◌, ℕ, List, ◌++◌, take, sym, ap, ◌∙◌, append_assoc, arith}
use Rattle.std.proofs.lemmas.List.{length-take}
use Rattle.yp_rpc.specs.Records.{joined}
use Rattle.yp_answer.specs.inside.Streams.{Streamed, parts_left}
use Rattle.yp_command_serve.proofs.Gathered.{gives_joined, gives_none, smaller}
use Rattle.yp_command_serve.proofs.calls.collect.Goals as goal

pub loop-len-init : goal.loop-len-init
loop-len-init c =
    let known = c.args.board.now.known in
    let piece = c.piece-len in
    let gives = piece.ensures.gives in
    let bytes = take piece.result piece.new.buf in
    record {
      put = ap (λ (xs : List ℕ). c.args.reply.now.items ++ xs) (sym (gives_joined bytes (parts_left known c.args.stream) (parts_left known piece.new.self) gives));
      last = λ e. gives_none bytes (parts_left known c.args.stream) (parts_left known piece.new.self) gives (piece.ensures.end.0 e);
      within = piece.ensures.within;
      source = ap (λ (s : Streamed). s.source) piece.ensures.same;
    }

pub loop-len-smaller : goal.loop-len-smaller
loop-len-smaller c =
    let known = c.args.board.now.known in
    let next = c.piece-len-in-loop-len in
    smaller c.loop-len.len next.result (take next.result next.new.buf) (parts_left known c.loop-len.stream) (parts_left known next.new.self) next.ensures.gives
    (omega (arith, length-take next.result next.new.buf, next.ensures.within)) c.loop-len-test.true

pub loop-len-preserved : goal.loop-len-preserved
loop-len-preserved c =
    let known = c.args.board.now.known in
    let so_far = c.loop-len.invariant in
    let before = c.loop-len.reply.items in
    let piece = take c.loop-len.len c.loop-len.buf in
    let left = parts_left known c.loop-len.stream in
    let next = c.piece-len-in-loop-len in
    let bytes = take next.result next.new.buf in
    let now = parts_left known next.new.self in
    let added : c.extend_from_slice.new.self.items ≡ before ++ piece = c.in-Ok.ensures.items in
    record {
      put =
          ap (λ (xs : List ℕ). xs ++ (bytes ++ joined now)) added ∙ append_assoc before piece (bytes ++ joined now)
          ∙ ap (λ (rest : List ℕ). before ++ (piece ++ rest)) (sym (gives_joined bytes left now next.ensures.gives)) ∙ so_far.put;
      last = λ e. gives_none bytes left now next.ensures.gives (next.ensures.end.0 e);
      within = next.ensures.within;
      source = ap (λ (s : Streamed). s.source) next.ensures.same ∙ so_far.source;
    }
