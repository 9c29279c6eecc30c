use Rattle.std.proofs.Common.{◌≡◌, ℕ, ◌+◌, ◌≤◌, ◌<◌, List, [], ◌++◌, length, take, min}
use Rattle.yp_rpc.specs.Records.{joined}
use Rattle.yp_answer.specs.inside.Streams.{parts_left}
use Rattle.yp_answer.proofs.session.Streaming.{HasPut}
use Rattle.yp_answer.proofs.session.send.send_stream.Given as goal

abbrev pub invariant-loop-len : goal.invariant-loop-len
invariant-loop-len g l =
    let known = (g.V.View.seen l.view).known in
    let left = parts_left known l.stream in
    record {
      put : (put : List ℕ) × HasPut (g.K.Sink.output l.initial.sink) (g.K.Sink.output l.sink) put l.writer
          × (put ++ (take l.len l.buf ++ joined left) ≡ joined (parts_left known l.fn.stream));
      last : l.len ≡ 0 → left ≡ [];
      waits : l.len ≡ 0 → 0 < length l.writer;
      within : l.len ≤ length l.buf;
      source : l.stream.source ≡ l.fn.stream.source;
      faults : g.K.Sink.faults l.initial.sink ≤ g.K.Sink.faults l.sink;
    }

abbrev pub decreases-loop-len : goal.decreases-loop-len
decreases-loop-len g l = length (parts_left (g.V.View.seen l.view).known l.stream) + min l.len 1
