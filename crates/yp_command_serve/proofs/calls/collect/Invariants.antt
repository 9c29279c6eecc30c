use Rattle.std.proofs.Common.{◌≡◌, ◌+◌, ◌≤◌, ◌++◌, [], length, take, min}
use Rattle.yp_rpc.specs.Records.{joined}
use Rattle.yp_answer.specs.inside.Streams.{parts_left}
use Rattle.yp_command_serve.proofs.calls.collect.Given as goal

abbrev pub invariant-loop-len : goal.invariant-loop-len
invariant-loop-len l =
    let left = parts_left l.board.known l.stream in
    record {
      put : l.reply.items ++ (take l.len l.buf ++ joined left) ≡ l.initial.reply.items ++ joined (parts_left l.board.known l.fn.stream);
      last : l.len ≡ 0 → left ≡ [];
      within : l.len ≤ length l.buf;
      source : l.stream.source ≡ l.fn.stream.source;
    }

abbrev pub decreases-loop-len : goal.decreases-loop-len
decreases-loop-len l = length (parts_left l.board.known l.stream) + min l.len 1
