use Rattle.std.proofs.Common.{◌∙◌, arith, append_assoc}
use Rattle.yp_xdr.specs.Spelling.{spelling, opaque, fixed}
use Rattle.yp_rpc.specs.Call.{front_kind, procedure_kind}
use Rattle.yp_rpc.specs.Called.{front, heading}
use Rattle.yp_rpc.specs.inside.Called.{called}
use Rattle.yp_command_serve.proofs.Calling.{call_set}
use Rattle.yp_command_serve.proofs.calls.set_call.Goals as goal

pub unreachable-requires : goal.unreachable-requires
unfolding opaque fixed
unreachable-requires g c = omega (arith, c.in-Err.ensures.written.no_room)

pub returns-clause-call : goal.returns-clause-call
returns-clause-call g c =
    let arguments = spelling g.M.Message.kind (g.M.Message.view c.args.arguments.now) in
    call_set c.written_is_joined.ensures c.args.buf.now c.write_call.new.buf c.set.new.buf (called 0 100004 2 c.args.procedure) arguments c.in-Ok.at c.set.result
    c.in-Ok.ensures.written.bytes_there c.in-Ok.ensures.written.place.0 c.set.ensures.bytes_there c.set.ensures.place
    ∙ append_assoc (spelling front_kind (front 0)) (spelling procedure_kind (heading 100004 2 c.args.procedure)) arguments

pub set-requires-clause-room : goal.set-requires-clause-room
unfolding opaque fixed
set-requires-clause-room g c = omega (arith, c.in-Ok.ensures.len, c.write_call.auto.buf, c.requires.room)
