use Rattle.std.proofs.Common.{◌∙◌, arith, append_assoc}
use Rattle.yp_xdr.specs.Spelling.{spelling, opaque, fixed}
use Rattle.yp_rpc.specs.Call.{front_kind, procedure_kind}
use Rattle.yp_rpc.specs.Called.{front, heading}
use Rattle.yp_rpc.specs.inside.Called.{called}
use Rattle.yp_messages.specs.Messages.{req_domain}
use Rattle.yp_command_mail.proofs.Calling.{opaque_short, call_set}
use Rattle.yp_command_mail.proofs.binding.put_ping.Goals as goal

pub unreachable-requires : goal.unreachable-requires
unfolding opaque fixed
unreachable-requires c = omega (arith, c.in-Err.ensures.written.no_room, c.requires.room)

pub set-requires-clause-room : goal.set-requires-clause-room
set-requires-clause-room c =
    omega (
      arith,
      c.in-Ok.ensures.len,
      c.write_call.auto.buf,
      c.requires.room,
      c.requires.domain,
      opaque_short c.args.domain.now,
    )

pub returns-clause-call : goal.returns-clause-call
returns-clause-call c =
    let arguments = spelling req_domain c.args.domain.now in
    call_set c.written_is_joined.ensures c.args.buf.now c.write_call.new.buf c.set.new.buf
    (called c.args.xid 100004 2 2) arguments c.in-Ok.at c.set.result c.in-Ok.ensures.written.bytes_there
    c.in-Ok.ensures.written.place.0 c.set.ensures.bytes_there c.set.ensures.place
    ∙ append_assoc (spelling front_kind (front c.args.xid)) (spelling procedure_kind (heading 100004 2 2)) arguments
