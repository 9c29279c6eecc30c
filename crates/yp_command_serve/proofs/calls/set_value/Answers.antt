use Rattle.std.proofs.Common.{arith}
use Rattle.yp_command_serve.proofs.Calling.{opaque_short}
use Rattle.yp_command_serve.proofs.calls.set_value.Goals as goal

pub set-requires-clause-room : goal.set-requires-clause-room
set-requires-clause-room c = omega (arith, opaque_short c.args.value.now, c.in-Ok.ensures.place.0, c.write_reply.auto.buf, c.requires.room, c.requires.value)
