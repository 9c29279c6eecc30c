use Rattle.std.proofs.Common.{◌++◌, arith}
use Rattle.std.proofs.lemmas.List.{length-append}
use Rattle.yp_xdr.specs.Spelling.{opaque}
use Rattle.yp_command_serve.specs.Sample.{sample_name}
use Rattle.yp_command_serve.proofs.Calling.{opaque_short}
use Rattle.yp_command_serve.proofs.calls.set_match.Goals as goal

pub set_call-requires-clause-room : goal.set_call-requires-clause-room
set_call-requires-clause-room c =
    let key = c.args.key.now in
    omega (arith, length-append (opaque sample_name) (opaque sample_name ++ opaque key), length-append (opaque sample_name) (opaque key), opaque_short sample_name, opaque_short key, c.requires.room, c.requires.key)
