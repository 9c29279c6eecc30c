use Rattle.std.proofs.Common.{arith}
use Rattle.yp_xdr.specs.Spelling.{opaque}
use Rattle.yp_version.specs.inside.Bodies.{row_bytes}
use Rattle.yp_version.specs.Limits.{key_max, value_max}
use Rattle.yp_version.proofs.Lengths.{length_opaque}
use Rattle.yp_version.proofs.slab.set_row.Goals as goal

pub set_opaque-behind-requires-clause-room : goal.set_opaque-behind-requires-clause-room
set_opaque-behind-requires-clause-room c =
    let room = c.requires.room in
    let key = length_opaque key_max c.args.key.now in
    omega arith

pub set_opaque-requires-clause-room : goal.set_opaque-requires-clause-room
set_opaque-requires-clause-room c =
    let room = c.requires.room in
    let place = c.set_opaque-behind.ensures.place in
    let key = length_opaque key_max c.args.key.now in
    let value = length_opaque value_max c.args.value.now in
    let kept = c.set_opaque-behind.auto.buf in
    omega arith

pub returns : goal.returns
unfolding row_bytes
returns c = c.set_opaque-behind.ensures.with_more (opaque c.args.value.now) c.set_opaque.new.buf c.set_opaque.ensures.bytes_there
