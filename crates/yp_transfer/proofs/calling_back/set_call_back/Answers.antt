use Rattle.std.proofs.Common.{◌∙◌, arith, append_assoc}
use Rattle.yp_xdr.specs.Spelling.{spelling, opaque, fixed}
use Rattle.yp_rpc.specs.Call.{front_kind, procedure_kind}
use Rattle.yp_rpc.specs.Called.{front, heading}
use Rattle.yp_rpc.specs.inside.Called.{called}
use Rattle.yp_messages.specs.Transfers.{resp_xfr, xfr_number}
use Rattle.yp_transfer.proofs.Setting.{fills}
use Rattle.yp_transfer.proofs.calling_back.set_call_back.Goals as goal

pub unreachable-requires : goal.unreachable-requires
unfolding opaque fixed
unreachable-requires c = omega (arith, c.in-Err.ensures.written.no_room, c.requires)

pub returns : goal.returns
unfolding opaque fixed
returns c =
    let arguments = spelling resp_xfr (c.args.transid, xfr_number c.args.stat) in
    fills c.written_is_joined.ensures c.args.letter.now c.write_call.new.buf c.set.new.buf
    (called c.args.transid c.args.prog 1 1) arguments c.in-Ok.at c.in-Ok.ensures.written.bytes_there
    c.in-Ok.ensures.written.place.0 c.set.ensures.bytes_there c.requires
    ∙ append_assoc (spelling front_kind (front c.args.transid))
    (spelling procedure_kind (heading c.args.prog 1 1)) arguments
