use Rattle.std.proofs.Common.{◌+◌, length, sym, ◌∙◌, arith}
use Rattle.yp_answer.proofs.Rooms.{valued_len, fits_on, least_room}
use Rattle.yp_answer.proofs.look_up.put_value.Goals as goal

pub set-requires : goal.set-requires
set-requires c =
    omega (arith, valued_len c.no_value.result, c.no_value.ensures.len, least_room c.args.caller.now.path, c.put_head-at.ensures.short, c.put_head-at.auto.buf, c.requires.room)

pub set-requires-2 : goal.set-requires-2
set-requires-2 c =
    let len = valued_len c.args.found.now in
    let fits = fits_on c.args.caller.now.path (c.put_head-at.result + c.len.result) (length c.args.buf.now) (sym c.exceeds.ensures ∙ c.if-exceeds.false)
    (omega (arith, c.len.ensures, len, c.put_head-at.ensures.short, c.requires.len)) c.requires.room in
    omega (arith, fits, c.len.ensures, c.put_head-at.auto.buf)
