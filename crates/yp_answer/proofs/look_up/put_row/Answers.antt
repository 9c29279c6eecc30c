use Rattle.std.proofs.Common.{◌≡◌, ◌+◌, length, sym, ap, ◌∙◌, arith}
use Rattle.std.proofs.lemmas.List.{length-append}
use Rattle.yp_xdr.specs.Kind.{Value}
use Rattle.yp_xdr.specs.Spelling.{opaque}
use Rattle.yp_messages.specs.Messages.{key_val}
use Rattle.yp_answer.proofs.Rooms.{opaque_short, fits_on, least_room}
use Rattle.yp_answer.proofs.look_up.put_row.Goals as goal

pub set-requires-clause-room : goal.set-requires-clause-room
set-requires-clause-room c =
    let val = c.no_row.result.val.now in
    let key = c.no_row.result.key.now in
    let no_val : length val ≡ 0 = ap (λ (v : Value key_val). length v.1.0) c.no_row.ensures.view in
    let no_key : length key ≡ 0 = ap (λ (v : Value key_val). length v.1.1) c.no_row.ensures.view in
    omega (arith, length-append (opaque val) (opaque key), opaque_short val, opaque_short key, least_room c.args.caller.now.path, c.put_head-at.ensures.short, c.put_head-at.auto.buf, c.requires.room)

pub set-requires-2-clause-room : goal.set-requires-2-clause-room
set-requires-2-clause-room c =
    let val = c.args.found.now.val.now in
    let key = c.args.found.now.key.now in
    let both = length-append (opaque val) (opaque key) in
    let fits = fits_on c.args.caller.now.path (c.put_head-at.result + c.len.result) (length c.args.buf.now) (sym c.exceeds.ensures ∙ c.if-exceeds.false)
    (omega (arith, both, c.len.ensures.value, opaque_short val, opaque_short key, c.put_head-at.ensures.short, c.requires.val_len, c.requires.key_len)) c.requires.room in
    omega (arith, fits, c.len.ensures.value, c.put_head-at.auto.buf)
