use Rattle.std.proofs.Common.{get_or, ap, arith, length}
use Rattle.std.proofs.lemmas.List.{get_or_default}
use Rattle.yp_version.specs.Rows.{rows_len}
use Rattle.yp_version.specs.inside.Slabs.{Packed, row_from}
use Rattle.yp_version.proofs.Search.{room_left}
use Rattle.yp_version.proofs.slab.gathered.Goals as goal

pub push_copy-requires-clause-room : goal.push_copy-requires-clause-room
push_copy-requires-clause-room c =
    let x = get_or c.args.places.now c.loop-place.place-index 0 in
    let slab = c.loop-place.invariant in
    let head = ap (λ (p : Packed). length p.head) slab in
    let rows = ap (λ (p : Packed). rows_len p.rows) slab in
    let left = room_left (row_from c.args.bytes.now) c.args.places.now c.loop-place.place-index x c.loop-place-test.true
    (get_or_default c.args.places.now c.loop-place.place-index 0 x c.loop-place-test.true) in
    let room = c.requires.room in
    omega arith
