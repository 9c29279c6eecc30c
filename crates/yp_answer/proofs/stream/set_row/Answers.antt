use Rattle.std.proofs.Common.{◌++◌}
use Rattle.yp_answer.proofs.stream.set_row.Goals as goal

pub returns : goal.returns
returns c =
    let val = c.args.val.now in
    let key = c.args.key.now in
    let behind = c.sets_join.ensures val key _ _ _ _ _ _ c.set_bytes-at-2.ensures c.set_bytes.ensures in
    c.sets_join.ensures _ (val ++ key) _ _ _ _ _ _ c.set_bytes-at.ensures behind
