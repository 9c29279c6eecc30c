use Rattle.std.proofs.Common.{inl, arith}
use Rattle.yp_transfer.specs.inside.walk.Kept.{wanted_in}
use Rattle.yp_transfer.proofs.walk.Rooms.{too_long, short_enough}
use Rattle.yp_transfer.proofs.walk.state_after.ask_behind.Goals as goal

pub returns-then-len-gt-DATAGRAM_MAX-clause-standing : goal.returns-then-len-gt-DATAGRAM_MAX-clause-standing
returns-then-len-gt-DATAGRAM_MAX-clause-standing c =
    inl (too_long (wanted_in c.args.asked.now) c.args.builder c.args.key.now c.len.result
    (rw (c.deref.ensures.value, c.deref-2.ensures.value) at c.len.ensures.value) (omega arith))

pub returns-in-Ok-clause-standing : goal.returns-in-Ok-clause-standing
returns-in-Ok-clause-standing c =
    rw (c.in-Ok.ensures.items, c.clear.ensures.items)
    (inl (short_enough (wanted_in c.args.asked.now) c.args.builder c.args.key.now c.len.result
    (rw (c.deref.ensures.value, c.deref-2.ensures.value) at c.len.ensures.value) (omega arith)))
