use Rattle.std.proofs.Common.{arith}
use Rattle.yp_answer.proofs.Rooms.{master_short}
use Rattle.yp_answer.proofs.facts.answer_master.Goals as goal

pub set-requires-clause-room : goal.set-requires-clause-room
set-requires-clause-room g c = omega (arith, master_short c.mastered.result c.mastered.ensures.len, c.put_head-at.ensures.short, c.put_head-at.auto.buf, c.requires)
