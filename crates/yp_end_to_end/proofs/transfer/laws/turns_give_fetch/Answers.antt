use Rattle.yp_end_to_end.proofs.transfer.Turning.{turns_give}
use Rattle.yp_end_to_end.proofs.transfer.laws.turns_give_fetch.Goals as goal

pub returns : goal.returns
returns c = turns_give (record {
  whole = c.sent_is_whole.ensures;
  order = c.order_tells.ensures;
  master = c.master_tells.ensures;
  all = c.all_tells.ensures;
  room = c.room_for_version.ensures;
})
