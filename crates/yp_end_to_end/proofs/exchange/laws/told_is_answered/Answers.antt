use Rattle.yp_end_to_end.proofs.exchange.Completing.{told_is_answered}
use Rattle.yp_end_to_end.proofs.exchange.laws.told_is_answered.Goals as goal

pub returns : goal.returns
returns c = told_is_answered (record {
  value = c.match_tells.ensures;
  all = c.all_tells.ensures;
  room = c.room_for_version.ensures;
  master = c.master_tells.ensures;
  order = c.order_tells.ensures;
  names = c.maplist_tells.ensures;
  pull = c.pull_tells.ensures;
  make = c.make_tells.ensures.response;
  made = c.make_tells.ensures.says;
})
