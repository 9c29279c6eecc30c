use Rattle.yp_headline.proofs.Torn as torn
use Rattle.yp_headline.proofs.Lost as lost
use Rattle.yp_headline.proofs.Spoiled as spoiled
use Rattle.yp_headline.proofs.Served as served
use Rattle.yp_headline.proofs.Returned as returned
use Rattle.yp_headline.proofs.worlds.crashes_are_false.Goals as goal

pub returns : goal.returns
returns c = record {
  torn_at_end = torn.torn_at_end;
  torn_meanwhile = torn.torn_meanwhile;
  lost_at_end = lost.lost_at_end;
  lost_meanwhile = lost.lost_meanwhile;
  from_nowhere = lost.from_nowhere;
  cut_at_end = spoiled.cut_at_end;
  torn_body = spoiled.torn_body;
  older_at_end = spoiled.older_at_end;
  of_no_text = spoiled.of_no_text;
  of_another_map = spoiled.of_another_map;
  told_too_early = spoiled.told_too_early;
  of_nobody_meanwhile = served.of_nobody_meanwhile c.first_is_one.ensures;
  of_nobody_at_end = served.of_nobody_at_end c.first_is_one.ensures;
  never_new = served.never_new c.first_is_one.ensures;
  went_back = returned.went_back c.first_is_one.ensures;
}
