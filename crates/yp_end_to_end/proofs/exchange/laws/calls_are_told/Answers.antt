use Rattle.yp_end_to_end.proofs.exchange.Asking.{calls_are_told}
use Rattle.yp_end_to_end.proofs.exchange.laws.calls_are_told.Goals as goal

pub returns : goal.returns
returns c = calls_are_told (record {
  replies = record {
    value = c.match_tells.ensures;
    all = c.all_tells.ensures;
    room = c.room_for_version.ensures;
    master = c.master_tells.ensures;
    order = c.order_tells.ensures;
    names = c.maplist_tells.ensures;
    pull = c.pull_tells.ensures;
    make = c.make_tells.ensures.response;
    made = c.make_tells.ensures.says;
  };
  stays = c.rising_stays.ensures;
  records = record { first = c.first_is_one.ensures; rest = c.rest_is_not_whole.ensures };
})
