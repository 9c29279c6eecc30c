use Rattle.yp_end_to_end.proofs.exchange.Running.{run_is_printed}
use Rattle.yp_end_to_end.proofs.exchange.laws.run_is_printed.Goals as goal

pub returns : goal.returns
returns c = run_is_printed (record {
  replies = record {
    value = c.match_tells.ensures;
    all = c.all_tells.ensures;
    room = c.room_for_version.ensures;
    master = c.master_tells.ensures;
    order = c.order_tells.ensures;
    names = c.maplist_tells.ensures;
    pull = c.pull_tells.ensures;
    make = c.make_tells.ensures.response;
    made = c.make_tells.ensures.says;
  };
  prints = c.query_prints_told.ensures;
})
