use Rattle.yp_end_to_end.proofs.transfer.Keeping.{is_kept}
use Rattle.yp_end_to_end.proofs.transfer.laws.fetched_is_shown.Goals as goal

pub returns : goal.returns
returns c = λ catalogue fronts peer wanted xid at stream version served word domain map gives fetched.
    is_kept (record {
      records = record { first = c.first_is_one.ensures; rest = c.rest_is_not_whole.ensures };
      order = c.order_tells.ensures;
      master = c.master_tells.ensures;
      all = c.all_tells.ensures;
      room = c.room_for_version.ensures;
      rising = c.rising_stays.ensures;
    }) catalogue fronts peer wanted version served domain map xid at stream word gives fetched
