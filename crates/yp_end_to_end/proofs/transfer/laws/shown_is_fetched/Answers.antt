use Rattle.yp_end_to_end.proofs.transfer.Giving.{is_given}
use Rattle.yp_end_to_end.proofs.transfer.laws.shown_is_fetched.Goals as goal

pub returns : goal.returns
returns c = λ moments peer wanted xid at stream source outcome served word domain map shown may some newer gives fetched.
    is_given (record {
      records = record { first = c.first_is_one.ensures; rest = c.rest_is_not_whole.ensures };
      order = c.order_tells.ensures;
      master = c.master_tells.ensures;
      all = c.all_tells.ensures;
      room = c.room_for_version.ensures;
      rising = c.rising_stays.ensures;
    }) moments peer wanted source served domain map shown may xid at stream outcome word some newer gives fetched
