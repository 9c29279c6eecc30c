use Rattle.yp_end_to_end.proofs.walk.Showing.{skew_is_shown}
use Rattle.yp_end_to_end.proofs.walk.laws.skew_is_shown.Goals as goal

pub returns : goal.returns
returns c =
    skew_is_shown (record {
      order = c.mail_tells.ensures.order;
      master = c.mail_tells.ensures.master;
      first = c.mail_tells.ensures.first;
      next = c.mail_tells.ensures.next;
    }) c.front_is_served.ensures
