use Rattle.yp_end_to_end.proofs.walk.Showing.{walked_is_shown}
use Rattle.yp_end_to_end.proofs.walk.laws.walked_is_shown.Goals as goal

pub returns : goal.returns
returns c =
    walked_is_shown (record {
      order = c.mail_tells.ensures.order;
      master = c.mail_tells.ensures.master;
      first = c.mail_tells.ensures.first;
      next = c.mail_tells.ensures.next;
    }) c.front_is_served.ensures c.shown_is_sound.ensures c.shown_between.ensures c.told_is_walked.ensures
