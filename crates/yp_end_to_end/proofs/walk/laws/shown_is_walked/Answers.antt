use Rattle.yp_end_to_end.proofs.walk.Showing.{shown_is_walked}
use Rattle.yp_end_to_end.proofs.walk.laws.shown_is_walked.Goals as goal

pub returns : goal.returns
returns c =
    shown_is_walked (record {
      order = c.mail_tells.ensures.order;
      master = c.mail_tells.ensures.master;
      first = c.mail_tells.ensures.first;
      next = c.mail_tells.ensures.next;
    }) c.front_is_served.ensures c.shown_is_sound.ensures c.told_is_whole.ensures
