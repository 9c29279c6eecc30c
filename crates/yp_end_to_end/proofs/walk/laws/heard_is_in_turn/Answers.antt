use Rattle.yp_end_to_end.proofs.walk.Turning.{heard_is_in_turn}
use Rattle.yp_end_to_end.proofs.walk.laws.heard_is_in_turn.Goals as goal

pub returns : goal.returns
returns c =
    heard_is_in_turn (record {
      order = c.mail_tells.ensures.order;
      master = c.mail_tells.ensures.master;
      first = c.mail_tells.ensures.first;
      next = c.mail_tells.ensures.next;
    }) c.front_is_served.ensures
