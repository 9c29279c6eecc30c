use Rattle.yp_end_to_end.proofs.exchange.Mailed.{order_mail_tells, master_mail_tells, first_mail_tells, next_mail_tells}
use Rattle.yp_end_to_end.proofs.exchange.laws.mail_tells.Goals as goal

pub returns : goal.returns
returns c =
    let law = c.written_is_read_again.ensures in
    let calls = c.call_is_heard_again.ensures in
    record {
      order = order_mail_tells law calls;
      master = master_mail_tells law calls;
      first = first_mail_tells law calls;
      next = next_mail_tells law calls;
    }
