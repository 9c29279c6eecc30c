use Rattle.yp_answer.proofs.session.Talking.{paid_follows, none_open, unsettled}
use Rattle.yp_answer.proofs.session.conversation.Conversation.pay.Goals as goal

pub returns-in-Ok-Whole-clause-follows : goal.returns-in-Ok-Whole-clause-follows
returns-in-Ok-Whole-clause-follows g c =
    let sound = rw (← c.self.view_is) at c.requires.sound in
    let paid = rw c.in-Ok-Whole.field-0-is at c.in-Ok-Whole.ensures.paid in
    rw (← c.self.view_is) (paid_follows g.S.TrySource g.K.TrySink _ c.pay.new.self.sink c.pay.new.self.owed c.is_none-self-inside.result sound
    c.pay.ensures.kept (λ h. (paid.0, none_open c.self.inside.stream c.is_none-self-inside.result c.is_none-self-inside.ensures h, paid.1)))

pub returns-in-Ok-Part-clause-follows : goal.returns-in-Ok-Part-clause-follows
returns-in-Ok-Part-clause-follows g c =
    let sound = rw (← c.self.view_is) at c.requires.sound in
    let unpaid = rw (← c.self.view_is) at c.requires.unpaid in
    rw (← c.self.view_is) (paid_follows g.S.TrySource g.K.TrySink _ c.pay.new.self.sink c.pay.new.self.owed c.self.inside.is_settled sound
    c.pay.ensures.kept (λ h. unsettled c.self.inside.is_settled unpaid h))

pub returns-in-Ok-NotNow-clause-follows : goal.returns-in-Ok-NotNow-clause-follows
returns-in-Ok-NotNow-clause-follows g c =
    let sound = rw (← c.self.view_is) at c.requires.sound in
    let unpaid = rw (← c.self.view_is) at c.requires.unpaid in
    rw (← c.self.view_is) (paid_follows g.S.TrySource g.K.TrySink _ c.pay.new.self.sink c.pay.new.self.owed c.self.inside.is_settled sound
    c.pay.ensures.kept (λ h. unsettled c.self.inside.is_settled unpaid h))

pub returns-in-Err-clause-follows : goal.returns-in-Err-clause-follows
returns-in-Err-clause-follows g c =
    let sound = rw (← c.self.view_is) at c.requires.sound in
    let unpaid = rw (← c.self.view_is) at c.requires.unpaid in
    rw (← c.self.view_is) (paid_follows g.S.TrySource g.K.TrySink _ c.pay.new.self.sink c.pay.new.self.owed c.self.inside.is_settled sound
    c.pay.ensures.kept (λ h. unsettled c.self.inside.is_settled unpaid h))
