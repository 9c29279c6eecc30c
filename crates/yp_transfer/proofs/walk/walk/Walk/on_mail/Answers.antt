use Rattle.yp_transfer.proofs.walk.Delivering.{adds}
use Rattle.yp_transfer.proofs.walk.walk.Walk.on_mail.Goals as goal

pub returns-clause-adds : goal.returns-clause-adds
returns-clause-adds g c = adds (c.args.from, c.args.mail.now) _ _ _ c.hear.ensures.hears
