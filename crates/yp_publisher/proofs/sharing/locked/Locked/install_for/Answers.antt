use Rattle.std.proofs.Common.{sym, subst}
use Rattle.yp_publisher.specs.sharing.Shares.{Learns}
use Rattle.yp_publisher.proofs.sharing.Learning.{there_later, told_or_not}
use Rattle.yp_publisher.proofs.sharing.locked.Locked.install_for.Goals as goal

pub install-installed-requires-clause-built : goal.install-installed-requires-clause-built
install-installed-requires-clause-built g c =
    rw c.tell_to.ensures.same (there_later g.S.Accounts.built _ _ c.args.offer.map g.S.Site.catalogue.own
    c.args.offer.version c.args.offer.origin c.tell_to.ensures.front c.requires.built)

pub returns-in-Err-clause-learned : goal.returns-in-Err-clause-learned
returns-in-Err-clause-learned g c =
    let seen = g.B.Reader.View.seen in
    subst (λ reader. Learns (seen c.args.reader.now) (seen reader)) (sym c.in-Err.ensures.refused)
    (told_or_not c.tell_to.result seen c.args.reader.now c.tell_to.new.reader _ c.tell_to.ensures.front
    c.tell_to.ensures.told c.tell_to.ensures.refused)
