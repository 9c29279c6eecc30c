-- What is said of netgroups is so whatever texts are told.
use Rattle.yp_host.proofs.anew.build_anew.Goals as goal

pub returns-in-Netgroups-clause-anew : goal.returns-in-Netgroups-clause-anew
returns-in-Netgroups-clause-anew g c =
    rw c.in-Netgroups.is (c.build_of_netgroups.ensures.anew (g.T.Texts.text c.args.texts.now))

pub returns-in-Netgroups-clause-unbuilt : goal.returns-in-Netgroups-clause-unbuilt
returns-in-Netgroups-clause-unbuilt g c =
    rw c.in-Netgroups.is
    (c.build_of_netgroups.ensures.unbuilt (g.T.Texts.text c.args.texts.now) (g.T.Texts.faults c.args.texts.now))
