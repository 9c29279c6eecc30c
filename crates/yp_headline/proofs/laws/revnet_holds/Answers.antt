use Rattle.yp_command.specs.office.Seeing.{seeing}
use Rattle.yp_headline.proofs.Revnet.{revnet_holds}
use Rattle.yp_headline.proofs.laws.revnet_holds.Goals as goal

pub returns : goal.returns
returns g c = revnet_holds (seeing g.S.Source g.K.Sink g.D.Disk g.C.Clock g.A.Dial g.I.Inbox g.T.Texts)
