use Rattle.yp_command.specs.office.Seeing.{seeing}
use Rattle.yp_headline.proofs.Once.{once_replies}
use Rattle.yp_headline.proofs.laws.once_replies.Goals as goal

pub returns : goal.returns
returns g c = once_replies (seeing g.S.Source g.K.Sink g.D.Disk g.C.Clock g.A.Dial g.I.Inbox g.T.Texts)
