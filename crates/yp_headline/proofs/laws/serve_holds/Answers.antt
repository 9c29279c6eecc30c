use Rattle.yp_command.specs.office.Seeing.{seeing}
use Rattle.yp_headline.proofs.Serve.{serve_holds}
use Rattle.yp_headline.proofs.laws.serve_holds.Goals as goal

pub returns : goal.returns
returns g c = serve_holds (seeing g.S.Source g.K.Sink g.D.Disk g.C.Clock g.A.Dial g.I.Inbox g.T.Texts)
    c.read_is_body.ensures c.fetched_is_shown.ensures c.shown_between.ensures
