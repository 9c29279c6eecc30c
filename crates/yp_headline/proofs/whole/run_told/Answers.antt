use Rattle.std.proofs.Common.{Result, ℕ, [], subst}
use Rattle.yp_command.specs.Words.{Meaning}
use Rattle.yp_command.specs.office.Seeing.{Seeing, seeing}
use Rattle.yp_command_serve.specs.Served.{witnessed}
use Rattle.yp_command_serve.specs.serve.Hosting.{outside_by}
use Rattle.yp_program.specs.Commands.{Does}
use Rattle.yp_headline.proofs.whole.run_told.Goals as goal

pub returns : goal.returns
returns g c =
    let seen : Seeing g.row.S.Denot g.row.K.Denot g.row.D.Denot g.row.C.Denot g.row.A.Denot g.row.I.Denot g.row.T.Denot =
    seeing g.S.Source g.K.Sink g.D.Disk g.C.Clock g.A.Dial g.I.Inbox g.T.Texts in
    let did = c.run in
    let does = did.ensures.does in
    let old = witnessed (outside_by g.L.Hall g.I.Inbox c.args.outside) [] in
    let new = witnessed (outside_by g.L.Hall g.I.Inbox did.result.1) does.0 in
    λ meaning is.
    c.run_holds.ensures meaning did.result.0 old new does.1
    (subst (λ (command : Result Meaning ℕ). Does seen command did.result.0 old new does.1) is does.2)
