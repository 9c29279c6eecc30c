use Rattle.std.proofs.Common.{Result, ℕ, [], inl, sym, subst}
use Rattle.yp_command.specs.Words.{Meaning, command_of, texts}
use Rattle.yp_command.specs.declared.office.status.Status.{Status}
use Rattle.yp_command_serve.specs.Served.{witnessed}
use Rattle.yp_command_serve.specs.serve.Hosting.{outside_by}
use Rattle.yp_command.specs.office.Seeing.{Seeing, seeing}
use Rattle.yp_program.specs.Commands.{Does, MayEnd}
use Rattle.yp_program.proofs.Unparsed.{unparsed_may, unparsed_does}
use Rattle.yp_program.proofs.program.run_watched.Goals as goal

pub returns-in-Ok-clause-does : goal.returns-in-Ok-clause-does
returns-in-Ok-clause-does g c =
    let seen : Seeing g.row.S.Denot g.row.K.Denot g.row.D.Denot g.row.C.Denot g.row.A.Denot g.row.I.Denot g.row.T.Denot =
    seeing g.S.Source g.K.Sink g.D.Disk g.C.Clock g.A.Dial g.I.Inbox g.T.Texts in
    let tells = outside_by g.L.Hall g.I.Inbox in
    let wires = g.W.Witness.wires in
    let did = c.run_command in
    let does = did.ensures.does in (
      does.0,
      subst (λ (command : Result Meaning ℕ). Does seen command did.result.0
          (witnessed (tells c.args.outside) (wires c.args.witness.now))
          (witnessed (tells did.result.1) (wires did.new.witness)) does.0)
          (sym c.in-Ok.ensures.sentence) (inl does.1),
      does.2,
    )

pub returns-in-Err-clause-does : goal.returns-in-Err-clause-does
returns-in-Err-clause-does g c =
    let seen : Seeing g.row.S.Denot g.row.K.Denot g.row.D.Denot g.row.C.Denot g.row.A.Denot g.row.I.Denot g.row.T.Denot =
    seeing g.S.Source g.K.Sink g.D.Disk g.C.Clock g.A.Dial g.I.Inbox g.T.Texts in
    let outside = witnessed (outside_by g.L.Hall g.I.Inbox c.args.outside) (g.W.Witness.wires c.args.witness.now) in (
      [],
      subst (λ (status : Status). Does seen (command_of (texts c.args.words.now)) status outside outside [])
          (sym c.status_of-status.ensures.status)
          (unparsed_does seen outside (command_of (texts c.args.words.now)) c.in-Err.fault c.in-Err.ensures.usage),
      c.tell.ensures.note,
    )

pub returns-in-Err-clause-may_end : goal.returns-in-Err-clause-may_end
returns-in-Err-clause-may_end g c =
    subst (MayEnd (command_of (texts c.args.words.now))) (sym c.status_of-status.ensures.status)
    (unparsed_may (command_of (texts c.args.words.now)) c.in-Err.fault c.in-Err.ensures.usage)
