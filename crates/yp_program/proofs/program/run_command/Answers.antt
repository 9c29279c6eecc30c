use Rattle.std.proofs.Common.{[], map, ap, sym, subst, refl}
use Rattle.yp_board.specs.Catalogues.{name_view}
use Rattle.yp_command_serve.specs.Served.{witnessed}
use Rattle.yp_command_serve.specs.serve.Hosting.{outside_by, doors_by}
use Rattle.yp_command.specs.Words.{Meaning, Serve, meaning, host_view}
use Rattle.yp_command.specs.office.Seeing.{Seeing, seeing}
use Rattle.yp_program.specs.Commands.{CommandDoes, may_end}
use Rattle.yp_program.proofs.Dispatch.{same_end}
use Rattle.yp_program.proofs.Noting.{logs_nothing}
use Rattle.yp_program.proofs.program.run_command.Goals as goal

pub returns-in-Serve-clause-does : goal.returns-in-Serve-clause-does
returns-in-Serve-clause-does g c =
    let seen : Seeing g.row.S.Denot g.row.K.Denot g.row.D.Denot g.row.C.Denot g.row.A.Denot g.row.I.Denot g.row.T.Denot =
    seeing g.S.Source g.K.Sink g.D.Disk g.C.Clock g.A.Dial g.I.Inbox g.T.Texts in
    let tells = outside_by g.L.Hall g.I.Inbox in
    let wires = g.W.Witness.wires c.args.witness.now in
    let did = c.run_server in
    let does = did.ensures.does in (
      does.0,
      subst (λ (m : Meaning). CommandDoes seen m did.result.0 (witnessed (tells c.args.outside) wires)
          (witnessed (tells did.result.1) wires) does.0) (sym (ap meaning c.in-Serve.is))
          (does.1, refl),
      does.2,
    )

pub returns-in-Serve-clause-may_end : goal.returns-in-Serve-clause-may_end
unfolding may_end
returns-in-Serve-clause-may_end g c =
    let job = c.in-Serve.job in
    same_end (meaning c.args.command)
    (Serve job.name.items job.port job.workers job.connections job.turns (map name_view job.stores.items)
    (map host_view job.hosts.items) job.log)
    c.run_server.result.0 c.run_server.result.0 (ap meaning c.in-Serve.is) refl c.run_server.ensures.may_end

pub returns-in_default-clause-does : goal.returns-in_default-clause-does
returns-in_default-clause-does g c =
    let seen : Seeing g.row.S.Denot g.row.K.Denot g.row.D.Denot g.row.C.Denot g.row.A.Denot g.row.I.Denot g.row.T.Denot =
    seeing g.S.Source g.K.Sink g.D.Disk g.C.Clock g.A.Dial g.I.Inbox g.T.Texts in
    let tells = outside_by g.L.Hall g.I.Inbox in
    let wires = g.W.Witness.wires in
    let did = c.run_alone in (
      [],
      logs_nothing seen did.result.0 (meaning c.args.command) (witnessed (tells c.args.outside) (wires c.args.witness.now))
          (witnessed (tells did.result.1) (wires did.new.witness)) (ap (doors_by g.L.Hall g.I.Inbox) did.ensures.doors)
          did.ensures.does,
      did.ensures.note,
    )
