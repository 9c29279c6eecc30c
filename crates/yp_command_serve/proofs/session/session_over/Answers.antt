use Rattle.std.proofs.Common.{map, refl, subst}
use Rattle.yp_answer.specs.session.Wires.{SeesMore}
use Rattle.yp_transfer.specs.HostTable.{HostList}
use Rattle.yp_host.specs.declared.desk.Desk.{Desk}
use Rattle.yp_host.specs.Connections.{Connection}
use Rattle.yp_command.specs.declared.office.office.Office.{Office}
use Rattle.yp_board.specs.Catalogues.{name_view}
use Rattle.yp_command.specs.office.Seeing.{Seeing, seeing}
use Rattle.yp_command_serve.specs.Session.{service, connection, Sessions}
use Rattle.yp_command_serve.proofs.Completed.{session_completes}
use Rattle.yp_command_serve.proofs.session.session_over.Goals as goal

pub returns-clause-does : goal.returns-clause-does
returns-clause-does g c =
    let seen : Seeing g.row.S.Denot g.row.K.Denot g.row.D.Denot g.row.C.Denot g.row.A.Denot g.row.I.Denot g.row.T.Denot = seeing g.S.Source g.K.Sink g.D.Disk g.C.Clock g.A.Dial g.I.Inbox g.T.Texts in
    let did = c.session_on-status in
    let old = c.args.office in
    let hosts = c.args.hosts in
    let desk = did.result.1.desk in
    let new : Office g.row.S.Denot g.row.K.Denot g.row.D.Denot g.row.C.Denot g.row.A.Denot g.row.I.Denot g.row.T.Denot = record { wire = did.new.wire; disks = did.result.1.disks; clock = desk.clock; dial = desk.dial; inbox = old.inbox; texts = desk.texts } in
    let after : HostList → Connection g.row.D.Denot (Desk g.row.A.Denot g.row.T.Denot g.row.C.Denot) = λ h. connection seen h new in
    let sessions = subst (λ (h : HostList). SeesMore (g.W.Witness.wires c.args.witness.now) (g.W.Witness.wires did.new.witness) (Sessions (service seen c.args.spec.own.items c.args.spec.peer (map name_view c.args.spec.stores.items)) did.result.0 (connection seen hosts old) (after h))) did.ensures.hosts did.ensures.sessions in
    record {
      serves = sessions;
      bound = did.ensures.bound;
      complete = λ sound disks stream messages rest told cut reads writes.
          session_completes (record { one = c.cut_is_one.ensures; front = c.first_is_one.ensures; rest = c.rest_is_not_whole.ensures })
          (service seen c.args.spec.own.items c.args.spec.peer (map name_view c.args.spec.stores.items)) (connection seen hosts old)
          (connection seen hosts new)
          sessions.more old.disks.items stream messages rest told cut refl sound did.result.0 sessions.done
          (λ e. reads (did.ensures.read_fault e)) (λ e. writes (did.ensures.write_fault e)) (λ store e. disks (did.ensures.disk_fault store e));
      causes = record { read_fault = did.ensures.read_fault; write_fault = did.ensures.write_fault; disk_fault = did.ensures.disk_fault };
      names = did.ensures.names;
      told = did.ensures.clock;
      inbox = refl;
    }
