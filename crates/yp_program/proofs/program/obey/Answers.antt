use Rattle.std.proofs.Common.{◌∙◌, ℕ, List, map, ap, sym, refl}
use Rattle.yp_io.specs.declared.stream.Peer.{Peer}
use Rattle.yp_board.specs.Catalogues.{name_view}
use Rattle.yp_client.specs.Questions.{bytes_of}
use Rattle.yp_command.specs.declared.command.KeyValue.{KeyValue}
use Rattle.yp_command.specs.Words.{Once, Session, Check, Dump, Build, Load, Xfr, Walk, Sample, Push, Bind}
use Rattle.yp_command.specs.Words.{Portmap, CallMapper, Ask, Orders, meaning, row_view, host_view, Revnet}
use Rattle.yp_command.specs.office.Seeing.{seeing}
use Rattle.yp_program.specs.Commands.{AloneDoes, may_end}
use Rattle.yp_program.proofs.Dispatch.{same_does, same_passed, same_end}
use Rattle.yp_program.proofs.program.obey.Goals.{in-Once, in-Sample, in-Check, in-Build, in-Xfr, in-Ask, in-Bind, in-Portmap, in-CallMapper}
use Rattle.yp_program.proofs.program.obey.Goals.{in-Revnet, in-Walk, in-Dump, in-Load, in-Orders}
use Rattle.yp_program.proofs.program.obey.Goals as goal

pub returns-in-Session-clause-does : goal.returns-in-Session-clause-does
unfolding AloneDoes
returns-in-Session-clause-does g c =
    let wires = g.W.Witness.wires in
    same_does (seeing g.S.Source g.K.Sink g.D.Disk g.C.Clock g.A.Dial g.I.Inbox g.T.Texts) c.args.office (wires c.args.witness.now) (meaning c.args.command)
    (Session c.in-Session.name.items c.in-Session.addr (map name_view c.in-Session.stores.items) (map host_view c.in-Session.hosts.items))
    c.serve_session.result.0 c.serve_session.result.0 c.serve_session.result.1 c.serve_session.result.1 (wires c.serve_session.new.witness) (wires c.serve_session.new.witness)
    (ap meaning c.in-Session.is) refl refl refl c.serve_session.ensures.does

pub returns-in-Session-clause-may_end : goal.returns-in-Session-clause-may_end
unfolding may_end
returns-in-Session-clause-may_end g c =
    same_end (meaning c.args.command)
    (Session c.in-Session.name.items c.in-Session.addr (map name_view c.in-Session.stores.items) (map host_view c.in-Session.hosts.items))
    c.serve_session.result.0 c.serve_session.result.0 (ap meaning c.in-Session.is) refl c.serve_session.ensures.may_end

pub returns-in-Push-clause-does : goal.returns-in-Push-clause-does
unfolding AloneDoes
returns-in-Push-clause-does g c =
    let wires = g.W.Witness.wires in
    let job = c.in-Push.job in
    same_does (seeing g.S.Source g.K.Sink g.D.Disk g.C.Clock g.A.Dial g.I.Inbox g.T.Texts) c.args.office (wires c.args.witness.now) (meaning c.args.command)
    (Push job.name.items job.port job.window job.turns (name_view job.store) (map host_view job.hosts.items))
    c.push_map.result.0 c.push_map.result.0 c.push_map.result.1 c.push_map.result.1 (wires c.args.witness.now) (wires c.args.witness.now)
    (ap meaning c.in-Push.is) refl refl refl (c.push_map.ensures.does, refl)

pub returns-in-Push-clause-may_end : goal.returns-in-Push-clause-may_end
unfolding may_end
returns-in-Push-clause-may_end g c =
    let job = c.in-Push.job in
    same_end (meaning c.args.command)
    (Push job.name.items job.port job.window job.turns (name_view job.store) (map host_view job.hosts.items))
    c.push_map.result.0 c.push_map.result.0 (ap meaning c.in-Push.is) refl c.push_map.ensures.may_end

pub returns-clause-does : goal.returns-clause-does
unfolding AloneDoes
returns-clause-does g c =
    let wires = g.W.Witness.wires in
    let by = same_does (seeing g.S.Source g.K.Sink g.D.Disk g.C.Clock g.A.Dial g.I.Inbox g.T.Texts) c.args.office (wires c.args.witness.now) (meaning c.args.command) in
    elim c.match-command.branch [
      | in-Once w ↦
          by (Once (name_view w.in-Once.store) (map row_view w.deref.result.now)) c.match-command.status w.serve_once-status.result c.match-command.office w.serve_once-status.new.office (wires c.match-command.witness) (wires w.serve_once-status.new.witness)
          (ap meaning w.in-Once.is ∙ ap (λ (l : List KeyValue). Once (name_view w.in-Once.store) (map row_view l)) (sym w.deref.ensures.value)) w.status-is w.office-is (ap wires w.witness-is) w.serve_once-status.ensures.does
      | in-Sample w ↦
          by (Sample w.in-Sample.start w.in-Sample.count) c.match-command.status w.tell_sample-status.result c.match-command.office w.tell_sample-status.new.office (wires c.match-command.witness) (wires c.args.witness.now)
          (ap meaning w.in-Sample.is) w.status-is w.office-is (ap wires w.witness-is) (w.tell_sample-status.ensures.does, refl)
      | in-Check w ↦
          by (Check (name_view w.in-Check.store)) c.match-command.status w.check_map-status.result c.match-command.office w.check_map-status.new.office (wires c.match-command.witness) (wires c.args.witness.now)
          (ap meaning w.in-Check.is) w.status-is w.office-is (ap wires w.witness-is) (w.check_map-status.ensures.does, refl)
      | in-Dump w ↦
          by (Dump (name_view w.in-Dump.store)) c.match-command.status w.dump_map-status.result c.match-command.office w.dump_map-status.new.office (wires c.match-command.witness) (wires c.args.witness.now)
          (ap meaning w.in-Dump.is) w.status-is w.office-is (ap wires w.witness-is) (w.dump_map-status.ensures.does, refl)
      | in-Build w ↦
          by (Build w.in-Build.name.items (name_view w.in-Build.store) w.in-Build.flag) c.match-command.status w.build_map-status.result c.match-command.office w.build_map-status.new.office (wires c.match-command.witness) (wires c.args.witness.now)
          (ap meaning w.in-Build.is) w.status-is w.office-is (ap wires w.witness-is) (w.build_map-status.ensures.does, refl)
      | in-Load w ↦
          by (Load w.in-Load.name.items (name_view w.in-Load.store) w.in-Load.flag) c.match-command.status w.load_map-status.result c.match-command.office w.load_map-status.new.office (wires c.match-command.witness) (wires c.args.witness.now)
          (ap meaning w.in-Load.is) w.status-is w.office-is (ap wires w.witness-is) (w.load_map-status.ensures.does, refl)
      | in-Xfr w ↦
          by (Xfr w.in-Xfr.job.name.items w.in-Xfr.job.force (name_view w.in-Xfr.job.store) (host_view w.in-Xfr.job.host) w.in-Xfr.job.flag) c.match-command.status w.transfer-status.result c.match-command.office w.transfer-status.new.office (wires c.match-command.witness) (wires c.args.witness.now)
          (ap meaning w.in-Xfr.is) w.status-is w.office-is (ap wires w.witness-is) (w.transfer-status.ensures.does, refl)
      | in-Walk w ↦
          by (Walk w.in-Walk.job.xfr.name.items w.in-Walk.job.xfr.force (name_view w.in-Walk.job.xfr.store) (host_view w.in-Walk.job.xfr.host) w.in-Walk.job.port w.in-Walk.job.turns w.in-Walk.job.xfr.flag) c.match-command.status w.walk-status.result c.match-command.office w.walk-status.new.office (wires c.match-command.witness) (wires c.args.witness.now)
          (ap meaning w.in-Walk.is) w.status-is w.office-is (ap wires w.witness-is) (w.walk-status.ensures.does, refl)
      | in-Revnet w ↦
          by (Revnet w.in-Revnet.name.items (name_view w.in-Revnet.store)) c.match-command.status w.reverse_map-status.result c.match-command.office w.reverse_map-status.new.office (wires c.match-command.witness) (wires c.args.witness.now)
          (ap meaning w.in-Revnet.is) w.status-is w.office-is (ap wires w.witness-is) (w.reverse_map-status.ensures.does, refl)
      | in-Bind w ↦
          by (Bind w.in-Bind.port w.in-Bind.policy w.in-Bind.turns w.in-Bind.domain.items (map host_view w.in-Bind.hosts.items)) c.match-command.status w.bind_domain-status.result c.match-command.office w.bind_domain-status.new.office (wires c.match-command.witness) (wires c.args.witness.now)
          (ap meaning w.in-Bind.is) w.status-is w.office-is (ap wires w.witness-is) (w.bind_domain-status.ensures.does, refl)
      | in-Portmap w ↦
          by (Portmap w.in-Portmap.port w.in-Portmap.turns) c.match-command.status w.serve_ports-status.result c.match-command.office w.serve_ports-status.new.office (wires c.match-command.witness) (wires c.args.witness.now)
          (ap meaning w.in-Portmap.is) w.status-is w.office-is (ap wires w.witness-is) (w.serve_ports-status.ensures.does, refl)
      | in-CallMapper w ↦
          by (CallMapper w.in-CallMapper.port w.in-CallMapper.turns w.in-CallMapper.addr w.in-CallMapper.call) c.match-command.status w.ask_mapper-status.result c.match-command.office w.ask_mapper-status.new.office (wires c.match-command.witness) (wires c.args.witness.now)
          (ap meaning w.in-CallMapper.is) w.status-is w.office-is (ap wires w.witness-is) (w.ask_mapper-status.ensures.does, refl)
      | in-Ask w ↦
          by (Ask w.in-Ask.addr (bytes_of w.in-Ask.question)) c.match-command.status w.ask-status.result c.match-command.office w.ask-status.new.office (wires c.match-command.witness) (wires c.args.witness.now)
          (ap meaning w.in-Ask.is) w.status-is w.office-is (ap wires w.witness-is) (w.ask-status.ensures.does, refl)
      | in-Orders w ↦
          by (Orders w.in-Orders.first w.deref-in-Orders.result.now w.deref-in-Orders-2.result.now) c.match-command.status w.compare-status.result c.match-command.office w.compare-status.new.office (wires c.match-command.witness) (wires c.args.witness.now)
          (ap meaning w.in-Orders.is ∙ ap (λ (l : List Peer). Orders w.in-Orders.first l w.in-Orders.domain.items) (sym w.deref-in-Orders.ensures.value) ∙ ap (λ (l : List ℕ). Orders w.in-Orders.first w.deref-in-Orders.result.now l) (sym w.deref-in-Orders-2.ensures.value)) w.status-is w.office-is (ap wires w.witness-is) (w.compare-status.ensures.does, refl)
    ]

pub returns-clause-may_end : goal.returns-clause-may_end
unfolding may_end
returns-clause-may_end g c =
    elim c.match-command.branch [
      | in-Once w ↦ same_end (meaning c.args.command) (Once (name_view w.in-Once.store) (map row_view w.deref.result.now)) c.match-command.status w.serve_once-status.result (ap meaning w.in-Once.is ∙ ap (λ (l : List KeyValue). Once (name_view w.in-Once.store) (map row_view l)) (sym w.deref.ensures.value)) w.status-is w.serve_once-status.ensures.may_end
      | in-Sample w ↦ same_end (meaning c.args.command) (Sample w.in-Sample.start w.in-Sample.count) c.match-command.status w.tell_sample-status.result (ap meaning w.in-Sample.is) w.status-is w.tell_sample-status.ensures.may_end
      | in-Check w ↦ same_end (meaning c.args.command) (Check (name_view w.in-Check.store)) c.match-command.status w.check_map-status.result (ap meaning w.in-Check.is) w.status-is w.check_map-status.ensures.may_end
      | in-Dump w ↦ same_end (meaning c.args.command) (Dump (name_view w.in-Dump.store)) c.match-command.status w.dump_map-status.result (ap meaning w.in-Dump.is) w.status-is w.dump_map-status.ensures.may_end
      | in-Build w ↦ same_end (meaning c.args.command) (Build w.in-Build.name.items (name_view w.in-Build.store) w.in-Build.flag) c.match-command.status w.build_map-status.result (ap meaning w.in-Build.is) w.status-is w.build_map-status.ensures.may_end
      | in-Load w ↦ same_end (meaning c.args.command) (Load w.in-Load.name.items (name_view w.in-Load.store) w.in-Load.flag) c.match-command.status w.load_map-status.result (ap meaning w.in-Load.is) w.status-is w.load_map-status.ensures.may_end
      | in-Xfr w ↦ same_end (meaning c.args.command) (Xfr w.in-Xfr.job.name.items w.in-Xfr.job.force (name_view w.in-Xfr.job.store) (host_view w.in-Xfr.job.host) w.in-Xfr.job.flag) c.match-command.status w.transfer-status.result (ap meaning w.in-Xfr.is) w.status-is w.transfer-status.ensures.may_end
      | in-Walk w ↦ same_end (meaning c.args.command) (Walk w.in-Walk.job.xfr.name.items w.in-Walk.job.xfr.force (name_view w.in-Walk.job.xfr.store) (host_view w.in-Walk.job.xfr.host) w.in-Walk.job.port w.in-Walk.job.turns w.in-Walk.job.xfr.flag) c.match-command.status w.walk-status.result (ap meaning w.in-Walk.is) w.status-is w.walk-status.ensures.may_end
      | in-Revnet w ↦ same_end (meaning c.args.command) (Revnet w.in-Revnet.name.items (name_view w.in-Revnet.store)) c.match-command.status w.reverse_map-status.result (ap meaning w.in-Revnet.is) w.status-is w.reverse_map-status.ensures.may_end
      | in-Bind w ↦ same_end (meaning c.args.command) (Bind w.in-Bind.port w.in-Bind.policy w.in-Bind.turns w.in-Bind.domain.items (map host_view w.in-Bind.hosts.items)) c.match-command.status w.bind_domain-status.result (ap meaning w.in-Bind.is) w.status-is w.bind_domain-status.ensures.may_end
      | in-Portmap w ↦ same_end (meaning c.args.command) (Portmap w.in-Portmap.port w.in-Portmap.turns) c.match-command.status w.serve_ports-status.result (ap meaning w.in-Portmap.is) w.status-is w.serve_ports-status.ensures.may_end
      | in-CallMapper w ↦ same_end (meaning c.args.command) (CallMapper w.in-CallMapper.port w.in-CallMapper.turns w.in-CallMapper.addr w.in-CallMapper.call) c.match-command.status w.ask_mapper-status.result (ap meaning w.in-CallMapper.is) w.status-is w.ask_mapper-status.ensures.may_end
      | in-Ask w ↦ same_end (meaning c.args.command) (Ask w.in-Ask.addr (bytes_of w.in-Ask.question)) c.match-command.status w.ask-status.result (ap meaning w.in-Ask.is) w.status-is w.ask-status.ensures.may_end
      | in-Orders w ↦ same_end (meaning c.args.command) (Orders w.in-Orders.first w.in-Orders.others.items w.in-Orders.domain.items) c.match-command.status w.compare-status.result (ap meaning w.in-Orders.is) w.status-is w.compare-status.ensures.may_end
    ]

pub returns-clause-passed_on : goal.returns-clause-passed_on
returns-clause-passed_on g c =
    let by = same_passed (seeing g.S.Source g.K.Sink g.D.Disk g.C.Clock g.A.Dial g.I.Inbox g.T.Texts) c.args.office in
    elim c.match-command.branch [
      | in-Once w ↦ by c.match-command.status w.serve_once-status.result c.match-command.office w.serve_once-status.new.office w.status-is w.office-is w.serve_once-status.ensures.passed_on
      | in-Sample w ↦ by c.match-command.status w.tell_sample-status.result c.match-command.office w.tell_sample-status.new.office w.status-is w.office-is w.tell_sample-status.ensures.passed_on
      | in-Check w ↦ by c.match-command.status w.check_map-status.result c.match-command.office w.check_map-status.new.office w.status-is w.office-is w.check_map-status.ensures.passed_on
      | in-Dump w ↦ by c.match-command.status w.dump_map-status.result c.match-command.office w.dump_map-status.new.office w.status-is w.office-is w.dump_map-status.ensures.passed_on
      | in-Build w ↦ by c.match-command.status w.build_map-status.result c.match-command.office w.build_map-status.new.office w.status-is w.office-is w.build_map-status.ensures.passed_on
      | in-Load w ↦ by c.match-command.status w.load_map-status.result c.match-command.office w.load_map-status.new.office w.status-is w.office-is w.load_map-status.ensures.passed_on
      | in-Xfr w ↦ by c.match-command.status w.transfer-status.result c.match-command.office w.transfer-status.new.office w.status-is w.office-is w.transfer-status.ensures.passed_on
      | in-Walk w ↦ by c.match-command.status w.walk-status.result c.match-command.office w.walk-status.new.office w.status-is w.office-is w.walk-status.ensures.passed_on
      | in-Revnet w ↦ by c.match-command.status w.reverse_map-status.result c.match-command.office w.reverse_map-status.new.office w.status-is w.office-is w.reverse_map-status.ensures.passed_on
      | in-Bind w ↦ by c.match-command.status w.bind_domain-status.result c.match-command.office w.bind_domain-status.new.office w.status-is w.office-is w.bind_domain-status.ensures.passed_on
      | in-Portmap w ↦ by c.match-command.status w.serve_ports-status.result c.match-command.office w.serve_ports-status.new.office w.status-is w.office-is w.serve_ports-status.ensures.passed_on
      | in-CallMapper w ↦ by c.match-command.status w.ask_mapper-status.result c.match-command.office w.ask_mapper-status.new.office w.status-is w.office-is w.ask_mapper-status.ensures.passed_on
      | in-Ask w ↦ by c.match-command.status w.ask-status.result c.match-command.office w.ask-status.new.office w.status-is w.office-is w.ask-status.ensures.passed_on
      | in-Orders w ↦ by c.match-command.status w.compare-status.result c.match-command.office w.compare-status.new.office w.status-is w.office-is w.compare-status.ensures.passed_on
    ]
