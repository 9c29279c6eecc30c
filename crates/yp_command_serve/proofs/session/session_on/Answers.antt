use Rattle.std.proofs.Common.{List, map, length, ap, sym, ◌∙◌}
use Rattle.yp_board.specs.Catalogues.{Catalogue, name_view}
use Rattle.yp_board.specs.declared.catalog.MapName.{MapName}
use Rattle.yp_answer.specs.session.Wires.{wire_of}
use Rattle.yp_publisher.specs.Keeping.{keeping_of}
use Rattle.yp_host.specs.inside.Locals.{telling_by}
use Rattle.yp_publisher.specs.Begins.{plain_log}
use Rattle.yp_command_serve.proofs.Sessioned.{session_served, wires_same, write_told, fault_risen, cause_named, nothing_served, same_count, number_within}
use Rattle.yp_host.specs.Connections.{service_of}
use Rattle.yp_command_serve.specs.Session.{connection_at}
use Rattle.yp_command_serve.proofs.session.session_on.Goals as goal

pub returns-clause-sessions : goal.returns-clause-sessions
returns-clause-sessions g c =
    let did = c.serve_wire-served in
    let apart = c.in-Ok-take_apart.apart in
    let given : Catalogue = record { own = c.args.spec.own.items; maps = map name_view c.args.spec.stores.items } in
    session_served (keeping_of g.D.Disk.history g.D.Disk.faults plain_log) (telling_by g.T.Texts g.C.Clock g.A.Dial) c.in-Ok.catalog given c.args.spec.peer did.result.0 (map name_view c.deref.result.now) c.status_of-status.result
    (record { wire = wire_of g.S.Source g.K.Sink c.args.wire.now; disks = apart.disks.items; desk = c.args.resources.desk })
    (record { wire = wire_of g.S.Source g.K.Sink did.new.wire; disks = did.result.1.disks.items; desk = did.result.1.desk })
    (g.W.Witness.wires c.args.witness.now) (g.W.Witness.wires did.new.witness) c.args.resources.disks.items c.put_together.new.named.items
    (record {
      catalogue_is = c.in-Ok.ensures.ok;
      names_are = sym c.requires.disks ∙ sym c.in-Ok-take_apart.ensures.names ∙ ap (λ (l : List MapName). map name_view l) (sym c.deref.ensures.value);
      old_are = c.in-Ok-take_apart.ensures.disks;
      new_are = sym c.put_together.ensures.disks;
    })
    did.ensures.served did.ensures.unserved (wires_same (wire_of g.S.Source g.K.Sink) did.result.0 c.args.wire.now did.new.wire did.ensures.untouched)
    did.ensures.unasked (wires_same g.W.Witness.wires did.result.0 c.args.witness.now did.new.witness did.ensures.unseen) did.ensures.unwritten c.status_of-status.ensures.tells

pub returns-clause-flushed : goal.returns-clause-flushed
returns-clause-flushed g c = λ other old.
    let did = c.serve_wire-served in
    did.ensures.flushed (λ e. other (write_told did.result.0 (map name_view c.deref.result.now) c.status_of-status.result e c.status_of-status.ensures.tells)) old

pub returns-clause-disk_fault : goal.returns-clause-disk_fault
returns-clause-disk_fault g c = λ store e.
    let did = c.serve_wire-served in
    let apart = c.in-Ok-take_apart.apart in
    fault_risen g.D.Disk.history g.D.Disk.faults did.result.0 (map name_view c.deref.result.now) c.status_of-status.result store c.args.resources.disks.items c.put_together.new.named.items
    c.status_of-status.ensures.tells e
    (cause_named g.D.Disk.history g.D.Disk.faults did.result.0 apart.disks.items did.result.1.disks.items c.args.resources.disks.items c.put_together.new.named.items
    c.in-Ok-take_apart.ensures.disks (sym c.put_together.ensures.disks) did.ensures.unserved)

-- nothing was done
pub returns-in-Err-NoMemory-clause-sessions : goal.returns-in-Err-NoMemory-clause-sessions
returns-in-Err-NoMemory-clause-sessions g c =
    nothing_served (service_of (keeping_of g.D.Disk.history g.D.Disk.faults plain_log) (telling_by g.T.Texts g.C.Clock g.A.Dial) (record { own = c.args.spec.own.items; maps = map name_view c.args.spec.stores.items }) c.args.spec.peer)
    (connection_at (wire_of g.S.Source g.K.Sink c.args.wire.now) c.args.resources.disks.items c.args.resources.desk) (g.W.Witness.wires c.args.witness.now)

pub returns-in-Err-take_apart-clause-sessions : goal.returns-in-Err-take_apart-clause-sessions
returns-in-Err-take_apart-clause-sessions g c =
    rw c.in-Err-take_apart.ensures.err
    (nothing_served (service_of (keeping_of g.D.Disk.history g.D.Disk.faults plain_log) (telling_by g.T.Texts g.C.Clock g.A.Dial) (record { own = c.args.spec.own.items; maps = map name_view c.args.spec.stores.items }) c.args.spec.peer)
    (connection_at (wire_of g.S.Source g.K.Sink c.args.wire.now) c.args.resources.disks.items c.args.resources.desk) (g.W.Witness.wires c.args.witness.now))

-- the map whose file wasn't loaded is one of them
pub status_of-status-requires-clause-number : goal.status_of-status-requires-clause-number
status_of-status-requires-clause-number g c =
    let apart = c.in-Ok-take_apart.apart in
    number_within g.D.Disk.history g.D.Disk.faults c.serve_wire-served.result.0 apart.disks.items _ (length c.deref.result.now)
    (same_count c.args.resources.disks.items apart.names.items apart.disks.items c.in-Ok-take_apart.ensures.disks c.in-Ok-take_apart.ensures.names ∙ ap length (sym c.deref.ensures.value))
    c.serve_wire-served.ensures.unserved
