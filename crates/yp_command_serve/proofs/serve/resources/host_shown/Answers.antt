use Rattle.std.proofs.Common.{List, length, map, Option, sym, ap, subst, ◌∙◌, arith}
use Rattle.std.specs.Prelude.{option_map}
use Rattle.std.specs.Arc.{arc_value}
use Rattle.std.proofs.lemmas.List.{length-map}
use Rattle.yp_version.specs.Versions.{MapVersion}
use Rattle.yp_board.specs.Catalogues.{Catalogue}
use Rattle.yp_board.specs.Logs.{starts}
use Rattle.yp_publisher.specs.Standing.{StoredMap, Published}
use Rattle.yp_board.specs.inside.readers.Boards.{Written}
use Rattle.yp_host.specs.declared.desk.Desk.{Desk}
use Rattle.yp_publisher.specs.Rising.{publisher_state}
use Rattle.yp_publisher.specs.sharing.Failures.{disks_of}
use Rattle.yp_transfer.specs.inside.Dials.{dial_by}
use Rattle.yp_rpc.specs.inside.Turns.{box_by}
use Rattle.yp_worker.specs.Receptions.{opening_by}
use Rattle.yp_command_serve.specs.serve.Hosting.{ServerTells, server_tells, supply_of}
use Rattle.yp_command_serve.proofs.serve.Boxes.{served_long}
use Rattle.yp_command_serve.proofs.serve.Served.{served_as, leaves_count}
use Rattle.yp_command_serve.proofs.serve.Starts.{at_start, first_as}
use Rattle.yp_command_serve.proofs.serve.resources.host_shown.Goals as goal

pub board-requires-clause-starts : goal.board-requires-clause-starts
board-requires-clause-starts g c =
    sym (length-map c.args.starting.versions.items (option_map arc_value)) ∙ ap length c.requires.start
    ∙ length-map c.args.resources.loaded (λ (k : StoredMap g.row.D.Denot). k.version) ∙ c.requires.count
    ∙ sym (ap (λ (served : Catalogue). length served.maps) c.requires.copy)

pub publisher_of-publisher-requires-clause-log : goal.publisher_of-publisher-requires-clause-log
publisher_of-publisher-requires-clause-log g c =
    ap (λ (w : Written). w.log) c.in-Ok.ensures.writer
    ∙ ap (λ (l : List (Option MapVersion)). starts 0 l) c.requires.start

-- each reader knows what was loaded
pub serve-requires-clause-starts : goal.serve-requires-clause-starts
serve-requires-clause-starts g c κs within k d lt =
    at_start _ _ _ _ _ (c.in-Ok.ensures.known k d lt)
    (c.requires.copy ∙ sym (ap (λ (p : Published g.row.D.Denot Written). p.catalogue) c.publisher_of-publisher.ensures.publisher))
    (sym (ap (λ (w : Written). w.log) c.in-Ok.ensures.writer)
    ∙ sym (ap (λ (p : Published g.row.D.Denot Written). p.board.log) c.publisher_of-publisher.ensures.publisher))

pub returns-in-Ok-serve-clause-texts : goal.returns-in-Ok-serve-clause-texts
returns-in-Ok-serve-clause-texts g c = λ file.
    ap (λ (d : Desk g.row.A.Denot g.row.T.Denot g.row.C.Denot). g.T.Texts.text d.texts file) c.unshared.ensures.desk
    ∙ c.in-Ok-serve.ensures.desk.texts_are file
    ∙ ap (λ (d : Desk g.row.A.Denot g.row.T.Denot g.row.C.Denot). g.T.Texts.text d.texts file) c.shared-desk.ensures

pub returns-in-Ok-serve-clause-hosted : goal.returns-in-Ok-serve-clause-hosted
returns-in-Ok-serve-clause-hosted g c =
    let served = c.in-Ok-serve.served in
    let did = c.in-Ok-serve.ensures in
    let made = c.publisher_of-publisher.ensures in
    let given : Desk g.row.A.Denot g.row.T.Denot g.row.C.Denot → List (StoredMap g.row.D.Denot) → ServerTells g.row.D.Denot =
    λ d maps. server_tells (opening_by g.L.Hall c.args.resources.listen) (map (box_by g.I.Inbox) c.args.resources.inboxes.items)
    (box_by g.I.Inbox c.args.resources.outbox) (supply_of (g.T.Texts.faults d.texts) (dial_by g.A.Dial d.dial)) (disks_of maps) in
    let left : Desk g.row.A.Denot g.row.T.Denot g.row.C.Denot → ServerTells g.row.D.Denot =
    λ d. server_tells (opening_by g.L.Hall served.listen) (map (box_by g.I.Inbox) served.inboxes.items)
    (box_by g.I.Inbox served.outbox) (supply_of (g.T.Texts.faults d.texts) (dial_by g.A.Dial d.dial)) served.disks.items in
    served_as g.D.Disk c.args.resources.loaded _ _ _
    (given c.shared-desk.result c.publisher_of-publisher.result.maps) (left served.desk)
    served.writer.log c.args.spec.now.turns c.args.resources.catalog c.publisher_of-publisher.result.catalogue _ _ _ _
    (publisher_state (λ (w : Written). w.log) c.publisher_of-publisher.result)
    (ap (λ (p : Published g.row.D.Denot Written). given c.shared-desk.result p.maps) made.publisher
    ∙ ap (λ (d : Desk g.row.A.Denot g.row.T.Denot g.row.C.Denot). given d c.args.resources.loaded) c.shared-desk.ensures)
    (ap left (sym c.unshared.ensures.desk))
    (ap (λ (p : Published g.row.D.Denot Written). p.catalogue) made.publisher)
    (ap (λ (d : Desk g.row.A.Denot g.row.T.Denot g.row.C.Denot). g.T.Texts.text d.texts) c.shared-desk.ensures)
    (ap (λ (d : Desk g.row.A.Denot g.row.T.Denot g.row.C.Denot). d.hosts) c.shared-desk.ensures)
    (first_as c.publisher_of-publisher.result c.args.resources.catalog c.args.resources.loaded c.in-Ok.writer made.publisher
    (ap (λ (w : Written). w.log) c.in-Ok.ensures.writer
    ∙ ap (λ (l : List (Option MapVersion)). starts 0 l) c.requires.start)) (
      did.grown,
      did.gone,
      did.datagrams,
      did.maps,
      record {
        counted = rw (← c.requires.most) did.counted;
        files = did.files;
        orders = did.orders;
        sources = did.sources;
        origins = did.origins made.start;
        traced = did.traced made.start;
      },
    )
    (did.rises made.start)

pub returns-in-Ok-serve-clause-count : goal.returns-in-Ok-serve-clause-count
returns-in-Ok-serve-clause-count g c =
    leaves_count g.D.Disk.history c.publisher_of-publisher.result.catalogue c.in-Ok-serve.served.writer.log
    c.in-Ok-serve.served.disks.items c.in-Ok-serve.ensures.maps
    ∙ ap (λ (p : Published g.row.D.Denot Written). length p.catalogue.maps) c.publisher_of-publisher.ensures.publisher
    ∙ sym c.requires.count

pub returns-in-Ok-serve-clause-inboxes : goal.returns-in-Ok-serve-clause-inboxes
returns-in-Ok-serve-clause-inboxes g c =
    let box = box_by g.I.Inbox in
    let long = served_long _ _ (map box c.args.resources.inboxes.items) (map box c.in-Ok-serve.served.inboxes.items) _ _ c.in-Ok-serve.ensures.datagrams in
    let old = length-map c.args.resources.inboxes.items box in
    let new = length-map c.in-Ok-serve.served.inboxes.items box in
    omega (arith, long, old, new)
