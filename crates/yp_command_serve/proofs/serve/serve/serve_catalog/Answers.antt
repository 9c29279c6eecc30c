use Rattle.std.proofs.Common.{◌≡◌, List, [], ◌∷◌, ◌++◌, map, length, refl, sym, ap, subst, ◌∙◌}
use Rattle.std.proofs.KnownBytes.{Appends-nil}
use Rattle.std.specs.Prelude.{All}
use Rattle.yp_board.specs.Catalogues.{Name, name_view}
use Rattle.yp_board.specs.declared.catalog.MapName.{MapName}
use Rattle.yp_worker.specs.Receptions.{opening_by}
use Rattle.yp_rpc.specs.Turns.{InboxTells}
use Rattle.yp_rpc.specs.inside.Turns.{box_by}
use Rattle.yp_transfer.specs.inside.Dials.{dial_by}
use Rattle.yp_command.specs.inside.Words.{IsNamed}
use Rattle.yp_command.specs.declared.office.office.Office.{Office}
use Rattle.yp_command.specs.office.Seeing.{Seeing, seeing, output}
use Rattle.yp_command_serve.specs.declared.serve.resources.HostResources.{HostResources}
use Rattle.yp_command_serve.specs.serve.Hosting.{DoorTells, OutsideTells, ServerTells, outside_tells, end_by, doors_by}
use Rattle.yp_command_serve.specs.serve.Hosting.{server_tells, supply_of}
use Rattle.yp_command_serve.specs.serve.Serve.{serve_job_of, setup, place}
use Rattle.yp_command_serve.specs.serve.Log.{IsLog}
use Rattle.yp_command_serve.specs.inside.serve.Hosting.{tells_by}
use Rattle.yp_command_serve.specs.inside.serve.Serve.{TellsServeEnd}
use Rattle.yp_command_serve.specs.inside.serve.Log.{totals_told}
use Rattle.yp_command_serve.proofs.serve.Disks.{same_count}
use Rattle.yp_command_serve.proofs.serve.Told.{nothing_done, number_within, hosted_at, shut_of, all_done}
use Rattle.yp_command_serve.proofs.serve.Boxes.{boxes_are}
use Rattle.yp_command_serve.proofs.serve.Failing.{some_fails}
use Rattle.yp_command_serve.proofs.serve.serve.serve_catalog.Goals as goal

pub returns-then-is_err-clause-does : goal.returns-then-is_err-clause-does
returns-then-is_err-clause-does g c = (
  [],
  λ connections.
      nothing_done (seeing g.S.Source g.K.Sink g.D.Disk g.C.Clock g.A.Dial g.I.Inbox g.T.Texts)
      (serve_job_of c.args.spec.catalog.own connections c.args.spec.serve.turns c.args.spec.catalog.maps c.args.hosts c.args.spec.log)
      c.args.outside.office (doors_by g.L.Hall g.I.Inbox c.args.outside.doors) (doors_by g.L.Hall g.I.Inbox (record { listen = c.args.outside.doors.listen; more = c.reserve.new.self; outbox = c.args.outside.doors.outbox }))
      (ap (λ (l : List g.row.I.Denot). record { listen = opening_by g.L.Hall c.args.outside.doors.listen; more = map (end_by g.I.Inbox) l; out = end_by g.I.Inbox c.args.outside.doors.outbox }) c.reserve.ensures.items),
  λ fine. Appends-nil (g.K.Sink.output c.args.outside.notes),
)

pub returns-in-Err-clause-does : goal.returns-in-Err-clause-does
returns-in-Err-clause-does g c = (
  [],
  λ connections. rw c.in-Err.ensures.err
      (nothing_done (seeing g.S.Source g.K.Sink g.D.Disk g.C.Clock g.A.Dial g.I.Inbox g.T.Texts)
      (serve_job_of c.args.spec.catalog.own connections c.args.spec.serve.turns c.args.spec.catalog.maps c.args.hosts c.args.spec.log)
      c.args.outside.office (doors_by g.L.Hall g.I.Inbox c.args.outside.doors) (doors_by g.L.Hall g.I.Inbox (record { listen = c.args.outside.doors.listen; more = c.reserve.new.self; outbox = c.args.outside.doors.outbox }))
      (ap (λ (l : List g.row.I.Denot). record { listen = opening_by g.L.Hall c.args.outside.doors.listen; more = map (end_by g.I.Inbox) l; out = end_by g.I.Inbox c.args.outside.doors.outbox }) c.reserve.ensures.items)),
  λ fine. Appends-nil (g.K.Sink.output c.args.outside.notes),
)

pub tell_end-status-requires-clause-number : goal.tell_end-status-requires-clause-number
tell_end-status-requires-clause-number g c =
    let apart = c.in-Ok.apart in
    let did = c.host_told-hosted in
    number_within g.D.Disk.history g.D.Disk.faults did.result.0 apart.disks.items did.result.1.disks.items
    (length c.deref-2.result.now)
    (same_count c.args.outside.office.disks.items apart.names.items apart.disks.items c.in-Ok.ensures.disks c.in-Ok.ensures.names
    ∙ ap length (sym c.deref-2.ensures.value))
    did.ensures.unhosted

pub tell_end-status-requires-clause-named : goal.tell_end-status-requires-clause-named
tell_end-status-requires-clause-named g c =
    let names : map name_view c.deref-2.result.now ≡ c.args.spec.catalog.maps =
    ap (λ (l : List MapName). map name_view l) c.deref-2.ensures.value ∙ c.in-Ok.ensures.names ∙ c.requires.disks in
    subst (λ (l : List Name). All IsNamed l) (sym names) c.requires.named

pub returns-clause-does : goal.returns-clause-does
returns-clause-does g c =
    let logged = c.host_told-hosted.ensures.logged in (
      logged.0,
      λ connections.
          let seen : Seeing g.row.S.Denot g.row.K.Denot g.row.D.Denot g.row.C.Denot g.row.A.Denot g.row.I.Denot g.row.T.Denot =
          seeing g.S.Source g.K.Sink g.D.Disk g.C.Clock g.A.Dial g.I.Inbox g.T.Texts in
          let did = c.host_told-hosted in
          let told = c.tell_end-status in
          let old = c.args.outside.office in
          let back = did.result.1 in
          let apart = c.in-Ok.apart in
          let job = serve_job_of c.args.spec.catalog.own connections c.args.spec.serve.turns c.args.spec.catalog.maps c.args.hosts c.args.spec.log in
          let inbox = c.in-Some.inbox in
          let rest = c.pop.new.self.items in
          let new : Office g.row.S.Denot g.row.K.Denot g.row.D.Denot g.row.C.Denot g.row.A.Denot g.row.I.Denot g.row.T.Denot =
          record {
            wire = record { source = old.wire.source; sink = told.new.sink };
            disks = c.put_together.new.named;
            clock = back.desk.clock;
            dial = back.desk.dial;
            inbox = inbox;
            texts = back.desk.texts;
          } in
          let resources : HostResources g.row.D.Denot g.row.A.Denot g.row.T.Denot g.row.C.Denot g.row.L.Denot g.row.I.Denot = record {
            disks = apart.disks;
            desk = record { dial = old.dial; texts = old.texts; clock = old.clock; hosts = c.args.hosts };
            listen = c.args.outside.doors.listen;
            inboxes = c.push_reserved.new.self;
            outbox = c.args.outside.doors.outbox;
          } in
          let tells : g.row.L.Denot → List g.row.I.Denot → g.row.I.Denot → DoorTells = λ l more o.
          record { listen = opening_by g.L.Hall l; more = map (end_by g.I.Inbox) more; out = end_by g.I.Inbox o } in
          let more = c.args.outside.doors.more.items in
          let door : DoorTells = tells c.args.outside.doors.listen more c.args.outside.doors.outbox in
          let door' : DoorTells = tells back.listen rest back.outbox in
          let was : OutsideTells g.row.S.Denot g.row.K.Denot g.row.D.Denot g.row.C.Denot g.row.A.Denot g.row.I.Denot g.row.T.Denot = outside_tells old door in
          let now : OutsideTells g.row.S.Denot g.row.K.Denot g.row.D.Denot g.row.C.Denot g.row.A.Denot g.row.I.Denot g.row.T.Denot = outside_tells new door' in
          let lent : resources.inboxes.items ≡ more ++ old.inbox ∷ [] =
          c.push_reserved.ensures.items ∙ ap (λ (l : List g.row.I.Denot). l ++ old.inbox ∷ []) c.reserve.ensures.items in
          let came : back.inboxes.items ≡ rest ++ inbox ∷ [] = c.in-Some.ensures.items in
          let all : map name_view apart.names.items ≡ c.args.spec.catalog.maps = c.in-Ok.ensures.names ∙ c.requires.disks in
          let names : map name_view c.deref.result.now ≡ c.args.spec.catalog.maps =
          ap (λ (l : List MapName). map name_view l) c.deref.ensures.value ∙ all in
          let names_told : map name_view c.deref-2.result.now ≡ c.args.spec.catalog.maps =
          ap (λ (l : List MapName). map name_view l) c.deref-2.ensures.value ∙ all in
          let log : IsLog c.args.spec.log c.args.spec.catalog.maps (totals_told did.result.0) logged.0 =
          subst (λ (l : List Name). IsLog c.args.spec.log l (totals_told did.result.0) logged.0) names logged.1 in
          let shut = shut_of job old new resources back inbox more door door' tells logged.0 did.result.0 log refl refl refl lent rest came
          refl refl refl did.ensures.untouched told.ensures.untold in
          let tells_as : HostResources g.row.D.Denot g.row.A.Denot g.row.T.Denot g.row.C.Denot g.row.L.Denot g.row.I.Denot
          → List InboxTells → List g.row.D.Denot → ServerTells g.row.D.Denot = λ lent l disks.
          server_tells (opening_by g.L.Hall lent.listen) l (box_by g.I.Inbox lent.outbox)
          (supply_of (g.T.Texts.faults lent.desk.texts) (dial_by g.A.Dial lent.desk.dial)) disks in
          let hosted = hosted_at g.D.Disk (setup seen job old) did.result.0
          (tells_by g.L.Hall g.I.Inbox g.T.Texts g.A.Dial resources) (tells_by g.L.Hall g.I.Inbox g.T.Texts g.A.Dial back)
          (place seen was) (place seen now)
          (ap (λ l. tells_as resources l apart.disks.items) (boxes_are g.I.Inbox resources.inboxes.items more old.inbox lent)
          ∙ ap (λ disks. tells_as resources (place seen was).boxes disks) c.in-Ok.ensures.disks)
          (ap (λ l. tells_as back l back.disks.items) (boxes_are g.I.Inbox back.inboxes.items rest inbox came)
          ∙ ap (λ disks. tells_as back (place seen now).boxes disks) (sym c.put_together.ensures.disks))
          did.ensures.hosted in
          let fails = some_fails seen was now did.result.0 resources.inboxes.items back.inboxes.items more rest
          resources.outbox back.outbox lent came did.ensures.inboxes refl refl refl refl did.ensures.inbox_fault in
          all_done seen job told.result was now logged.0 did.result.0 apart.disks.items
          back.disks.items c.in-Ok.ensures.disks (sym c.put_together.ensures.disks) hosted did.ensures.unhosted shut log
          (subst (λ (l : List Name). TellsServeEnd did.result.0 l told.result (output seen old) (output seen new))
          names_told told.ensures.tells)
          fails told.ensures.cause (c.put_together.ensures.names ∙ c.in-Ok.ensures.names) did.ensures.moment
          did.ensures.texts refl,
      logged.2,
    )
