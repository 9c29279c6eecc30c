-- What `serve` does is what the headline says.
use Rattle.std.proofs.Common.{◌≡◌, ◌⊎◌, ℕ, zero, suc, Bool, true, false, List, [], ◌∷◌, ◌++◌, length, map, Option, Some, None, Ok, refl, sym, ap, ◌∙◌, subst, arith, inl, inr, ⊎_elim}
use Rattle.std.specs.Prelude.{Contains, flat_map, slice_get, unwrap_or, IfSome, ⊤}
use Rattle.std.specs.List.{AllByRecursion, AllZip}
use Rattle.std.proofs.lemmas.List.{append_cancel_left, length-map}
use Rattle.yp_io.specs.Disk.{History, IsImage}
use Rattle.yp_io.specs.Calls.{ClosedConnection, ListenerHistory}
use Rattle.yp_io.specs.Dials.{Connected, Wires}
use Rattle.yp_version.specs.Versions.{MapVersion}
use Rattle.yp_map_file.specs.inside.Laws.{ReadIsBody}
use Rattle.yp_board.specs.Catalogues.{Name, name_view}
use Rattle.yp_board.specs.Views.{Seen, Refreshes}
use Rattle.yp_board.specs.Logs.{Log, starts}
use Rattle.yp_publisher.specs.Standing.{StoredMap, OfMap, versions}
use Rattle.yp_publisher.specs.Grown.{Making, IsShownOrMade, LeavesByFronts, OrAsBefore, AtDisk, AreTold}
use Rattle.yp_publisher.specs.Opens.{IsOpened}
use Rattle.yp_publisher.specs.sharing.Failures as publisher
use Rattle.yp_publisher.specs.sharing.Tracing.{IsNewBehind}
use Rattle.yp_transfer.specs.Fetching.{wanted_of, against_names}
use Rattle.yp_transfer.specs.Fetched.{place_of, Fetched}
use Rattle.yp_end_to_end.specs.inside.transfer.Laws.{FetchedIsShown}
use Rattle.yp_end_to_end.specs.inside.transfer.Shown.{ShownBetween}
use Rattle.yp_worker.specs.datagrams.Mailing.{Awaited}
use Rattle.yp_worker.specs.Receptions.{terms_of}
use Rattle.yp_worker.specs.Summing.{WorkerRun, ends_of, TellsClosed}
use Rattle.yp_answer.specs.declared.session.session.TheConstants.{CALLS_MAX}
use Rattle.yp_answer.specs.Make.{job_of}
use Rattle.yp_answer.specs.session.Hosts.{Conduct}
use Rattle.yp_host.specs.workers.Workers.{WorkerState}
use Rattle.yp_host.specs.declared.workers.charges.Counted.{Counted}
use Rattle.yp_host.specs.workers.Charges.{counted_of, nothing_counted}
use Rattle.yp_host.specs.workers.Desks.{texts_alone}
use Rattle.yp_host.specs.workers.Makings.{IsBuiltAsNamed}
use Rattle.yp_host.specs.workers.Wires.{AtLeast, BytesGive, GivesVersion, CoversBy, CameByWire}
use Rattle.yp_server.specs.Counting.{count_told, CountsAll, server_terms, endpoint_tells, server_end}
use Rattle.yp_command.specs.declared.office.disks.NamedDisk.{NamedDisk}
use Rattle.yp_command.specs.declared.office.status.Status.{Status}
use Rattle.yp_command.specs.declared.office.status.Status.TheVariants as status
use Rattle.yp_command.specs.office.Disks.{disks_of}
use Rattle.yp_command.specs.office.Seeing.{Seeing, output}
use Rattle.yp_command_serve.specs.declared.serve.tally.Hosted.{Hosted}
use Rattle.yp_command_serve.specs.serve.Hosting.{OutsideTells, conduct}
use Rattle.yp_command_serve.specs.serve.Serve.{Job, catalogue_of, setup, place, TellsServed, ServesMaps, ServesOrRefuses, ServeDoes}
use Rattle.yp_headline.specs.World.{World, Connection, Datagram}
use Rattle.yp_headline.specs.Serving.{IsServed, AreServed}
use Rattle.yp_headline.specs.Publishing.{IsMarked, IsFetched, IsNew, IsPublishedLog, OfFile, StandsBy}
use Rattle.yp_headline.specs.Sources.{IsOfSource}
use Rattle.yp_headline.specs.Headline.{Replies, Crashes, CallBacks}
use Rattle.yp_headline.specs.inside.Files.{stores_between}
use Rattle.yp_headline.specs.inside.Server.{IsToldClosed, closed_in, may_lose, was_hosted, ServerEvents, AllTell, serve_world, ServeHolds}
use Rattle.yp_headline.proofs.Runs.{none_among}
use Rattle.yp_headline.proofs.Given.{fetched_gives, refetched}
use Rattle.yp_headline.proofs.Sourced.{stream_throughout, marked_throughout}
use Rattle.yp_headline.proofs.Built.{made_built}
use Rattle.yp_headline.proofs.Stores.{told_input, stores_have, left_at, end_at, by_wire, zip_length, is_published, stands_by, left_of_map}
use Rattle.yp_headline.proofs.Moments.{since_before}
use Rattle.yp_headline.proofs.Server.{ConnectionsAreServed, all_served}
use Rattle.yp_headline.proofs.Mail.{IsOfMails, taken_by, MailsAreServed, boxes_served}
use Rattle.yp_headline.proofs.Letters.{letters_told}
use Rattle.yp_headline.proofs.Carrying.{IsOfCall, runs_tell}
use Rattle.yp_headline.proofs.Awaiting.{inboxes_tell}
use Rattle.yp_headline.proofs.CalledBack.{all_asked_for}

-- ---- connections and datagrams

joined_map : {H : Type 0} (runs : List (WorkerRun H)) → closed_in (map (λ run. ends_of run.stays) runs) ≡ flat_map (λ run. ends_of run.stays) runs
joined_map [] = refl
joined_map (run ∷ runs) = ap (λ (l : List ClosedConnection). ends_of run.stays ++ l) (joined_map runs)

told_more : (old new : Option ListenerHistory) (calls calls' : ListenerHistory) (more : List (List ClosedConnection))
    → old ≡ Some calls → new ≡ Some calls' → TellsClosed old new more → calls'.closed ≡ calls.closed ++ more
told_more old new calls calls' more was is tells =
    subst (λ (o : Option ListenerHistory). TellsClosed (Some calls) o more) is
    (subst (λ (o : Option ListenerHistory). TellsClosed o new more) was tells)

may_have_lost : (hosted : Hosted) (s : Status) (before after : Option (List ℕ)) → TellsServed hosted s before after
    → hosted.inbox_fault ≡ true → may_lose s ≡ true
may_have_lost hosted status.Done before after tells failed = absurd (let e : false ≡ true = sym tells.0.1 ∙ failed in cc)
may_have_lost hosted status.WriteFault before after tells failed = absurd (let e : false ≡ true = sym tells.0.1 ∙ failed in cc)
may_have_lost hosted status.ListenFault before after tells failed = refl
may_have_lost hosted status.InboxFault before after tells failed = refl
may_have_lost hosted _ before after tells failed = absurd tells

-- ---- a wire of several that has P

record OneOf (P : Connected → Type 0) (wires : List Connected) : Type 0 where
  front : List Connected
  wire : Connected
  back : List Connected
  parts : wires ≡ front ++ wire ∷ back
  holds : P wire

one_of : (P : Connected → Type 0) (wires : List Connected) → AtLeast P 1 wires → OneOf P wires
one_of P [] some = absurd (let e : 1 ≡ 0 = some in omega (arith, e))
one_of P (wire ∷ wires) some = ⊎_elim
    (λ later. let one = one_of P wires later in record {
      front = wire ∷ one.front;
      wire = one.wire;
      back = one.back;
      parts = ap (λ (l : List Connected). wire ∷ l) one.parts;
      holds = one.holds;
    })
    (λ here. record { front = []; wire = wire; back = wires; parts = refl; holds = here.0 }) some

-- ---- files

no_disk : {X : Type 0} (one : Option X) → IfSome one (λ item. ⊤)
no_disk None = tt
no_disk (Some item) = tt

module _ {D : Type 0} (history : D → Option History) (faults : D → ℕ) (P : Log → List ℕ → Type 0) (begun log : Log) where
  at_disk : (number : ℕ) (olds : List D) (maps kept : List (StoredMap D)) → AllZip (IsOpened history faults) olds maps
      → IfSome (slice_get (map history (publisher.disks_of maps)) number)
      (λ before. OfMap number kept (λ one. LeavesByFronts P before (history one.disk) begun log))
      → AtDisk number olds (map (λ one. one.disk) kept)
      (λ before after. LeavesByFronts (OrAsBefore (history before) begun P) (history before) (history after) begun log)
  at_disk number [] maps kept opened since = tt
  at_disk number (old ∷ olds) [] kept opened since = absurd opened
  at_disk number (old ∷ olds) (one ∷ maps) [] opened since = no_disk (slice_get (old ∷ olds) number)
  at_disk zero (old ∷ olds) (one ∷ maps) (last ∷ kept) opened since =
      since_before P begun log (history old) (history one.disk) (history last.disk) opened.0.moments since
  at_disk (suc number) (old ∷ olds) (one ∷ maps) (last ∷ kept) opened since = at_disk number olds maps kept opened.1 since

-- ---- the whole

module _ {S K D C A I T : Type 0} (seen : Seeing S K D C A I T) (job : Job) (s : Status) (old new : OutsideTells S K D C A I T)
    (logged : List ℕ) (does : ServeDoes seen job s old new logged)
    (serves : ServesMaps seen job s old new logged) (events : ServerEvents) (tell : AllTell seen old new events) where
  abbrev olds : List D
  olds = disks_of old.office.disks.items

  abbrev news : List D
  news = disks_of new.office.disks.items

  abbrev maps : List (StoredMap D)
  maps = serves.is_hosted.maps

  abbrev begun : Log
  begun = starts 0 (versions maps)

  abbrev log : Log
  log = serves.is_hosted.served.log

  abbrev kept : List (StoredMap D)
  kept = serves.is_hosted.served.accounted.traced.traced.leaves.kept

  disks_are : news ≡ map (λ one. one.disk) kept
  disks_are = serves.is_hosted.served.accounted.traced.traced.leaves.disks_are

  -- the connections that were closed
  connections_served : ConnectionsAreServed (catalogue_of job) begun log events.closed
  connections_served =
      let sums = serves.is_hosted.served.accounted.counted.counted.of_connections in
      let ends = map (λ run. ends_of run.stays) sums.worker_runs in
      let ends_are : tell.more_closed ≡ ends = append_cancel_left tell.calls.closed tell.more_closed ends
      (sym tell.closes ∙ told_more old.doors.listen.past new.doors.listen.past tell.calls tell.calls_at_last ends tell.listens
      tell.listens_at_last sums.closed) in
      let all : events.closed ≡ flat_map (λ run. ends_of run.stays) sums.worker_runs =
      tell.closed_are ∙ ap closed_in ends_are ∙ joined_map sums.worker_runs in
      subst (λ (l : List ClosedConnection). ConnectionsAreServed (catalogue_of job) begun log l) (sym all)
      (all_served (conduct (setup seen job old.office)) count_told (terms_of (catalogue_of job) begun CALLS_MAX) old.doors.listen.past
      log sums.worker_runs sums.work (subst (λ (l : List ClosedConnection). AllByRecursion IsToldClosed l) all tell.told_closed))

  abbrev counts : CountsAll (conduct (setup seen job old.office)) count_told
      (server_terms (terms_of (catalogue_of job) begun CALLS_MAX) job.turns)
      (endpoint_tells old.doors.listen ((place seen old).boxes) ((place seen old).out))
      (endpoint_tells new.doors.listen ((place seen new).boxes) ((place seen new).out))
      (server_end serves.hosted.tally.calls serves.hosted.inbox_fault
      (record { totals = serves.hosted.totals; told = serves.is_hosted.served.accounted.counted.told }) log)
  counts = serves.is_hosted.served.accounted.counted.counted

  abbrev its : Conduct (WorkerState Seen)
  its = conduct (setup seen job old.office)

  -- what datagrams took
  abbrev taken : List Awaited
  taken = taken_by (catalogue_of job) begun log (may_lose s) its count_told job.turns counts.of_datagrams.failed
      ((place seen old).boxes) ((place seen new).boxes) counts.of_datagrams.left counts.datagrams
      counts.of_datagrams.each

  -- what the inboxes told
  inboxes_served : MailsAreServed (catalogue_of job) begun log (may_lose s) its count_told taken events.inboxes events.out
  inboxes_served =
      boxes_served (catalogue_of job) begun log (may_lose s) its count_told job.turns serves.hosted.inbox_fault
      ((place seen old).boxes) ((place seen new).boxes) ((place seen old).out) ((place seen new).out)
      counts.datagrams counts.deferred
      (may_have_lost serves.hosted s (output seen old.office) (output seen new.office) serves.tells) counts.of_datagrams
      events.inboxes tell.hears tell.hears_at_last events.out tell.hears_out tell.hears_out_at_last

  module _ (connections : List Connection) (datagrams : List (List Datagram)) where
    abbrev world : World
    world = serve_world job tell connections datagrams

    abbrev Is : Making
    Is = IsNewBehind (IsBuiltAsNamed (seen.texts.text old.office.texts) (catalogue_of job))
        serves.is_hosted.served.accounted.traced.fetches

    -- one of the wires gave a version
    record GaveWire (fetched : MapVersion) : Type 0 where
      front : List Connected
      wire : Connected
      back : List Connected
      parts : events.wires ≡ front ++ wire ∷ back
      stream : List ℕ
      input : wire.input ≡ Some stream
      gave : BytesGive fetched stream

    gave_wire : (fetched : MapVersion) → CameByWire (seen.dial.past old.office.dial) (seen.dial.past new.office.dial) fetched
        → GaveWire fetched
    gave_wire fetched came =
        let P = GivesVersion fetched in
        let covers : CoversBy P (Some tell.dialed) (Some tell.dialed_at_last) 1 =
        subst (λ (o : Option Wires). CoversBy P (Some tell.dialed) o 1) tell.dials_at_last
        (subst (λ (o : Option Wires). CoversBy P o (seen.dial.past new.office.dial) 1) tell.dials came) in
        let gains = covers tell.few in
        let same : gains.gained ≡ events.wires =
        append_cancel_left tell.dialed.came gains.gained events.wires (sym gains.came ∙ tell.wires_are) in
        let one = one_of P events.wires (subst (λ (l : List Connected). AtLeast P 1 l) same gains.enough) in
        let input = tell.inputs one.wire (one.front, one.back, one.parts) in
        record {
          front = one.front;
          wire = one.wire;
          back = one.back;
          parts = one.parts;
          stream = input.0;
          input = input.1;
          gave = subst (λ (o : Option (List ℕ)). IfSome o (BytesGive fetched)) input.1 one.holds;
        }

    -- a version that a wire gave
    given : (fetched version : MapVersion) → Contains serves.is_hosted.served.accounted.traced.fetches fetched
        → IsMarked fetched version → IsFetched world version
    given fetched version among marked =
        let one = gave_wire fetched (serves.is_hosted.served.accounted.traced.came fetched among) in
        by_wire world events.wires one.front one.back one.wire refl one.parts one.stream one.input fetched version
        (fetched_gives one.gave.wanted one.wire.peer one.stream fetched one.gave.fetched) marked

    -- one of a map of the catalogue, which its source showed
    given_of : ReadIsBody → FetchedIsShown → ShownBetween → (number : ℕ) (fetched stored : MapVersion)
        → CameByWire (seen.dial.past old.office.dial) (seen.dial.past new.office.dial) fetched → IsMarked fetched stored
        → ((name : Name) → slice_get (catalogue_of job).maps number ≡ Some name
        → against_names (wanted_of name.0 name.1 None false) ≡ None)
        → (is : IsFetched world stored) × IsOfSource world number is.gives stored
    given_of read shown between number fetched stored came marked named =
        let one = gave_wire fetched came in
        let bytes = unwrap_or one.wire.input [] in
        let same : bytes ≡ one.stream = told_input one.wire.input one.stream one.input in
        let got : IsFetched world stored =
        by_wire world events.wires one.front one.back one.wire refl one.parts one.stream one.input fetched stored
        (fetched_gives one.gave.wanted one.wire.peer one.stream fetched one.gave.fetched) marked in (
          got,
          λ name there source.
              marked_throughout name got.gives stored marked source
              (stream_throughout read shown between (wanted_of name.0 name.1 None false) one.wire.peer bytes fetched got.gives
              (refetched one.gave.wanted name.0 name.1 (place_of 1 0 bytes) fetched (named name there)
              (subst (λ (l : List ℕ). Fetched one.gave.wanted (place_of 1 0 l) (Ok fetched)) (sym same) one.gave.fetched)) source),
        )

    is_new : (number : ℕ) (front : Log) (version : MapVersion) → Is number front version → IsNew world number front version
    is_new number front version (inl built) =
        inl (made_built world number front version (texts_alone (seen.texts.text old.office.texts)) refl refl
        (job_of (catalogue_of job) number) built.0 refl refl built.2)
    is_new number front version (inr fetched) =
        inr (given fetched.0 version fetched.1 (fetched.2 ∙ ap (λ (b : Bool). record fetched.0 { secure = b })
        (sym (ap (λ (v : MapVersion). v.secure) fetched.2))))

    published : IsPublishedLog world begun log
    published =
        let as_many : length news ≡ length olds = length-map new.office.disks.items (λ (d : NamedDisk D). d.disk)
        ∙ sym (length-map new.office.disks.items (λ (d : NamedDisk D). name_view d.name)) ∙ ap length does.names
        ∙ length-map old.office.disks.items (λ (d : NamedDisk D). name_view d.name)
        ∙ sym (length-map old.office.disks.items (λ (d : NamedDisk D). d.disk)) in
        let opened = serves.is_hosted.opened in
        is_published world Is begun log is_new (versions maps)
        (stores_have seen.disk.history seen.disk.faults olds news maps opened
        (as_many ∙ zip_length (IsOpened seen.disk.history seen.disk.faults) olds maps opened) tell.disks tell.disks_at_last)
        refl (serves.is_hosted.served.accounted.traced.traced.traced.grown
        (subst (λ (l : List D). AreTold seen.disk.history l) disks_are tell.disks_at_last))

    replies : AllByRecursion (IsServed (catalogue_of job) begun log) connections
        → AllByRecursion (AreServed (catalogue_of job) begun log) datagrams → Replies world begun log
    replies served heard = record {
      published = published;
      rises = serves.is_hosted.served.rises tell.disks_at_last;
      connections = served;
      datagrams = heard;
    }

    crashes : Crashes world begun log
    crashes =
        let traces = serves.is_hosted.served.accounted.traced.traced in
        record {
          published = published;
          any_moment = λ number. left_at seen.disk.history world number begun log (IsShownOrMade Is number)
              (stands_by world Is begun log is_new number) number olds news
              (subst (λ (l : List D). AtDisk number olds l (λ before after. LeavesByFronts
              (OrAsBefore (seen.disk.history before) begun (IsShownOrMade Is number)) (seen.disk.history before)
              (seen.disk.history after) begun log)) (sym disks_are)
              (at_disk seen.disk.history seen.disk.faults (IsShownOrMade Is number) begun log number olds maps kept
              serves.is_hosted.opened (traces.traced.any_moment number)));
          at_end = λ number. subst (λ (l : List D). OfFile number (stores_between seen.disk.history olds l)
              (λ file. (image : List ℕ) → IsImage file.last image → IsImage file.first image ⊎ StandsBy world number log image))
              (sym disks_are)
              (end_at seen.disk.history (StandsBy world number log) number olds kept
              (left_of_map world Is begun log is_new seen.disk.history kept traces.leaves.shows traces.leaves.standing
              traces.traced.behind number));
          stored = λ number among. absurd (none_among number among);
        }

    -- whom the workers told what
    called_back : ReadIsBody → FetchedIsShown → ShownBetween
        → AllByRecursion (IsOfMails (catalogue_of job) begun log datagrams) taken → CallBacks world begun log
    called_back read shown between took =
        let told = serves.is_hosted.served.accounted.counted in
        let of = setup seen job old.office in
        let runs = counts.of_connections.worker_runs in
        let by_runs = runs_tell (λ reader. reader) Refreshes of.text of.hosts world begun log CALLS_MAX tell.calls old.doors.listen.past
        tell.listens refl tell.coming runs nothing_counted counts.of_connections.work tt in
        let by_connections = subst (λ (c : Counted). AllByRecursion (IsOfCall world of.hosts begun log) c.told)
        (sym counts.of_connections.sum_is) by_runs in
        let by_all = inboxes_tell (λ reader. reader) Refreshes of.text of.hosts world begun log (may_lose s) job.turns
        serves.hosted.inbox_fault ((place seen old).boxes) ((place seen new).boxes) ((place seen old).out)
        ((place seen new).out) counts.datagrams counts.deferred counts.of_datagrams took counts.connections
        by_connections in
        let are : AllByRecursion (IsOfCall world of.hosts begun log) told.told =
        subst (λ (c : Counted). AllByRecursion (IsOfCall world of.hosts begun log) c.told) (sym counts.all_is) by_all in
        all_asked_for world of.hosts begun log (seen.dial.past old.office.dial) (seen.dial.past new.office.dial)
        (given_of read shown between) told.told are told.came told.posted told.same world.posted
        (letters_told of.hosts (catalogue_of job).maps told.posted ((place seen old).supply.dial)
        ((place seen new).supply.dial) told.used)

served_maps : {S K D C A I T : Type 0} (seen : Seeing S K D C A I T) (job : Job) (s : Status) (old new : OutsideTells S K D C A I T)
    (logged : List ℕ) → was_hosted s ≡ true → ServesOrRefuses seen job s old new logged
    → ServesMaps seen job s old new logged
served_maps seen job status.Done old new logged hosted serves = serves
served_maps seen job status.WriteFault old new logged hosted serves = serves
served_maps seen job status.ListenFault old new logged hosted serves = serves
served_maps seen job status.InboxFault old new logged hosted serves = serves
served_maps seen job _ old new logged hosted serves = absurd cc

pub serve_holds : {S K D C A I T : Type 0} (seen : Seeing S K D C A I T) → ReadIsBody → FetchedIsShown → ShownBetween
    → ServeHolds seen
serve_holds seen read shown between job s old new logged does hosted events tell =
    let serves = served_maps seen job s old new logged hosted does.serves in
    let called = connections_served seen job s old new logged does serves events tell in
    let heard = inboxes_served seen job s old new logged does serves events tell in
    record {
      connections = called.connections;
      are_closed = called.are;
      datagrams = heard.datagrams;
      are_heard = heard.are;
      are_late = heard.late;
      begun = starts 0 (versions serves.is_hosted.maps);
      log = serves.is_hosted.served.log;
      replies = replies seen job s old new logged does serves events tell called.connections
          heard.datagrams called.served heard.served;
      crashes = crashes seen job s old new logged does serves events tell called.connections
          heard.datagrams;
      called_back = called_back seen job s old new logged does serves events tell called.connections
          heard.datagrams read shown between heard.took;
    }
