-- What a session over stored maps does is what the headline says.
use Rattle.std.proofs.Common.{◌≡◌, ◌⊎◌, ℕ, ◌≤◌, Bool, true, List, [], ◌∷◌, ◌++◌, length, Option, Some, refl, sym, ap, ◌∙◌, subst, inl, inr, ⊎_elim, Result, Ok, Err}
use Rattle.std.specs.Prelude.{Contains, slice_get, unwrap_or}
use Rattle.std.proofs.lemmas.List.{append_cancel_left, length-map}
use Rattle.yp_io.specs.Disk.{IsImage}
use Rattle.yp_io.specs.Dials.{Connected, Wires}
use Rattle.yp_io.specs.declared.stream.Peer.{Peer}
use Rattle.yp_map_file.specs.inside.Laws.{ReadIsBody}
use Rattle.yp_version.specs.Versions.{MapVersion}
use Rattle.yp_board.specs.Catalogues.{Catalogue, Name}
use Rattle.yp_board.specs.Logs.{Log}
use Rattle.yp_board.specs.Views.{IsFront}
use Rattle.yp_publisher.specs.Standing.{StoredMap, versions}
use Rattle.yp_publisher.specs.Opens.{IsOpened}
use Rattle.yp_publisher.specs.Grown.{IsShownOrMade, AreTold}
use Rattle.yp_answer.specs.declared.procedure.Path.TheVariants.{Stream}
use Rattle.yp_answer.specs.Make.{map_name, making_of}
use Rattle.yp_answer.specs.declared.session.session.End.{End}
use Rattle.yp_answer.specs.declared.session.session.End.TheVariants as ends
use Rattle.yp_answer.specs.declared.session.session.TheConstants.{CALLS_MAX}
use Rattle.yp_answer.specs.session.Progress.{begun}
use Rattle.yp_answer.specs.session.Wires.{Wire}
use Rattle.yp_answer.specs.session.Runs.{dialogue_at}
use Rattle.yp_messages.specs.declared.transfer.XfrStat.{XfrStat}
use Rattle.yp_messages.specs.declared.transfer.XfrStat.TheVariants.{Succ}
use Rattle.yp_publisher.specs.declared.install.Installed.{Installed}
use Rattle.yp_transfer.specs.declared.fault.XfrFault.{XfrFault}
use Rattle.yp_transfer.specs.HostTable.{HostList}
use Rattle.yp_transfer.specs.Fetching.{Wanted}
use Rattle.yp_transfer.specs.Fetched.{place_of, Fetched}
use Rattle.yp_end_to_end.specs.inside.transfer.Laws.{FetchedIsShown}
use Rattle.yp_end_to_end.specs.inside.transfer.Shown.{ShownBetween}
use Rattle.yp_transfer.specs.CallBack.{outcome_stat}
use Rattle.yp_answer.specs.Served.{maps_on}
use Rattle.yp_answer.specs.Reply.{Takes, reply}
use Rattle.yp_answer.specs.Transfer.{Taken}
use Rattle.yp_host.specs.Transferring.{request_for}
use Rattle.yp_host.specs.Locals.{Local}
use Rattle.yp_host.specs.Connections.{Service, Connection, local_conduct, log_of, WasMade, WasFetched, Transition, GaveVersion, given_in, transitions_of, ServesConnection}
use Rattle.yp_board.specs.Catalogues.{name_view}
use Rattle.yp_command.specs.declared.office.disks.NamedDisk.{NamedDisk}
use Rattle.yp_command.specs.declared.office.status.Status.{Status}
use Rattle.yp_command.specs.declared.office.status.Status.TheVariants as status
use Rattle.yp_command.specs.office.Disks.{disks_of}
use Rattle.yp_command.specs.office.Seeing.{Seeing}
use Rattle.yp_command_serve.specs.Session.{Sessions, service, connection}
use Rattle.yp_headline.specs.World.{World, Letter, Connection as WorldConnection}
use Rattle.yp_headline.specs.Serving.{Exchange, IsServed}
use Rattle.yp_headline.specs.Publishing.{IsAmong, IsMarked, IsFetched, IsNew, IsPublishedLog, OfFile, StandsBy}
use Rattle.yp_headline.specs.Fetching.{Gives}
use Rattle.yp_headline.specs.Sources.{Source, IsOfSource}
use Rattle.yp_headline.specs.Calling.{IsCallBack, answered_in_stream, AreCallBacks, IsCalledBack}
use Rattle.yp_headline.specs.Headline.{Replies, Crashes, Transfers}
use Rattle.yp_headline.specs.inside.Files.{is_cut, stores_between, streamed}
use Rattle.yp_headline.specs.inside.Worlds.{connection_of, was_served, session_world}
use Rattle.yp_headline.specs.inside.Laws.{WorldHolds, SessionHolds}
use Rattle.yp_headline.proofs.Runs.{exchange_of, exchanges_of, turns_in, all_callers, chain_reads, front_self, none_among, run_served}
use Rattle.yp_headline.proofs.Named.{open_is_named}
use Rattle.yp_headline.proofs.Built.{made_built}
use Rattle.yp_headline.proofs.Given.{fetched_gives}
use Rattle.yp_headline.proofs.Sourced.{Throughout, stream_throughout, marked_throughout}
use Rattle.yp_headline.proofs.Dialing.{IsSound, Goes, fetched_among, chained, ended_goes, some_then}
use Rattle.yp_headline.proofs.Posting.{Gains, IsPosted, InOrder, all_posted, run_posts, installed_in, never_succeeds}
use Rattle.yp_headline.proofs.Stores.{stores_have, left_at, end_at, by_wire, zip_length, is_published, stands_by, left_of_map}

same_some : (a b : Wires) → Some a ≡ Some b → a ≡ b
same_some a b e = cc

same_name : (a b : Name) → Some a ≡ Some b → a ≡ b
same_name a b e = cc

module _ {D B E : Type 0} (service : Service D B E) (end : End) (old new : Connection D E) (wires : List Wire)
    (serves : ServesConnection service end old new wires) (came before sent : List ℕ) (dialed : List Connected)
    (first last : Wires) (count : length old.disks ≡ length service.catalogue.maps)
    (told : AreTold service.keeping.history old.disks) (told' : AreTold service.keeping.history new.disks)
    (was : (service.telling.dial old.desk).past ≡ Some first) (is : (service.telling.dial new.desk).past ≡ Some last)
    (few : length first.back ≤ length first.came) (more_came : last.came ≡ first.came ++ dialed)
    (inputs : (wire : Connected) → IsAmong dialed wire → (stream : List ℕ) × (wire.input ≡ Some stream))
    (input : old.wire.source.input ≡ Some came) (output : old.wire.sink.output ≡ Some before)
    (took : new.wire.sink.output ≡ Some (before ++ sent)) where
  abbrev its_connection : WorldConnection
  its_connection = record { peer = service.peer; came = came; sent = sent; cut = is_cut end }

  abbrev world : World
  world = session_world service old new its_connection dialed

  abbrev log0 : Log
  log0 = log_of service serves.start

  abbrev log1 : Log
  log1 = log_of service serves.finish

  start_desk : serves.start.desk ≡ old.desk
  start_desk = ap (λ (h : Local D B E). h.desk) serves.first.begun

  start_catalogue : serves.start.published.catalogue ≡ service.catalogue
  start_catalogue = serves.first.catalogue

  sound : IsSound service.keeping service.telling serves.start
  sound = record {
    count = sym (zip_length (IsOpened service.keeping.history service.keeping.faults) old.disks serves.start.published.maps
        serves.first.opened) ∙ count ∙ ap (λ (c : Catalogue). length c.maps) (sym start_catalogue);
    opened = record {
      wires = first;
      is = ap (λ (e : E). (service.telling.dial e).past) start_desk ∙ was;
      few = few;
    };
  }

  whole : Goes service.keeping service.telling serves.start serves.finish
  whole =
      let run = serves.runs in
      let chain = chained service.keeping service.telling service.peer run.answered
      (dialogue_at serves.start old.wire begun) run.last run.chain sound in
      let tail = ended_goes service.keeping service.telling service.peer CALLS_MAX (length run.answered) end run.last
      (dialogue_at serves.finish new.wire serves.progress) run.ends chain.sound in
      record {
        sound = tail.sound;
        some = some_then (service.telling.dial serves.start.desk).past (service.telling.dial run.last.host.desk).past
            (service.telling.dial serves.finish.desk).past chain.some tail.some;
        catalogue = tail.catalogue ∙ chain.catalogue;
        count = tail.count ∙ chain.count;
      }

  -- a version that was fetched of a map, and that a source showed
  record FetchedOf (number : ℕ) (version : MapVersion) : Type 0 where
    fetched : IsFetched world version
    of_source : ReadIsBody → FetchedIsShown → ShownBetween → IsOfSource world number fetched.gives version

  named_source : (fetched version : MapVersion) (number : ℕ) (wanted : Wanted) (peer : Peer) (stream : List ℕ)
      (gives : Gives (streamed peer stream) fetched) → IsMarked fetched version
      → Fetched wanted (place_of 1 0 stream) (Ok fetched)
      → slice_get service.catalogue.maps number ≡ Some (wanted.domain, wanted.map)
      → ReadIsBody → FetchedIsShown → ShownBetween → IsOfSource world number gives version
  named_source fetched version number wanted peer stream gives marked is named read shown between name there =
      subst (λ (n : Name). (source : Source n gives) → Throughout n gives source version)
      (same_name (wanted.domain, wanted.map) name (sym named ∙ there))
      (λ source. marked_throughout (wanted.domain, wanted.map) gives version marked source
      (stream_throughout read shown between wanted peer stream fetched gives is source))

  -- what the transfer behind one of the records fetched
  fetched_by : (hosts : HostList) (taken : Taken) (fetched version : MapVersion) (transition : Transition (Local D B E))
      → Contains (transitions_of (dialogue_at serves.start old.wire begun) serves.runs.answered) transition
      → GaveVersion service hosts taken fetched transition → IsMarked fetched version → FetchedOf taken.map version
  fetched_by hosts taken fetched version transition among gave marked =
      let a = fetched_among service service.catalogue.maps hosts taken fetched CALLS_MAX end
      serves.runs.answered (dialogue_at serves.start old.wire begun) serves.runs.last
      (dialogue_at serves.finish new.wire serves.progress) (length serves.runs.answered) serves.runs.chain serves.runs.ends
      sound (ap (λ (c : Catalogue). c.maps) start_catalogue) transition among gave in
      let from : a.came.before ≡ first = same_some a.came.before first
      (sym a.came.was ∙ ap (λ (e : E). (service.telling.dial e).past) start_desk ∙ was) in
      let to : a.came.after ≡ last = same_some a.came.after last
      (sym a.came.is ∙ ap (λ (e : E). (service.telling.dial e).past) (sym serves.last.desk) ∙ is) in
      let all : first.came ++ (a.front ++ a.wire ∷ a.back) ≡ first.came ++ dialed =
      ap (λ (w : Wires). w.came ++ (a.front ++ a.wire ∷ a.back)) (sym from) ∙ sym a.came.came
      ∙ ap (λ (w : Wires). w.came) to ∙ more_came in
      let parts : dialed ≡ a.front ++ a.wire ∷ a.back = sym (append_cancel_left first.came _ dialed all) in
      let input_is = inputs a.wire (a.front, a.back, parts) in
      let bytes = unwrap_or a.wire.input [] in
      let same : bytes ≡ input_is.0 = ap (λ (o : Option (List ℕ)). unwrap_or o []) input_is.1 in
      let came_so : Fetched a.wanted (place_of 1 0 bytes) (Ok fetched) =
      subst (λ (l : List ℕ). Fetched a.wanted (place_of 1 0 l) (Ok fetched)) (sym same) (a.fetched input_is.0 input_is.1) in
      let given : IsFetched world version = by_wire world dialed a.front a.back a.wire refl parts input_is.0 input_is.1 fetched version
      (fetched_gives a.wanted a.wire.peer input_is.0 fetched (a.fetched input_is.0 input_is.1)) marked in
      record {
        fetched = given;
        of_source = named_source fetched version taken.map a.wanted a.wire.peer bytes given.gives marked came_so a.named;
      }

  fetched_new : (number : ℕ) (log : Log) (version : MapVersion)
      → WasFetched service (transitions_of (dialogue_at serves.start old.wire begun) serves.runs.answered)
      (service.telling.hosts old.desk) number log version → IsFetched world version
  fetched_new number log version is =
      (fetched_by (service.telling.hosts old.desk) is.taken is.fetched version is.transition is.among is.gave
      (is.marked ∙ ap (λ (b : Bool). record is.fetched { secure = b })
      (sym (ap (λ (v : MapVersion). v.secure) is.marked)))).fetched

  is_new : (number : ℕ) (log : Log) (version : MapVersion)
      → given_in service old serves.start serves.runs.turns serves.runs.answered number log version
      → IsNew world number log version
  is_new number log version given = ⊎_elim
      (λ (made : WasMade service serves.runs.turns (service.telling.told old.desk) number log version).
      let got = made.called.2 in
      let named = open_is_named Stream got.maps service.peer made.called.0.message made.called.1 made.job got.gets in
      inl (made_built world number log version (service.telling.told old.desk) refl refl made.job made.at made.of_map
      (subst (λ (c : Catalogue). made.job.making ≡ making_of (map_name made.job.map c)) got.of_catalogue named) made.anew))
      (λ fetched. inr (fetched_new number log version fetched)) given

  published : IsPublishedLog world log0 log1
  published =
      let grown = serves.grown told in
      let disks : length new.disks ≡ length serves.start.published.maps =
      ap length serves.last.disks ∙ length-map serves.finish.published.maps (λ (kept : StoredMap D). kept.disk) ∙ whole.count in
      is_published world (given_in service old serves.start serves.runs.turns serves.runs.answered) log0 log1 is_new
      (versions serves.start.published.maps)
      (stores_have service.keeping.history service.keeping.faults old.disks new.disks serves.start.published.maps
      serves.first.opened disks told told') serves.first.log grown

  served_one : IsServed service.catalogue log0 log1 its_connection
  served_one = subst (λ (c : Catalogue). IsServed c log0 log1 its_connection)
      start_catalogue
      (run_served (local_conduct service.keeping service.telling) service.peer CALLS_MAX
      (dialogue_at serves.start old.wire begun) (dialogue_at serves.finish new.wire serves.progress) wires came before sent input
      output took end serves.runs log1 (front_self log1))

  log_grown : IsFront log0 log1
  log_grown = let grown = serves.grown told in (grown.more, grown.last_is)

  pub session_replies : Replies world log0 log1
  session_replies = record {
    published = published;
    rises = serves.rises told;
    connections = (served_one, tt);
    datagrams = tt;
  }

  -- ---- what a crash leaves

  pub session_crashes : Crashes world log0 log1
  session_crashes = record {
    published = published;
    any_moment = λ number. left_at service.keeping.history world number log0 log1
        (IsShownOrMade (given_in service old serves.start serves.runs.turns serves.runs.answered) number)
        (stands_by world (given_in service old serves.start serves.runs.turns serves.runs.answered) log0 log1 is_new number)
        number old.disks new.disks (serves.any_moment number);
    at_end = λ number. subst (λ (l : List D). OfFile number (stores_between service.keeping.history old.disks l)
        (λ file. (image : List ℕ) → IsImage file.last image → IsImage file.first image ⊎ StandsBy world number log1 image))
        (sym serves.last.disks)
        (end_at service.keeping.history (StandsBy world number log1) number old.disks serves.finish.published.maps
        (left_of_map world (given_in service old serves.start serves.runs.turns serves.runs.answered) log0 log1 is_new
        service.keeping.history serves.finish.published.maps serves.last.shows serves.last.standing serves.behind number));
    stored = λ number among. absurd (none_among number among);
  }

  -- ---- what was called back

  abbrev transitions : List (Transition (Local D B E))
  transitions = transitions_of (dialogue_at serves.start old.wire begun) serves.runs.answered

  abbrev exchanges : List Exchange
  exchanges = exchanges_of service.peer (turns_in serves.runs.answered)

  abbrev WerePosted : List Letter → Type 0
  WerePosted letters = InOrder service serves.start transitions letters exchanges log0 log1

  posted : Gains WerePosted (service.telling.dial old.desk).letters (service.telling.dial new.desk).letters
  posted =
      subst (λ (e : E). Gains WerePosted (service.telling.dial e).letters (service.telling.dial new.desk).letters) start_desk
      (subst (λ (e : E). Gains WerePosted (service.telling.dial serves.start.desk).letters (service.telling.dial e).letters)
      (sym serves.last.desk)
      (run_posts service serves.runs.answered (dialogue_at serves.start old.wire begun) serves.runs.last
      (dialogue_at serves.finish new.wire serves.progress) CALLS_MAX (length serves.runs.answered) end serves.runs.chain
      serves.runs.ends))

  abbrev Shows : Taken → XfrStat → (front next : Log) → Type 0
  Shows taken stat front next = stat ≡ Succ → (version : MapVersion) × (before : Log) × IsFront front before
      × IsFront (before ++ (taken.map, version) ∷ []) next
      × (fetched : IsFetched world version) × IsOfSource world taken.map fetched.gives version

  module _ (read : ReadIsBody) (shown : FetchedIsShown) (between : ShownBetween) where
    -- the version of a transfer that succeeded was entered
    by_result : (letter : Letter) (is : IsPosted service serves.start transitions letter) (result : Result Installed XfrFault)
        → is.carried.transfers.result ≡ result
        → Shows is.taken (outcome_stat result) (log_of service is.middle) (log_of service is.transition.after)
    by_result letter is (Err why) result_is = λ done. absurd (never_succeeds why done)
    by_result letter is (Ok installed) result_is = λ done.
        let entered = installed_in service.keeping (request_for is.taken) is.carried.transfers.transfers.outcome
        is.carried.transfers.result installed is.middle.published is.transition.after.published is.carried.inside result_is
        is.carried.transfers.transfers.installs in
        let given = fetched_by (service.telling.hosts is.middle.desk) is.taken entered.version entered.stored is.transition is.among
        (record {
          took = is.took;
          flushed = is.flushed;
          middle = is.middle;
          middle_is = is.middle_is;
          hosts_are = refl;
          carried = is.carried;
          gave = entered.outcome_is;
        })
        entered.marked in
        (entered.stored, entered.before, entered.goes_on, entered.entry, given.fetched, given.of_source read shown between)

    call_back : (letter : Letter) (is : IsPosted service serves.start transitions letter)
        → IsCallBack world (answered_in_stream (exchange_of service.peer is.transition.turn) (log_of service is.middle)
        (log_of service is.transition.after)) letter
    call_back letter is = record {
      reply = is.answer;
      taken = is.taken;
      takes = subst (λ (c : Catalogue). reply Stream (maps_on c (log_of service is.middle)) service.peer is.transition.turn.message
          ≡ Takes is.answer is.taken) (is.catalogue ∙ start_catalogue) is.takes;
      host = is.tells.host;
      port = is.tells.port;
      stat = outcome_stat is.carried.transfers.result;
      says = is.tells.says;
      shows = by_result letter is is.carried.transfers.result refl;
    }

    call_backs : (letters : List Letter) (left : List Exchange) (known : Log)
        → InOrder service serves.start transitions letters left known log1 → AreCallBacks world letters left known log1
    call_backs [] left known order = order
    call_backs (letter ∷ letters) left known order = (
      order.0,
      exchange_of service.peer order.1.transition.turn,
      order.2,
      log_of service order.1.middle,
      log_of service order.1.transition.after,
      order.3,
      order.4,
      order.1.grown,
      call_back letter order.1,
      call_backs letters order.2 (log_of service order.1.transition.after) order.5,
    )

    called_back : IsCalledBack world log0 log1
    called_back =
        let reads = chain_reads (local_conduct service.keeping service.telling) service.peer serves.runs.answered
        (dialogue_at serves.start old.wire begun) serves.runs.last came before input output serves.runs.chain in
        record {
          connection = its_connection;
          among = ([], [], refl);
          exchanges = exchanges;
          callers = all_callers service.peer (turns_in serves.runs.answered);
          rest = reads.rest;
          came = reads.begins;
          letters = call_backs world.posted exchanges log0
              (all_posted WerePosted log_grown (service.telling.dial old.desk).letters (service.telling.dial new.desk).letters posted);
        }

    pub session_transfers : Transfers world log0 log1
    session_transfers =
        record { done = λ number among. absurd (none_among number among); called_back = λ some. called_back }

-- ---- by the status

module _ {D B E : Type 0} (service : Service D B E) (old new : Connection D E) (wires : List Wire)
    (came before sent : List ℕ) (dialed : List Connected)
    (first last : Wires) (count : length old.disks ≡ length service.catalogue.maps)
    (told : AreTold service.keeping.history old.disks) (told' : AreTold service.keeping.history new.disks)
    (was : (service.telling.dial old.desk).past ≡ Some first) (is : (service.telling.dial new.desk).past ≡ Some last)
    (few : length first.back ≤ length first.came) (more_came : last.came ≡ first.came ++ dialed)
    (inputs : (wire : Connected) → IsAmong dialed wire → (stream : List ℕ) × (wire.input ≡ Some stream))
    (input : old.wire.source.input ≡ Some came) (output : old.wire.sink.output ≡ Some before)
    (took : new.wire.sink.output ≡ Some (before ++ sent)) where
  held : ReadIsBody → FetchedIsShown → ShownBetween → (end : End) → ServesConnection service end old new wires
      → WorldHolds (session_world service old new
      (record { peer = service.peer; came = came; sent = sent; cut = is_cut end }) dialed)
  held read shown between end serves = record {
    begun = log_of service serves.start;
    log = log_of service serves.finish;
    replies = session_replies service end old new wires serves came before sent dialed first last count told told' was is few
        more_came inputs input output took;
    crashes = session_crashes service end old new wires serves came before sent dialed first last count told told' was is few
        more_came inputs input output took;
    transfers = session_transfers service end old new wires serves came before sent dialed first last count told told' was is few
        more_came inputs input output took read shown between;
  }

  pub by_status : ReadIsBody → FetchedIsShown → ShownBetween → (s : Status) → was_served s ≡ true → Sessions service s old new wires
      → WorldHolds (session_world service old new (connection_of service.peer s came sent) dialed)
  by_status read shown between status.Done served did = held read shown between ends.Clean did
  by_status read shown between (status.Torn at) served did = held read shown between (ends.Torn at) did
  by_status read shown between (status.TooLong at) served did = held read shown between (ends.TooLong at) did
  by_status read shown between status.ReadFault served did = held read shown between ends.ReadFault did
  by_status read shown between status.WriteFault served did = held read shown between ends.WriteFault did
  by_status read shown between status.Enough served did = held read shown between ends.Enough did
  by_status read shown between _ served did = absurd cc

pub session_holds : {S K D C A I T : Type 0} (seen : Seeing S K D C A I T) → ReadIsBody → FetchedIsShown → ShownBetween
    → SessionHolds seen
session_holds {S} {K} {D} {C} {A} {I} {T} seen read shown between job s old new does served named came taken sent input output took told told'
    first last wires was is few more_came inputs =
    let count : length (disks_of old.reached.disks.items) ≡ length job.stores =
    length-map old.reached.disks.items (λ (d : NamedDisk D). d.disk)
    ∙ sym (length-map old.reached.disks.items (λ (d : NamedDisk D). name_view d.name))
    ∙ ap length named in
    by_status (service seen job.own job.peer job.stores) (connection seen job.hosts old.reached)
    (connection seen job.hosts new.reached) does.serves.more came taken sent wires first last count told told' was is few more_came inputs input output took read shown between s served
    does.serves.done
