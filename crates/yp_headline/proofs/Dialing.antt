-- The wires of a session's dial, and what they gave.
use Rattle.std.proofs.Common.{◌≡◌, ℕ, zero, suc, ◌+◌, ◌<◌, ◌≤◌, Bool, true, false, List, [], ◌∷◌, ◌++◌, length, Option, Some, None, Result, Ok, Err, refl, sym, ap, ◌∙◌, subst, arith, ⊎_elim, append_assoc}
use Rattle.std.specs.Prelude.{IfSome, slice_get, slice_index_or, Contains}
use Rattle.std.proofs.lemmas.List.{append-nil, length-append}
use Rattle.yp_io.specs.declared.stream.Peer.{Peer}
use Rattle.yp_io.specs.Dials.{Connected, connected, Wires, WireState, Dialing, DialTells, WireComes, GoesBack, wires_told}
use Rattle.yp_messages.specs.declared.transfer.XfrStat.{XfrStat}
use Rattle.yp_version.specs.Versions.{MapVersion}
use Rattle.yp_board.specs.Catalogues.{Catalogue, Name}
use Rattle.yp_publisher.specs.Standing.{Published}
use Rattle.yp_publisher.specs.Keeping.{Keeping}
use Rattle.yp_publisher.specs.declared.install.Installed.{Installed}
use Rattle.yp_client.specs.States.{ClientState}
use Rattle.yp_client.specs.Dialed.{IsDialed}
use Rattle.yp_transfer.specs.declared.fault.XfrFault.{XfrFault}
use Rattle.yp_transfer.specs.declared.calling_back.Asker.{Asker}
use Rattle.yp_transfer.specs.Fetching.{Wanted, FetchOutcome}
use Rattle.yp_transfer.specs.Fetched.{place_of, Fetched}
use Rattle.yp_transfer.specs.Dialing.{FetchesOnWire, ByAddress, FetchesFrom, sought}
use Rattle.yp_transfer.specs.HostTable.{HostList}
use Rattle.yp_transfer.specs.CallBack.{CallsBack, wants_call}
use Rattle.yp_transfer.specs.Requests.{TransferRequest}
use Rattle.yp_transfer.specs.Transfers.{InstallsOutcome, wanted_at}
use Rattle.yp_transfer.specs.Installing.{Offers}
use Rattle.yp_publisher.specs.Installs.{OfferedVersion}
use Rattle.yp_answer.specs.Answers.{StepsWhere}
use Rattle.yp_answer.specs.Maps.{maps_of}
use Rattle.yp_answer.specs.Reply.{Response, Silence, Bytes, Takes, Open, reply, asks}
use Rattle.yp_answer.specs.Transfer.{Taken}
use Rattle.yp_answer.specs.declared.make.MakeJob.{MakeJob}
use Rattle.yp_answer.specs.declared.procedure.Path.TheVariants.{Stream}
use Rattle.yp_answer.specs.declared.session.session.End.{End}
use Rattle.yp_answer.specs.declared.session.session.End.TheVariants as ends
use Rattle.yp_answer.specs.session.Hosts.{Turn, Link, Carries, CarriesWhere}
use Rattle.yp_answer.specs.session.Runs.{Dialogue, Chain, Ends}
use Rattle.yp_host.specs.Locals.{Local, Telling}
use Rattle.yp_host.specs.Making.{MapIsMade, OffersBuilt, Tries}
use Rattle.yp_host.specs.Transferring.{MapIsTransferred, request_for, asker_of}
use Rattle.yp_host.specs.Connections.{Service, local_conduct, Transition, transition_of, transitions_of, GaveVersion}

-- ---- a dial that tells its wires

-- it does, and no more were given back than came
pub record IsOpen (past : Option Wires) : Type 0 where
  pub wires : Wires
  pub is : past ≡ Some wires
  pub few : length wires.back ≤ length wires.came

-- these wires came
pub record Came (old new : Option Wires) (more : List Connected) : Type 0 where
  pub before : Wires
  pub after : Wires
  pub was : old ≡ Some before
  pub is : new ≡ Some after
  pub came : after.came ≡ before.came ++ more

came_none : (old new : Option Wires) → new ≡ old → IsOpen old → Came old new []
came_none old new same opened = record {
  before = opened.wires;
  after = opened.wires;
  was = opened.is;
  is = same ∙ opened.is;
  came = sym (append-nil opened.wires.came);
}

same_wires : (a b : Wires) → Some a ≡ Some b → a ≡ b
same_wires a b e = cc

came_then : (a b c : Option Wires) (more others : List Connected) → Came a b more → Came b c others → Came a c (more ++ others)
came_then a b c more others one other =
    let same : one.after ≡ other.before = same_wires one.after other.before (sym one.is ∙ other.was) in
    record {
      before = one.before;
      after = other.after;
      was = one.was;
      is = other.is;
      came = other.came ∙ ap (λ (w : Wires). w.came ++ others) (sym same) ∙ ap (λ (l : List Connected). l ++ others) one.came
          ∙ append_assoc one.before.came more others;
    }

-- ---- one wire

pub record OneCame (old new : Option Wires) (wire : Connected) : Type 0 where
  pub came : Came old new (wire ∷ [])
  pub opened : IsOpen new

one_came : (old middle new : Option Wires) (wire : Connected) (last : WireState) (wires : Wires) → old ≡ Some wires
    → length wires.back ≤ length wires.came → WireComes wire old middle → GoesBack last middle new → OneCame old new wire
one_came None middle new wire last wires is few comes goes = absurd cc
one_came (Some x) None new wire last wires is few comes goes = absurd comes
one_came (Some x) (Some y) None wire last wires is few comes goes =
    let same : x ≡ wires = cc in
    let front : length y.came ≡ length x.came + 1 =
    ap (λ (w : Wires). length w.came) comes ∙ length-append x.came (wire ∷ []) in
    let back : length y.back ≡ length x.back = ap (λ (w : Wires). length w.back) comes in
    let least : length x.back ≤ length x.came = subst (λ (w : Wires). length w.back ≤ length w.came) (sym same) few in
    absurd (omega (arith, front, back, least, goes))
one_came (Some x) (Some y) (Some z) wire last wires is few comes goes =
    let same : x ≡ wires = cc in
    let front : length y.came ≡ length x.came + 1 =
    ap (λ (w : Wires). length w.came) comes ∙ length-append x.came (wire ∷ []) in
    let back : length y.back ≡ length x.back = ap (λ (w : Wires). length w.back) comes in
    let least : length x.back ≤ length x.came = subst (λ (w : Wires). length w.back ≤ length w.came) (sym same) few in
    let front' : length z.came ≡ length y.came = ap (λ (w : Wires). length w.came) goes in
    let back' : length z.back ≡ length y.back + 1 =
    ap (λ (w : Wires). length w.back) goes ∙ length-append y.back (last ∷ []) in
    record {
      came = record {
        before = x;
        after = z;
        was = refl;
        is = refl;
        came = ap (λ (w : Wires). w.came) goes ∙ ap (λ (w : Wires). w.came) comes;
      };
      opened = record { wires = z; is = refl; few = omega (arith, front, back, least, front', back') };
    }

dialed_one : (peer : Peer) (first last : ClientState) (old new : Dialing) → IsDialed peer first last old new → IsOpen old.past
    → OneCame old.past new.past (connected peer first.wire.input first.wire.output)
dialed_one peer first last old new dialed opened =
    one_came old.past dialed.middle new.past _ last.wire opened.wires opened.is opened.few dialed.comes dialed.goes_back

-- ---- a fetch

pub record SomeCame (old new : Option Wires) : Type 0 where
  pub more : List Connected
  pub came : Came old new more
  pub opened : IsOpen new

none_came : (old new : Option Wires) → new ≡ old → IsOpen old → SomeCame old new
none_came old new same opened = record {
  more = [];
  came = came_none old new same opened;
  opened = record { wires = opened.wires; is = same ∙ opened.is; few = opened.few };
}

pub some_then : (a b c : Option Wires) → SomeCame a b → SomeCame b c → SomeCame a c
some_then a b c one other = record {
  more = one.more ++ other.more;
  came = came_then a b c one.more other.more one.came other.came;
  opened = other.opened;
}

fetched_by : (wanted : Wanted) (address : Result Peer XfrFault) (outcome : FetchOutcome) (old new : Dialing)
    → ByAddress wanted address outcome old new → IsOpen old.past → SomeCame old.past new.past
fetched_by wanted (Err fault) outcome old new by opened =
    none_came old.past new.past (ap (λ (d : Dialing). d.past) by.1) opened
fetched_by wanted (Ok peer) outcome old new by opened = ⊎_elim (λ fails. none_came old.past new.past fails.1.none opened)
    (λ (on : FetchesOnWire peer wanted outcome old new).
    let one = dialed_one peer on.first on.last old new on.dialed opened in
    record { more = connected peer on.first.wire.input on.first.wire.output ∷ []; came = one.came; opened = one.opened }) by

-- one of which a version was fetched that was wanted
pub record WireFetched (wanted : Wanted) (old new : Option Wires) (version : MapVersion) : Type 0 where
  pub wire : Connected
  pub came : Came old new (wire ∷ [])
  pub fetched : (stream : List ℕ) → wire.input ≡ Some stream → Fetched wanted (place_of 1 0 stream) (Ok version)

fetched_on : (peer : Peer) (wanted : Wanted) (version : MapVersion) (old new : Dialing)
    (on : FetchesOnWire peer wanted (Ok version) old new) → IsOpen old.past → WireFetched wanted old.past new.past version
fetched_on peer wanted version old new on opened =
    let one = dialed_one peer on.first on.last old new on.dialed opened in
    let P : ℕ → ℕ → List ℕ → Type 0 = λ xid at stream. Fetched wanted (place_of xid at stream) (Ok version) in
    record {
      wire = connected peer on.first.wire.input on.first.wire.output;
      came = one.came;
      fetched = λ stream input. subst (λ n. P n 0 stream) on.dialed.begins.xid
          (subst (λ n. P on.first.xid n stream) on.dialed.begins.place
          (⊎_elim (λ is. is) (λ not. absurd (⊎_elim (λ fails. let e = fails.0 in cc) (λ e. cc) not))
          (on.fetched stream input)));
    }

pub fetched_over : (wanted : Wanted) (address : Result Peer XfrFault) (version : MapVersion) (old new : Dialing)
    → ByAddress wanted address (Ok version) old new → IsOpen old.past → WireFetched wanted old.past new.past version
fetched_over wanted (Err fault) version old new by opened = absurd (let e = by.0 in cc)
fetched_over wanted (Ok peer) version old new by opened =
    ⊎_elim (λ fails. absurd (let e = fails.0 in cc)) (λ on. fetched_on peer wanted version old new on opened) by

-- a wire of which a version was fetched of the map with a number
pub record WireGave (maps : List Name) (number : ℕ) (old new : Option Wires) (version : MapVersion) : Type 0 where
  pub wanted : Wanted
  pub named : slice_get maps number ≡ Some (wanted.domain, wanted.map)
  pub wire : Connected
  pub came : Came old new (wire ∷ [])
  pub fetched : (stream : List ℕ) → wire.input ≡ Some stream → Fetched wanted (place_of 1 0 stream) (Ok version)

-- ---- a call back

called_back : (wants : Bool) (asker : Asker) (stat : XfrStat) (old new : DialTells) → CallsBack wants asker stat old new
    → new.past ≡ old.past
called_back true asker stat old new calls = calls.past
called_back false asker stat old new calls = ap (λ (d : DialTells). d.past) calls

-- ---- maps that stay as many

module _ {D B E : Type 0} (keeping : Keeping D B) (telling : Telling E) where
  offered_count : (number : ℕ) (version : MapVersion) (stat : XfrStat) (old new : Published D B)
      → OffersBuilt keeping number version stat old new → length new.maps ≡ length old.maps
  offered_count number version stat old new offers =
      ⊎_elim (λ done. done.1.upheld.elsewhere.count) (λ not. not.refuses.upheld.elsewhere.count) offers

  tried_count : (job : MakeJob) (stat : XfrStat) (old new : Local D B E) → Tries keeping telling job stat old new
      → length new.published.maps ≡ length old.published.maps
  tried_count job stat old new tries = ⊎_elim (λ not. ap (λ (p : Published D B). length p.maps) not.1)
      (λ built. offered_count job.map built.0 stat old.published new.published built.2) tries

  made_count : (job : MakeJob) (stat : XfrStat) (old new : Local D B E) → MapIsMade keeping telling job stat old new
      → length new.published.maps ≡ length old.published.maps
  made_count job stat old new made = ⊎_elim (λ shut. shut.stays.upheld.elsewhere.count)
      (λ opens. tried_count job stat (record old { published = opens.middle }) new opens.tries
      ∙ opens.opens.upheld.elsewhere.count) made.1.ends

  offers_count : (number : ℕ) (offered : OfferedVersion) (result : Result Installed XfrFault) (old new : Published D B)
      → Offers keeping number offered result old new → length new.maps ≡ length old.maps
  offers_count number offered (Ok installed) old new offers = offers.installs.upheld.elsewhere.count
  offers_count number offered (Err fault) old new offers = offers.refuses.upheld.elsewhere.count

  outcome_count : (request : TransferRequest) (outcome : FetchOutcome) (result : Result Installed XfrFault)
      (old new : Published D B) → InstallsOutcome keeping request outcome result old new
      → length new.maps ≡ length old.maps
  outcome_count request (Err fault) result old new installs = ap (λ (p : Published D B). length p.maps) installs.1
  outcome_count request (Ok version) result old new installs = ⊎_elim (λ shut. shut.stays.upheld.elsewhere.count)
      (λ opens. offers_count request.number _ result opens.middle new opens.offers ∙ opens.opens.upheld.elsewhere.count)
      installs

  -- a host whose dial is open, with as many maps as names
  pub record IsSound (host : Local D B E) : Type 0 where
    pub count : length host.published.maps ≡ length host.published.catalogue.maps
    pub opened : IsOpen (telling.dial host.desk).past

  pub record Goes (old new : Local D B E) : Type 0 where
    pub sound : IsSound new
    pub some : SomeCame (telling.dial old.desk).past (telling.dial new.desk).past
    pub catalogue : new.published.catalogue ≡ old.published.catalogue
    pub count : length new.published.maps ≡ length old.published.maps

  goes_then : (a b c : Local D B E) → Goes a b → Goes b c → Goes a c
  goes_then a b c one other = record {
    sound = other.sound;
    some = some_then (telling.dial a.desk).past (telling.dial b.desk).past (telling.dial c.desk).past one.some other.some;
    catalogue = other.catalogue ∙ one.catalogue;
    count = other.count ∙ one.count;
  }

  goes_nowhere : (old new : Local D B E) → new.published ≡ old.published → telling.dial new.desk ≡ telling.dial old.desk
      → IsSound old → Goes old new
  goes_nowhere old new maps dial sound =
      let some = none_came (telling.dial old.desk).past (telling.dial new.desk).past (ap (λ (d : DialTells). d.past) dial)
      sound.opened in
      record {
        sound = record {
          count = subst (λ (p : Published D B). length p.maps ≡ length p.catalogue.maps) (sym maps) sound.count;
          opened = some.opened;
        };
        some = some;
        catalogue = ap (λ (p : Published D B). p.catalogue) maps;
        count = ap (λ (p : Published D B). length p.maps) maps;
      }

  goes_same : (old new : Local D B E) → new ≡ old → IsSound old → Goes old new
  goes_same old new same sound = goes_nowhere old new (ap (λ (h : Local D B E). h.published) same)
      (ap (λ (h : Local D B E). telling.dial h.desk) same) sound

  name_of : (names : List Name) (number : ℕ) → number < length names → (name : Name) × (slice_get names number ≡ Some name)
  name_of [] number within = absurd (omega (arith, within))
  name_of (name ∷ names) zero within = (name, refl)
  name_of (name ∷ names) (suc number) within = name_of names number (omega (arith, within))

  -- what a transfer fetched, of the map with its name
  record FetchesAt (taken : Taken) (peer : Peer) (old new : Local D B E)
      (is : MapIsTransferred keeping telling taken peer old new) : Type 0 where
    name : Name
    named : slice_get old.published.catalogue.maps taken.map ≡ Some name
    fetches : FetchesFrom (telling.hosts old.desk) taken.source (wanted_at keeping (request_for taken) name old.published)
        is.transfers.transfers.outcome (wires_told (telling.dial old.desk)) (wires_told is.transfers.fetched)

  fetches_at : (taken : Taken) (peer : Peer) (old new : Local D B E) (is : MapIsTransferred keeping telling taken peer old new)
      → IsSound old → FetchesAt taken peer old new is
  fetches_at taken peer old new is sound =
      let maps = old.published.catalogue.maps in
      let named = name_of maps taken.map (subst (λ (n : ℕ). taken.map < n) sound.count is.inside) in record {
        name = named.0;
        named = named.1;
        fetches = subst (λ (o : Option Name). IfSome o (λ name. FetchesFrom (telling.hosts old.desk) taken.source
            (wanted_at keeping (request_for taken) name old.published) is.transfers.transfers.outcome
            (wires_told (telling.dial old.desk)) (wires_told is.transfers.fetched))) named.1 is.transfers.transfers.fetches;
      }

  told_back : (taken : Taken) (peer : Peer) (old new : Local D B E) (is : MapIsTransferred keeping telling taken peer old new)
      → (telling.dial new.desk).past ≡ is.transfers.fetched.past
  told_back taken peer old new is =
      called_back (wants_call (asker_of taken peer)) (asker_of taken peer) _ is.transfers.fetched (telling.dial new.desk)
      is.transfers.called_back

  transferred : (taken : Taken) (peer : Peer) (old new : Local D B E) → MapIsTransferred keeping telling taken peer old new
      → new.published.catalogue ≡ old.published.catalogue → IsSound old → Goes old new
  transferred taken peer old new is catalogue sound =
      let fetches = fetches_at taken peer old new is sound in
      let wanted = wanted_at keeping (request_for taken) fetches.name old.published in
      let some = fetched_by wanted (sought wanted taken.source (telling.hosts old.desk)) is.transfers.transfers.outcome
      (wires_told (telling.dial old.desk)) (wires_told is.transfers.fetched) fetches.fetches sound.opened in
      let last = some_then (telling.dial old.desk).past is.transfers.fetched.past (telling.dial new.desk).past some
      (none_came is.transfers.fetched.past (telling.dial new.desk).past (told_back taken peer old new is) some.opened) in
      let count = outcome_count (request_for taken) is.transfers.transfers.outcome is.transfers.result old.published
      new.published is.transfers.transfers.installs in
      record {
        sound = record {
          count = count ∙ sound.count ∙ ap (λ (c : Catalogue). length c.maps) (sym catalogue);
          opened = last.opened;
        };
        some = last;
        catalogue = catalogue;
        count = count;
      }

  -- a transfer that fetched a version
  transfer_gave : (taken : Taken) (peer : Peer) (version : MapVersion) (old new : Local D B E)
      (is : MapIsTransferred keeping telling taken peer old new) → is.transfers.transfers.outcome ≡ Ok version → IsSound old
      → WireGave old.published.catalogue.maps taken.map (telling.dial old.desk).past (telling.dial new.desk).past version
  transfer_gave taken peer version old new is gave sound =
      let fetches = fetches_at taken peer old new is sound in
      let wanted = wanted_at keeping (request_for taken) fetches.name old.published in
      let by = subst (λ (o : FetchOutcome). FetchesFrom (telling.hosts old.desk) taken.source wanted o
      (wires_told (telling.dial old.desk)) (wires_told is.transfers.fetched)) gave fetches.fetches in
      let wire = fetched_over wanted (sought wanted taken.source (telling.hosts old.desk)) version
      (wires_told (telling.dial old.desk)) (wires_told is.transfers.fetched) by sound.opened in
      record {
        wanted = wanted;
        named = fetches.named;
        wire = wire.wire;
        came = record {
          before = wire.came.before;
          after = wire.came.after;
          was = wire.came.was;
          is = told_back taken peer old new is ∙ wire.came.is;
          came = wire.came.came;
        };
        fetched = wire.fetched;
      }

  -- ---- records

  stepped : (asks : Bool) (old mid : Local D B E)
      → StepsWhere asks (local_conduct keeping telling).stepped (local_conduct keeping telling).seen old mid → IsSound old
      → Goes old mid
  stepped true old mid step sound = goes_nowhere old mid (ap (λ (h : Local D B E). h.published) step.0)
      (ap (λ (h : Local D B E). telling.dial h.desk) step.0) sound
  stepped false old mid step sound = goes_same old mid step sound

  carried_where : (flushed : Bool) (taken : Taken) (peer : Peer) (old new : Local D B E)
      → CarriesWhere flushed (local_conduct keeping telling) taken peer old new → IsSound old → Goes old new
  carried_where true taken peer old new carries sound = transferred taken peer old new carries.carried carries.catalogue sound
  carried_where false taken peer old new carries sound = goes_same old new carries sound

  made_goes : (job : MakeJob) (stat : XfrStat) (old new : Local D B E) → MapIsMade keeping telling job stat old new
      → new.published.catalogue ≡ old.published.catalogue → IsSound old → Goes old new
  made_goes job stat old new made catalogue sound =
      let some = none_came (telling.dial old.desk).past (telling.dial new.desk).past
      (ap (λ (d : DialTells). d.past) made.1.dial) sound.opened in
      let count = made_count job stat old new made in
      record {
        sound = record {
          count = count ∙ sound.count ∙ ap (λ (c : Catalogue). length c.maps) (sym catalogue);
          opened = some.opened;
        };
        some = some;
        catalogue = catalogue;
        count = count;
      }

  carried : (peer : Peer) (response : Response) (turn : Turn) (old new : Local D B E)
      → Carries (local_conduct keeping telling) peer response turn old new → IsSound old → Goes old new
  carried peer Silence turn old new carries sound = goes_same old new carries.3 sound
  carried peer (Bytes bytes) turn old new carries sound = goes_same old new carries.3 sound
  carried peer (Takes bytes taken) turn old new carries sound = carried_where turn.flushed taken peer old new carries.3 sound
  carried peer (Open xid job) turn old new carries sound =
      made_goes job carries.0 old new carries.4.made carries.4.catalogue sound

  linked : (peer : Peer) (turn : Turn) (old new : Local D B E)
      → Link (local_conduct keeping telling) Stream peer turn old new → IsSound old → Goes old new
  linked peer turn old new link sound =
      let step = stepped (asks Stream turn.message) old link.mid link.step sound in
      goes_then old link.mid new step
      (carried peer (reply Stream (maps_of ((local_conduct keeping telling).seen link.mid)) peer turn.message) turn link.mid new
      link.carried step.sound)

  pub chained : (peer : Peer) (answered : List (Turn × Dialogue (Local D B E))) (old new : Dialogue (Local D B E))
      → Chain (local_conduct keeping telling) peer answered old new → IsSound old.host → Goes old.host new.host
  chained peer [] old new chain sound =
      goes_same old.host new.host (ap (λ (d : Dialogue (Local D B E)). d.host) chain) sound
  chained peer (one ∷ answered) old new chain sound =
      let first = linked peer one.0 old.host one.1.host chain.0.replied.link sound in
      goes_then old.host one.1.host new.host first (chained peer answered one.1 new chain.1 first.sound)

  pub ended_goes : (peer : Peer) (most count : ℕ) (end : End) (last new : Dialogue (Local D B E))
      → Ends (local_conduct keeping telling) peer most count end last new → IsSound last.host → Goes last.host new.host
  ended_goes peer most count ends.Clean last new end sound = goes_same last.host new.host end.1.1.host sound
  ended_goes peer most count (ends.Torn at) last new end sound = goes_same last.host new.host end.1.1.host sound
  ended_goes peer most count (ends.TooLong at) last new end sound = goes_same last.host new.host end.1.1.host sound
  ended_goes peer most count ends.ReadFault last new end sound = goes_same last.host new.host end.1.1.host sound
  ended_goes peer most count ends.WriteFault last new end sound =
      linked peer end.1.0 last.host new.host end.1.1.replied.link sound
  ended_goes peer most count ends.Enough last new end sound =
      goes_same last.host new.host (ap (λ (d : Dialogue (Local D B E)). d.host) end.1) sound

-- ---- the wire of a version that was fetched

-- among the wires that came from one moment to another is one of which a version was fetched of the map with a number
pub record Among (maps : List Name) (number : ℕ) (old new : Option Wires) (version : MapVersion) : Type 0 where
  pub front : List Connected
  pub wire : Connected
  pub back : List Connected
  pub came : Came old new (front ++ wire ∷ back)
  pub wanted : Wanted
  pub named : slice_get maps number ≡ Some (wanted.domain, wanted.map)
  pub fetched : (stream : List ℕ) → wire.input ≡ Some stream → Fetched wanted (place_of 1 0 stream) (Ok version)

among_later : (maps : List Name) (number : ℕ) (a b c : Option Wires) (version : MapVersion) (more : List Connected)
    → Came a b more → Among maps number b c version → Among maps number a c version
among_later maps number a b c version more came is = record {
  front = more ++ is.front;
  wire = is.wire;
  back = is.back;
  came = subst (λ (l : List Connected). Came a c l) (sym (append_assoc more is.front (is.wire ∷ is.back)))
      (came_then a b c more (is.front ++ is.wire ∷ is.back) came is.came);
  wanted = is.wanted;
  named = is.named;
  fetched = is.fetched;
}

module _ {D B E : Type 0} (service : Service D B E) (maps : List Name) (hosts : HostList) (taken : Taken) (version : MapVersion)
  where
    abbrev Maps : Local D B E → List Name
    Maps host = host.published.catalogue.maps

    abbrev Past : Local D B E → Option Wires
    Past host = (service.telling.dial host.desk).past

    gave_at : (transition : Transition (Local D B E)) → GaveVersion service hosts taken version transition
        → IsSound service.keeping service.telling transition.before → Maps transition.before ≡ maps
        → WireGave maps taken.map (Past transition.before) (Past transition.after) version
    gave_at transition gave sound are =
        let same : gave.middle.desk ≡ transition.before.desk = ap (λ (h : Local D B E). h.desk) gave.middle_is in
        let published : gave.middle.published ≡ transition.before.published =
        ap (λ (h : Local D B E). h.published) gave.middle_is in
        let step = goes_nowhere service.keeping service.telling transition.before gave.middle published (ap service.telling.dial same) sound in
        let all : Maps gave.middle ≡ maps = ap (λ (p : Published D B). p.catalogue.maps) published ∙ are in
        subst (λ (l : List Name). WireGave l taken.map (Past transition.before) (Past transition.after) version) all
        (subst (λ (e : E). WireGave (Maps gave.middle) taken.map (service.telling.dial e).past (Past transition.after) version) same
        (transfer_gave service.keeping service.telling taken service.peer version gave.middle transition.after gave.carried gave.gave
        step.sound))

    found : (answered : List (Turn × Dialogue (Local D B E)))
        (old new : Dialogue (Local D B E)) → Chain (local_conduct service.keeping service.telling) service.peer answered old new
        → IsSound service.keeping service.telling old.host → Maps old.host ≡ maps → (transition : Transition (Local D B E)) → (k : ℕ)
        → k < length (transitions_of old answered) → slice_index_or (transitions_of old answered) k transition ≡ transition
        → GaveVersion service hosts taken version transition
        → Among maps taken.map (Past old.host) (Past new.host) version
    found [] old new chain sound are transition k within is gave = absurd (omega (arith, within))
    found (one ∷ answered) old new chain sound are transition zero within is gave =
        let here = transition_of old.host one.0 one.1.host in
        let wire = gave_at here
        (subst (λ (t : Transition (Local D B E)). GaveVersion service hosts taken version t) (sym is) gave) sound are in
        let first = linked service.keeping service.telling service.peer one.0 old.host one.1.host chain.0.replied.link sound in
        let rest = chained service.keeping service.telling service.peer answered one.1 new chain.1 first.sound in
        record {
          front = [];
          wire = wire.wire;
          back = rest.some.more;
          came = came_then (Past old.host) (Past one.1.host) (Past new.host) (wire.wire ∷ []) rest.some.more wire.came rest.some.came;
          wanted = wire.wanted;
          named = wire.named;
          fetched = wire.fetched;
        }
    found (one ∷ answered) old new chain sound are transition (suc k) within is gave =
        let first = linked service.keeping service.telling service.peer one.0 old.host one.1.host chain.0.replied.link sound in
        among_later maps taken.map (Past old.host) (Past one.1.host) (Past new.host) version first.some.more first.some.came
        (found answered one.1 new chain.1 first.sound (ap (λ (c : Catalogue). c.maps) first.catalogue ∙ are) transition k
        (omega (arith, within)) is gave)

    pub fetched_among : (most : ℕ) (end : End)
        (answered : List (Turn × Dialogue (Local D B E))) (old last new : Dialogue (Local D B E)) (count : ℕ)
        → Chain (local_conduct service.keeping service.telling) service.peer answered old last
        → Ends (local_conduct service.keeping service.telling) service.peer most count end last new
        → IsSound service.keeping service.telling old.host → Maps old.host ≡ maps → (transition : Transition (Local D B E))
        → Contains (transitions_of old answered) transition → GaveVersion service hosts taken version transition
        → Among maps taken.map (Past old.host) (Past new.host) version
    fetched_among most end answered old last new count chain ends sound are transition among gave =
        let is = found answered old last chain sound are transition among.0 among.1 among.2 gave in
        let goes = chained service.keeping service.telling service.peer answered old last chain sound in
        let tail = ended_goes service.keeping service.telling service.peer most count end last new ends goes.sound in
        record {
          front = is.front;
          wire = is.wire;
          back = is.back ++ tail.some.more;
          came = subst (λ (l : List Connected). Came (Past old.host) (Past new.host) l)
              (append_assoc is.front (is.wire ∷ is.back) tail.some.more)
              (came_then (Past old.host) (Past last.host) (Past new.host) (is.front ++ is.wire ∷ is.back) tail.some.more
              is.came tail.some.came);
          wanted = is.wanted;
          named = is.named;
          fetched = is.fetched;
        }
