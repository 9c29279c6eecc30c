-- Whom the workers of a server left what to be told: the callers of transfers that records of their connections took.
use Rattle.std.proofs.Common.{◌≡◌, ℕ, zero, suc, ◌<◌, Bool, true, false, List, [], ◌∷◌, ◌++◌, length, map, fold, Option, Some, refl, sym, ap, ◌∙◌, subst, arith, append_assoc}
use Rattle.std.specs.Prelude.{Contains, slice_index_or, unwrap_or}
use Rattle.std.specs.List.{All, AllByRecursion}
use Rattle.std.proofs.lemmas.List.{map-append}
use Rattle.yp_io.specs.declared.stream.Peer.{Peer}
use Rattle.yp_io.specs.Dials.{Connected}
use Rattle.yp_io.specs.Calls.{ListenerHistory}
use Rattle.yp_board.specs.Catalogues.{Catalogue}
use Rattle.yp_board.specs.Logs.{Log}
use Rattle.yp_board.specs.Views.{Seen, IsFront}
use Rattle.yp_transfer.specs.HostTable.{HostList}
use Rattle.yp_answer.specs.declared.procedure.Path.{Path}
use Rattle.yp_answer.specs.declared.procedure.Path.TheVariants.{Stream}
use Rattle.yp_answer.specs.Answers.{StepsWhere}
use Rattle.yp_answer.specs.Maps.{maps_of}
use Rattle.yp_answer.specs.Served.{maps_on}
use Rattle.yp_answer.specs.Transfer.{Taken}
use Rattle.yp_answer.specs.Reply.{Response, Silence, Bytes, Takes, Open, reply, asks}
use Rattle.yp_answer.specs.session.Wires.{Wire}
use Rattle.yp_answer.specs.session.Hosts.{Conduct, Turn, Link, Carries, CarriesWhere, CarriesOut}
use Rattle.yp_answer.specs.session.Cuts.{Answered, Carried, Read, turns_of}
use Rattle.yp_worker.specs.Working.{WorkerStep, Learned, TookOver, Did, deeds_of, TakesStep, TakesSteps}
use Rattle.yp_worker.specs.Receptions.{Terms, IsExpected}
use Rattle.yp_worker.specs.Summing.{WorkerRun, IsWorkerRun}
use Rattle.yp_host.specs.declared.workers.call_backs.CallBack.{CallBack}
use Rattle.yp_host.specs.declared.workers.charges.Counted.{Counted}
use Rattle.yp_host.specs.workers.Charges.{counted_of, counted_plus}
use Rattle.yp_host.specs.workers.Statuses.{HasStatus}
use Rattle.yp_host.specs.workers.Workers.{WorkerState, TellsOf}
use Rattle.yp_server.specs.Serving.{conduct_at}
use Rattle.yp_server.specs.Counting.{count_told}
use Rattle.yp_headline.specs.World.{World}
use Rattle.yp_headline.specs.Answering.{answer}
use Rattle.yp_headline.specs.Serving.{Exchange, BeginsWith}
use Rattle.yp_headline.specs.Publishing.{IsAmong}
use Rattle.yp_headline.specs.Calling.{CallCame, known_before}
use Rattle.yp_headline.specs.inside.Files.{incoming_of}
use Rattle.yp_headline.proofs.Runs.{exchange_of, exchanges_of, taken as bytes_taken}
use Rattle.yp_headline.proofs.Stores.{told_input}
use Rattle.yp_headline.proofs.Steps.{front_then, known, catalogue_of}
use Rattle.yp_headline.proofs.Server.{framed_begins}
use Rattle.yp_headline.proofs.Weighed.{all_both}
use Rattle.yp_headline.proofs.Waiting.{Talk, talk_at, talk_took, takes_snoc, steps_on}

-- What a call back tells of: a transfer that a call took which came, on a front of the log. The host that carried it out
-- knew a front of the log before, and one after that.
pub record IsOfCall (world : World) (hosts : HostList) (begun log : Log) (call_back : CallBack) : Type 0 where
  pub path : Path
  pub one : Exchange
  pub came : CallCame world path one
  pub front : Log
  pub begins : IsFront begun front
  pub ends : IsFront front log
  pub reply : List ℕ
  pub taken : Taken
  pub takes : answer path (maps_on world.catalogue front) one.caller one.call ≡ Takes reply taken
  pub before : Log
  pub after : Log
  pub known : IsFront (known_before path begun front) before
  pub entered : IsFront after log
  pub tells : TellsOf world.catalogue.own taken one.caller call_back before after
  pub status : HasStatus world.catalogue hosts taken call_back.stat before after

-- ---- what a host does that leaves nothing to be told

module _ {V : Type 0} (seen : V → Seen) (stepped : V → V → Type 0) (text : List ℕ → Option (List ℕ)) (hosts : HostList) where
  abbrev pub Host : Type 0
  Host = WorkerState V

  abbrev pub conduct : Conduct Host
  conduct = conduct_at seen stepped text hosts

  step_told : (asked : Bool) (old mid : Host) → StepsWhere asked conduct.stepped conduct.seen old mid → mid.told ≡ old.told
  step_told true old mid step = ap (λ (h : Host). h.told) step.0.1
  step_told false old mid step = ap (λ (h : Host). h.told) step

  where_told : (flushed : Bool) (taken : Taken) (peer : Peer) (old new : Host) → flushed ≡ false
      → CarriesWhere flushed conduct taken peer old new → new.told ≡ old.told
  where_told true taken peer old new flush carries = absurd cc
  where_told false taken peer old new flush carries = ap (λ (h : Host). h.told) carries

  carried_told : (peer : Peer) (response : Response) (turn : Turn) (old new : Host) → turn.flushed ≡ false
      → Carries conduct peer response turn old new → new.told ≡ old.told
  carried_told peer Silence turn old new flush carries = ap (λ (h : Host). h.told) carries.3
  carried_told peer (Bytes bytes) turn old new flush carries = ap (λ (h : Host). h.told) carries.3
  carried_told peer (Takes bytes taken) turn old new flush carries =
      where_told turn.flushed taken peer old new flush carries.3
  carried_told peer (Open xid job) turn old new flush carries = ap (λ (h : Host). h.told) carries.4.made.counted

  pub link_told : (path : Path) (peer : Peer) (turn : Turn) (old new : Host) → turn.flushed ≡ false
      → Link conduct path peer turn old new → new.told ≡ old.told
  link_told path peer turn old new flush link =
      carried_told peer (reply path (maps_of (conduct.seen link.mid)) peer turn.message) turn link.mid new flush link.carried
      ∙ step_told (asks path turn.message) old link.mid link.step

  -- ---- what one leaves

  pub one_told : (P : CallBack → Type 0) (taken : Taken) (peer : Peer) (old new : Host)
      (carries : CarriesOut conduct taken peer old new) → P carries.carried.call_back → AllByRecursion P old.told
      → AllByRecursion P new.told
  one_told P taken peer old new carries one all =
      subst (λ (l : List CallBack). AllByRecursion P l) (sym (ap (λ (h : Host). h.told) carries.carried.counted))
      (all_both P old.told (carries.carried.call_back ∷ []) all (one, tt))

  pub none_told : (P : CallBack → Type 0) (old new : Host) → new.told ≡ old.told → AllByRecursion P old.told → AllByRecursion P new.told
  none_told P old new same all = subst (λ (l : List CallBack). AllByRecursion P l) (sym same) all

  module _ (P : CallBack → Type 0) (all : List WorkerStep) (first last : Host)
      (so : (before : List WorkerStep) (number : ℕ) (peer : Peer) (taken : Taken) (wire : Wire) (after : List WorkerStep)
      (mid next : Host) → all ≡ before ++ Did number peer (Carried taken wire) ∷ after
      → TakesSteps conduct counted_of before first mid → (carries : CarriesOut conduct taken peer mid next)
      → IsFront (known conduct next) (known conduct last) → P carries.carried.call_back) where
    step_tells : (done : List WorkerStep) (step : WorkerStep) (steps : List WorkerStep) (host next : Host)
        → all ≡ done ++ step ∷ steps → TakesSteps conduct counted_of done first host
        → TakesStep conduct counted_of step host next → IsFront (known conduct next) (known conduct last)
        → AllByRecursion P host.told → AllByRecursion P next.told
    step_tells done Learned steps host next at takes step goes told =
        none_told P host next (ap (λ (c : Counted). c.told) step.kept) told
    step_tells done (TookOver number before) steps host next at takes step goes told =
        none_told P host next (ap (λ (c : Counted). c.told) step.0.kept) told
    step_tells done (Did number peer (Answered turn)) steps host next at takes step goes told =
        none_told P host next (link_told Stream peer turn host next step.0 step.1) told
    step_tells done (Did number peer (Carried taken wire)) steps host next at takes step goes told =
        one_told P taken peer host next step (so done number peer taken wire steps host next at takes step goes) told
    step_tells done (Did number peer (Read wire)) steps host next at takes step goes told =
        none_told P host next (ap (λ (h : Host). h.told) step) told

    pub steps_tell : (done steps : List WorkerStep) (host : Host) → all ≡ done ++ steps
        → TakesSteps conduct counted_of done first host → TakesSteps conduct counted_of steps host last
        → AllByRecursion P host.told → AllByRecursion P last.told
    steps_tell done [] host at takes more told = subst (λ (h : Host). AllByRecursion P h.told) (sym more) told
    steps_tell done (step ∷ steps) host at takes more told =
        let next = more.0 in
        steps_tell (done ++ step ∷ []) steps next (at ∙ sym (append_assoc done (step ∷ []) steps))
        (takes_snoc conduct counted_of done step first host next takes more.1) more.2
        (step_tells done step steps host next at takes more.1 (steps_on conduct counted_of steps next last more.2).grown told)

  -- ---- the workers of a server

  among_at : {A : Type 0} (items : List A) (item : A) (k : ℕ) → k < length items → slice_index_or items k item ≡ item
      → IsAmong items item
  among_at [] item k within is = absurd (omega (arith, within))
  among_at (one ∷ items) item zero within is = ([], items, ap (λ y. y ∷ items) is)
  among_at (one ∷ items) item (suc k) within is =
      let rest = among_at items item k (omega (arith, within)) is in
      (one ∷ rest.0, rest.1, ap (λ (l : List _). one ∷ l) rest.2)

  module _ (world : World) (begun log : Log) (most : ℕ) (calls : ListenerHistory) (past : Option ListenerHistory)
      (tells : past ≡ Some calls) (coming_are : world.coming ≡ map incoming_of calls.coming)
      (inputs : (wire : Connected) → IsAmong calls.coming wire → (stream : List ℕ) × (wire.input ≡ Some stream)) where
    abbrev pub terms : Terms
    terms = record { catalogue = world.catalogue; starts = begun; most = most }

    module _ (run : WorkerRun Host) (is : IsWorkerRun conduct count_told terms past log run) where
      call_came : (number : ℕ) (peer : Peer) (talk : Talk conduct count_told terms past log run is number peer) (turn : Turn)
          → IsAmong (exchanges_of peer (turns_of (talk.earlier ++ deeds_of number run.steps))) (exchange_of peer turn)
          → CallCame world Stream (exchange_of peer turn)
      call_came number peer talk turn among =
          let has : Contains calls.coming talk.came =
          subst (λ (o : Option ListenerHistory). IsExpected o talk.came) tells talk.expected in
          let place = among_at calls.coming talk.came has.0 has.1 has.2 in
          let told = inputs talk.came place in
          let turns = turns_of (talk.earlier ++ deeds_of number run.steps) in
          let cut = talk.is_cut in
          let read = bytes_taken talk.before.source.input talk.cut.wire.source.input told.0 (cut.spelled ++ talk.cut.incoming)
          (talk.whole ∙ told.1) cut.read in
          let bytes : told.0 ≡ cut.spelled ++ (talk.cut.incoming ++ read.0) =
          read.2 ∙ append_assoc cut.spelled talk.cut.incoming read.0 in
          let came : unwrap_or talk.came.input [] ≡ cut.spelled ++ (talk.cut.incoming ++ read.0) =
          told_input talk.came.input told.0 told.1 ∙ bytes in (
            incoming_of talk.came,
            (
              map incoming_of place.0,
              map incoming_of place.1,
              coming_are ∙ ap (map incoming_of) place.2 ∙ map-append incoming_of place.0 (talk.came ∷ place.1),
            ),
            sym talk.peer_is,
            exchanges_of peer turns,
            among,
            talk.cut.incoming ++ read.0,
            subst (λ (l : List ℕ). BeginsWith l (exchanges_of peer turns) (talk.cut.incoming ++ read.0)) (sym came)
                (framed_begins peer turns cut.spelled (talk.cut.incoming ++ read.0) cut.framed),
          )

      carried_so : (before : List WorkerStep) (number : ℕ) (peer : Peer) (taken : Taken) (wire : Wire) (after : List WorkerStep)
          (mid next : Host) → run.steps ≡ before ++ Did number peer (Carried taken wire) ∷ after
          → TakesSteps conduct counted_of before run.first.host mid → (carries : CarriesOut conduct taken peer mid next)
          → IsFront (known conduct next) (known conduct run.last.host)
          → IsOfCall world hosts begun log carries.carried.call_back
      carried_so before number peer taken wire after mid next at takes carries goes =
          let talk = talk_at conduct count_told terms past log run is before number peer (Carried taken wire) after at in
          let was = talk_took conduct count_told terms past log run is before number peer taken wire after mid at takes talk in
          let catalogue : catalogue_of conduct mid ≡ world.catalogue =
          (steps_on conduct counted_of before run.first.host mid takes).catalogue ∙ is.under.catalogue in
          let upto = front_then (known conduct next) (known conduct run.last.host) log goes is.front in
          record {
            path = Stream;
            one = exchange_of peer was.turn;
            came = call_came number peer talk was.turn was.among;
            front = was.front;
            begins = was.begins;
            ends = front_then was.front (known conduct mid) log was.ends
                (front_then (known conduct mid) (known conduct next) log carries.grown upto);
            reply = was.answer;
            taken = taken;
            takes = was.takes;
            before = known conduct mid;
            after = known conduct next;
            known = was.ends;
            entered = upto;
            tells = subst (λ (c : Catalogue). TellsOf c.own taken peer carries.carried.call_back (known conduct mid) (known conduct next))
                catalogue carries.carried.tells;
            status = subst (λ (c : Catalogue). HasStatus c hosts taken carries.carried.call_back.stat (known conduct mid)
                (known conduct next)) catalogue carries.carried.status;
          }

      run_tells : AllByRecursion (IsOfCall world hosts begun log) run.last.host.told
      run_tells =
          let none : run.first.host.told ≡ [] = ap (λ (c : Counted). c.told) is.from_none in
          steps_tell (IsOfCall world hosts begun log) run.steps run.first.host run.last.host carried_so [] run.steps run.first.host
          refl refl is.takes (subst (λ (l : List CallBack). AllByRecursion (IsOfCall world hosts begun log) l) (sym none) tt)

    -- all of them
    pub runs_tell : (runs : List (WorkerRun Host)) (sum : Counted) → All (IsWorkerRun conduct count_told terms past log) runs
        → AllByRecursion (IsOfCall world hosts begun log) sum.told
        → AllByRecursion (IsOfCall world hosts begun log)
        (fold (λ (sum : Counted) (run : WorkerRun Host). counted_plus sum (counted_of run.last.host)) sum runs).told
    runs_tell [] sum work told = told
    runs_tell (run ∷ runs) sum work told =
        runs_tell runs (counted_plus sum (counted_of run.last.host)) (λ k d within. work (suc k) d (omega (arith, within)))
        (all_both (IsOfCall world hosts begun log) sum.told run.last.host.told told (run_tells run (work 0 run (omega arith))))
