-- The connections of a server are served.
use Rattle.std.proofs.Common.{◌≡◌, ℕ, suc, Bool, true, false, List, [], ◌∷◌, ◌++◌, Option, Some, None, refl, sym, ap, ◌∙◌, subst, arith, inl, inr, ⊎_elim, append_assoc}
use Rattle.std.specs.Prelude.{Contains}
use Rattle.std.specs.List.{All, AllByRecursion, AllZip, flat_map}
use Rattle.std.specs.Io.KnownBytes.{Appends, IsAtEnd, append_known}
use Rattle.std.proofs.lemmas.List.{append-nil}
use Rattle.yp_io.specs.declared.stream.Peer.{Peer}
use Rattle.yp_io.specs.Calls.{ClosedConnection, ListenerHistory}
use Rattle.yp_rpc.specs.Records.{IsRest, IsTorn, IsLong}
use Rattle.yp_board.specs.Catalogues.{Catalogue}
use Rattle.yp_board.specs.Logs.{Log}
use Rattle.yp_answer.specs.Numbers.{record_max}
use Rattle.yp_answer.specs.declared.session.session.End.{End}
use Rattle.yp_answer.specs.declared.session.session.End.TheVariants as ends
use Rattle.yp_answer.specs.session.Hosts.{Conduct, Turn}
use Rattle.yp_answer.specs.session.Wires.{Wire}
use Rattle.yp_answer.specs.session.Runs.{sent_reply}
use Rattle.yp_answer.specs.session.Cuts.{Deed, turns_of, Cut, AreFramed, messages_of, IsCut, EndsSo, IsAtRest}
use Rattle.yp_answer.specs.session.Cuts as cuts
use Rattle.yp_worker.specs.Working.{deeds_of}
use Rattle.yp_worker.specs.Receptions.{Terms}
use Rattle.yp_worker.specs.Summing.{Counting, ServedConnection, WorkerRun, IsWorkerRun, WasServed, IsOver, ends_of}
use Rattle.yp_headline.specs.World.{Connection}
use Rattle.yp_headline.specs.Serving.{BeginsWith, IsServed}
use Rattle.yp_headline.specs.inside.Server.{IsToldClosed, IsOfClosed}
use Rattle.yp_headline.proofs.Runs.{sent_over, exchanges_of, all_callers, taken, ended}
use Rattle.yp_headline.proofs.Steps.{of_steps, had_answered}

-- ---- the bytes of a conversation

pub framed_begins : (peer : Peer) (turns : List Turn) (spelled rest : List ℕ) → AreFramed (messages_of turns) spelled
    → BeginsWith (spelled ++ rest) (exchanges_of peer turns) rest
framed_begins peer [] spelled rest framed = ap (λ (l : List ℕ). l ++ rest) framed
framed_begins peer (turn ∷ turns) spelled rest framed = (
  framed.0,
  framed.1 ++ rest,
  framed.2,
  ap (λ (l : List ℕ). l ++ rest) framed.3 ∙ append_assoc framed.0 framed.1 rest,
  framed_begins peer turns framed.1 rest framed.4,
)

sent_same : (peer : Peer) (turns : List Turn) → sent_over (exchanges_of peer turns) ≡ cuts.sent_over turns
sent_same peer [] = refl
sent_same peer (turn ∷ turns) = ap (λ (l : List ℕ). sent_reply turn.answer ++ l) (sent_same peer turns)

-- what the sink took and what is owed
owed_behind : (output : Option (List ℕ)) (owed put : List ℕ) → Appends (Some []) (append_known output owed) put → (sent : List ℕ)
    → output ≡ Some sent → put ≡ sent ++ owed
owed_behind None owed put appends sent is = absurd cc
owed_behind (Some bytes) owed put appends sent is =
    let same : bytes ≡ sent = cc in sym appends ∙ ap (λ (l : List ℕ). l ++ owed) same

-- what is known of a conversation that is cut
record Parts (peer : Peer) (turns : List Turn) (came sent : List ℕ) (now : Cut) : Type 0 where
  left : List ℕ
  left_is : now.wire.source.input ≡ Some left
  lost : List ℕ
  begins : BeginsWith came (exchanges_of peer turns) (now.incoming ++ left)
  all : sent_over (exchanges_of peer turns) ≡ sent ++ (now.owed ++ (now.rest ++ lost))
  whole : now.broken ≡ false → lost ≡ []

parts_of : (peer : Peer) (before : Wire) (deeds : List Deed) (now : Cut) (came sent : List ℕ) → before.source.input ≡ Some came
    → before.sink.output ≡ Some [] → now.wire.sink.output ≡ Some sent → IsCut before deeds now
    → Parts peer (turns_of deeds) came sent now
parts_of peer before deeds now came sent input untaken output is =
    let read = taken before.source.input now.wire.source.input came (is.spelled ++ now.incoming) input is.read in
    let put = owed_behind now.wire.sink.output now.owed is.put
    (subst (λ (o : Option (List ℕ)). Appends o (cuts.written now) is.put) untaken is.wrote) sent output in
    let came_is : came ≡ is.spelled ++ (now.incoming ++ read.0) = read.2 ∙ append_assoc is.spelled now.incoming read.0 in
    record {
      left = read.0;
      left_is = read.1;
      lost = is.lost;
      begins = subst (λ (l : List ℕ). BeginsWith l (exchanges_of peer (turns_of deeds)) (now.incoming ++ read.0)) (sym came_is)
          (framed_begins peer (turns_of deeds) is.spelled (now.incoming ++ read.0) is.framed);
      all = sent_same peer (turns_of deeds) ∙ is.replied ∙ ap (λ (l : List ℕ). l ++ (now.rest ++ is.lost)) put
          ∙ append_assoc sent now.owed (now.rest ++ is.lost);
      whole = is.whole;
    }

-- nothing is missing of one that is at rest
nothing_missing : (before : Wire) (deeds : List Deed) (now : Cut) → IsCut before deeds now → IsAtRest now → (lost : List ℕ)
    → (now.broken ≡ false → lost ≡ []) → now.owed ++ (now.rest ++ lost) ≡ []
nothing_missing before deeds now is rest lost whole =
    let settled = is.settled rest.settled in
    ap (λ (l : List ℕ). l ++ (now.rest ++ lost)) settled.0 ∙ ap (λ (l : List ℕ). l ++ lost) settled.1 ∙ whole settled.2

long_behind : (incoming left : List ℕ) → IsLong record_max incoming → IsLong record_max (incoming ++ left)
long_behind incoming left long = (
  long.0,
  long.1 ++ left,
  long.2,
  ap (λ (l : List ℕ). l ++ left) long.3 ∙ append_assoc long.0 long.1 left,
)

-- how it ended
record Closing (peer : Peer) (turns : List Turn) (came sent : List ℕ) : Type 0 where
  cut : Bool
  rest : List ℕ
  begins : BeginsWith came (exchanges_of peer turns) rest
  missing : List ℕ
  all : sent_over (exchanges_of peer turns) ≡ sent ++ missing
  whole : cut ≡ false → IsRest record_max rest × (missing ≡ [])

module _ (peer : Peer) (before : Wire) (deeds : List Deed) (now : Cut) (came sent : List ℕ) (is : IsCut before deeds now)
    (parts : Parts peer (turns_of deeds) came sent now) where
  cut_short : Closing peer (turns_of deeds) came sent
  cut_short = record {
    cut = true;
    rest = now.incoming ++ parts.left;
    begins = parts.begins;
    missing = now.owed ++ (now.rest ++ parts.lost);
    all = parts.all;
    whole = λ e. absurd cc;
  }

  closed_whole : IsRest record_max (now.incoming ++ parts.left) → IsAtRest now → Closing peer (turns_of deeds) came sent
  closed_whole rest at_rest = record {
    cut = false;
    rest = now.incoming ++ parts.left;
    begins = parts.begins;
    missing = now.owed ++ (now.rest ++ parts.lost);
    all = parts.all;
    whole = λ uncut. (rest, nothing_missing before deeds now is at_rest parts.lost parts.whole);
  }

  none_left : IsAtEnd now.wire.source.input → now.incoming ++ parts.left ≡ now.incoming
  none_left at_end = ap (λ (l : List ℕ). now.incoming ++ l) (ended now.wire.source.input parts.left parts.left_is at_end)
      ∙ append-nil now.incoming

  closed_by : (most : ℕ) (end : End) → EndsSo most end now → Closing peer (turns_of deeds) came sent
  closed_by most ends.Clean so = closed_whole (inl (none_left so.2 ∙ so.1)) so.0
  closed_by most (ends.Torn at) so =
      closed_whole (inr (inl (subst (λ (l : List ℕ). IsTorn record_max l) (sym (none_left so.3)) so.2))) so.1
  closed_by most (ends.TooLong at) so = closed_whole (inr (inr (long_behind now.incoming parts.left so.2))) so.1
  closed_by most ends.ReadFault so = cut_short
  closed_by most ends.WriteFault so = cut_short
  closed_by most ends.Enough so = cut_short

  closing : (most : ℕ) (let_go : Bool) → (let_go ≡ false → IsOver most now) → Closing peer (turns_of deeds) came sent
  closing most true over = cut_short
  closing most false over = ⊎_elim (λ so. closed_by most so.0 so.1) (λ broken. cut_short) (over refl)

-- ---- a connection of a worker

-- Each connection that was closed was served: its records were answered in turn on fronts of one log that never go
-- back.
pub record ConnectionsAreServed (catalogue : Catalogue) (begun log : Log) (closed : List ClosedConnection) : Type 0
  where
    pub connections : List Connection
    pub are : AllZip IsOfClosed closed connections
    pub served : AllByRecursion (IsServed catalogue begun log) connections

record Made (catalogue : Catalogue) (begun log : Log) (closed : ClosedConnection) : Type 0 where
  connection : Connection
  of_closed : IsOfClosed closed connection
  served : IsServed catalogue begun log connection

module _ {H T : Type 0} (conduct : Conduct H) (counting : Counting H T) (terms : Terms) (past : Option ListenerHistory)
    (log : Log) where
  made : (run : WorkerRun H) (is : IsWorkerRun conduct counting terms past log run) (stay : ServedConnection)
      → Contains run.stays stay → WasServed conduct counting terms past run.steps stay → IsToldClosed stay.ended
      → Made terms.catalogue terms.starts log stay.ended
  made run is stay among was told =
      let peer = stay.ended.came.peer in
      let deeds = was.earlier ++ deeds_of stay.number run.steps in
      let input = was.whole ∙ told.input in
      let untaken = was.untaken ∙ told.untaken in
      let output : was.cut.wire.sink.output ≡ Some told.sent =
      ap (λ (c : ClosedConnection). c.wire.output) (sym was.ended) ∙ told.output in
      let parts = parts_of peer was.before deeds was.cut told.came told.sent input untaken output was.is_cut in
      let close = closing peer was.before deeds was.cut told.came told.sent was.is_cut parts terms.most stay.let_go was.over in
      record {
        connection = record { peer = peer; came = told.came; sent = told.sent; cut = close.cut };
        of_closed = record { peer = refl; input = told.input; output = told.output };
        served = record {
          exchanges = exchanges_of peer (turns_of deeds);
          callers = all_callers peer (turns_of deeds);
          rest = close.rest;
          came = close.begins;
          answered = had_answered conduct counting terms stay.number peer was.earlier run.first.host run.last.host log
              is.under.catalogue is.front run.steps is.under.knows is.takes
              (of_steps conduct counting.counted run.stays run.left is.apart stay among run.steps is.owned) was.began;
          unsent = close.missing;
          sent = close.all;
          whole = close.whole;
        };
      }

  -- ---- all of a worker, and of all workers

  add : (closed : ClosedConnection) (others : List ClosedConnection) → Made terms.catalogue terms.starts log closed
      → ConnectionsAreServed terms.catalogue terms.starts log others
      → ConnectionsAreServed terms.catalogue terms.starts log (closed ∷ others)
  add closed others one rest = record {
    connections = one.connection ∷ rest.connections;
    are = (one.of_closed, rest.are);
    served = (one.served, rest.served);
  }

  put_before : (closed others : List ClosedConnection) (connections : List Connection) → AllZip IsOfClosed closed connections
      → AllByRecursion (IsServed terms.catalogue terms.starts log) connections
      → ConnectionsAreServed terms.catalogue terms.starts log others
      → ConnectionsAreServed terms.catalogue terms.starts log (closed ++ others)
  put_before [] others connections are served rest = rest
  put_before (one ∷ closed) others [] are served rest = absurd are
  put_before (one ∷ closed) others (connection ∷ connections) are served rest =
      let later = put_before closed others connections are.1 served.1 rest in
      record {
        connections = connection ∷ later.connections;
        are = (are.0, later.are);
        served = (served.0, later.served);
      }

  abbrev ToldAll : List ClosedConnection → Type 0
  ToldAll closed = AllByRecursion IsToldClosed closed

  of_worker : (run : WorkerRun H) (is : IsWorkerRun conduct counting terms past log run) (stays : List ServedConnection)
      → ((stay : ServedConnection) → Contains stays stay → Contains run.stays stay) → All (WasServed conduct counting terms past run.steps) stays
      → ToldAll (ends_of stays) → ConnectionsAreServed terms.catalogue terms.starts log (ends_of stays)
  of_worker run is [] among served told = record { connections = []; are = tt; served = tt }
  of_worker run is (stay ∷ stays) among served told = add stay.ended (ends_of stays)
      (made run is stay (among stay (0, omega arith, refl)) (served 0 stay (omega arith)) told.0)
      (of_worker run is stays (λ other is'. among other (suc is'.0, omega (arith, is'.1), is'.2))
      (λ k d within. served (suc k) d (omega (arith, within))) told.1)

  told_front : (front back : List ClosedConnection) → ToldAll (front ++ back) → ToldAll front
  told_front [] back told = tt
  told_front (one ∷ front) back told = (told.0, told_front front back told.1)

  told_back : (front back : List ClosedConnection) → ToldAll (front ++ back) → ToldAll back
  told_back [] back told = told
  told_back (one ∷ front) back told = told_back front back told.1

  -- the connections that workers closed, one worker's after the other's
  abbrev pub closed_by_all : List (WorkerRun H) → List ClosedConnection
  closed_by_all runs = flat_map (λ run. ends_of run.stays) runs

  pub all_served : (runs : List (WorkerRun H)) → All (IsWorkerRun conduct counting terms past log) runs
      → ToldAll (closed_by_all runs) → ConnectionsAreServed terms.catalogue terms.starts log (closed_by_all runs)
  all_served [] work told = record { connections = []; are = tt; served = tt }
  all_served (run ∷ runs) work told =
      let is = work 0 run (omega arith) in
      let here = of_worker run is run.stays (λ stay among. among) is.served (told_front (ends_of run.stays) (closed_by_all runs) told) in
      put_before (ends_of run.stays) (closed_by_all runs) here.connections here.are here.served
      (all_served runs (λ k d within. work (suc k) d (omega (arith, within))) (told_back (ends_of run.stays) (closed_by_all runs) told))
