-- What is fetched over a wire that gives what a server sent in a run over the calls of the fetch.
use Rattle.std.proofs.Common.{◌≡◌, ◌⊎◌, inl, inr, ⊎_elim, ℕ, ◌≤◌, List, [], ◌∷◌, ◌++◌, length, Option, Some, None, Result, Ok, Err}
use Rattle.std.proofs.Common.{sym, ap, ◌∙◌, subst, arith, length-append, All}
use Rattle.std.proofs.lemmas.List.Elements.{All-nil, All-cons}
use Rattle.yp_io.specs.declared.stream.Peer.{Peer}
use Rattle.yp_io.specs.Dials.{Wires, WireState, Connected, connected, WireComes, GoesBack, Dialing}
use Rattle.yp_version.specs.Versions.{MapVersion}
use Rattle.yp_client.specs.Asked.{order_call, master_call, all_call}
use Rattle.yp_client.specs.query.Complete.{HasCome}
use Rattle.yp_board.specs.Logs.{Log}
use Rattle.yp_answer.specs.Maps.{Maps}
use Rattle.yp_answer.specs.Reply.{reply_at_once}
use Rattle.yp_answer.specs.Served.{AreServed, maps_on}
use Rattle.yp_end_to_end.specs.exchange.Runs.{sent_all}
use Rattle.yp_end_to_end.specs.inside.exchange.Runs.{inquiry_of, RepliesOn}
use Rattle.yp_end_to_end.specs.exchange.LogRuns.{replies_of}
use Rattle.yp_end_to_end.specs.inside.exchange.LogRuns.{RepliesAtOnce, GetsReply, IsRepliedTo}
use Rattle.yp_end_to_end.specs.inside.exchange.RunLaws.{AllHasReply, MasterHasReply, OrderHasReply, RunIsOnLogs}
use Rattle.yp_io.specs.Counts.{HasRisen}
use Rattle.yp_transfer.specs.declared.fault.XfrFault.{XfrFault}
use Rattle.yp_transfer.specs.declared.fault.XfrFault.TheVariants.{Rpc, NoMemory}
use Rattle.yp_transfer.specs.Fetching.{Wanted, FetchOutcome}
use Rattle.yp_transfer.specs.Fetched.{place_of, Fetched}
use Rattle.yp_transfer.specs.Dialing.{FetchesOnWire, ByAddress, sought}
use Rattle.yp_end_to_end.specs.transfer.Replies.{IsShown}
use Rattle.yp_end_to_end.specs.inside.transfer.Laws.{FetchedIsShown}
use Rattle.yp_end_to_end.specs.transfer.Turns.{fetch_calls}
use Rattle.yp_end_to_end.specs.inside.transfer.Turns.{TurnsGiveFetch}
use Rattle.yp_end_to_end.specs.inside.transfer.Runs.{WireIsFetched, RunIsFetched}

-- ---- the wire that came

last_same : {A : Type 0} (xs : List A) (x y : A) → xs ++ x ∷ [] ≡ xs ++ y ∷ [] → x ≡ y
last_same [] x y e = cc
last_same (z ∷ xs) x y e = let rest : xs ++ x ∷ [] ≡ xs ++ y ∷ [] = cc in last_same xs x y rest

-- the wire that came is the one to that peer, which gives the stream
wire_is : (wire other : Connected) (last : WireState) (mid : Option Wires) (before after : Wires)
    → WireComes wire (Some before) mid → GoesBack last mid (Some after) → after.came ≡ before.came ++ other ∷ []
    → wire ≡ other
wire_is wire other last None before after comes back came = absurd comes
wire_is wire other last (Some others) before after comes back came =
    let mine : others.came ≡ before.came ++ wire ∷ [] = ap (λ (w : Wires). w.came) comes in
    let kept : after.came ≡ others.came = ap (λ (w : Wires). w.came) back in
    last_same before.came wire other (sym mine ∙ sym kept ∙ came)

-- so its bytes say what is fetched
on_wire : (peer server : Peer) (wanted : Wanted) (outcome : FetchOutcome) (stream : List ℕ) (old new : Dialing)
    → HasCome server stream old.past new.past → FetchesOnWire peer wanted outcome old new
    → Fetched wanted (place_of 1 0 stream) outcome ⊎ ((outcome ≡ Err Rpc) × HasRisen old.faults new.faults)
    ⊎ (outcome ≡ Err NoMemory)
on_wire peer server wanted outcome stream old new came did =
    let wire = connected peer did.first.wire.input did.first.wire.output in
    let comes = subst (λ (w : Option Wires). WireComes wire w did.dialed.middle) came.was did.dialed.comes in
    let back = subst (λ (w : Option Wires). GoesBack did.last.wire did.dialed.middle w) came.is did.dialed.goes_back in
    let same = wire_is wire (connected server (Some stream) came.sent) did.last.wire did.dialed.middle came.before
    came.after comes back came.came in
    let said = did.fetched stream (ap (λ (w : Connected). w.input) same) in
    let placed = subst (λ (n : ℕ). Fetched wanted (place_of n did.first.place stream) outcome) did.dialed.begins.xid in
    let from_first = subst (λ (n : ℕ). Fetched wanted (place_of 1 n stream) outcome) did.dialed.begins.place in
    ⊎_elim (λ fetched. inl (from_first (placed fetched)))
    (λ failed. ⊎_elim (λ wire. inr (inl (wire.0, did.cause wire))) (λ memory. inr (inr memory)) failed) said

-- where no wire came, none did
none_came : (peer : Peer) (stream : List ℕ) (old new : Option Wires) → HasCome peer stream old new → new ≡ old → ⊥
none_came peer stream old new came same =
    let e : Some came.after ≡ Some came.before = sym came.is ∙ same ∙ came.was in
    let both : came.after ≡ came.before = cc in
    omega (
      arith,
      ap (λ (w : Wires). length w.came) both,
      ap length came.came,
      length-append came.before.came (connected peer (Some stream) came.sent ∷ []),
    )

by_address : (address : Result Peer XfrFault) (server : Peer) (wanted : Wanted) (outcome : FetchOutcome)
    (stream : List ℕ) (old new : Dialing) → HasCome server stream old.past new.past
    → ByAddress wanted address outcome old new
    → Fetched wanted (place_of 1 0 stream) outcome ⊎ ((outcome ≡ Err Rpc) × HasRisen old.faults new.faults)
    ⊎ (outcome ≡ Err NoMemory)
by_address (Err why) server wanted outcome stream old new came did =
    absurd (none_came server stream old.past new.past came (ap (λ (d : Dialing). d.past) did.1))
by_address (Ok peer) server wanted outcome stream old new came (inl none) =
    absurd (none_came server stream old.past new.past came none.1.none)
by_address (Ok peer) server wanted outcome stream old new came (inr did) =
    on_wire peer server wanted outcome stream old new came did

pub wire_is_fetched : WireIsFetched
wire_is_fetched server stream hosts name wanted outcome old new came fetches =
    by_address (sought wanted name hosts) server wanted outcome stream old new came fetches

-- a version that came is what they say
version_said : (wanted : Wanted) (stream : List ℕ) (version : MapVersion) (Risen : Type 0)
    → Fetched wanted (place_of 1 0 stream) (Ok version) ⊎ ((Ok version ≡ Err Rpc) × Risen)
    ⊎ (Ok version ≡ Err NoMemory) → Fetched wanted (place_of 1 0 stream) (Ok version)
version_said wanted stream version Risen (inl fetched) = fetched
version_said wanted stream version Risen (inr (inl failed)) = absurd (let no = failed.0 in cc)
version_said wanted stream version Risen (inr (inr memory)) = absurd cc

-- ---- the calls of a fetch

-- the calls of a fetch have replies
pub record Replied : Type 0 where
  pub order : OrderHasReply
  pub master : MasterHasReply
  pub all : AllHasReply

gets_reply : (maps : Maps) (peer : Peer) (message : List ℕ) → RepliesAtOnce maps peer message
    → GetsReply maps peer message
gets_reply maps peer message one = (one.0, ap reply_at_once one.1)

module _ (laws : Replied) (peer : Peer) where
  pub fetch_replied : (domain map : List ℕ) → length domain ≤ 64 → length map ≤ 64
      → All (IsRepliedTo peer) (fetch_calls domain map 1)
  fetch_replied domain map d m =
      let order : (xid : ℕ) → xid ≤ 4 → IsRepliedTo peer (order_call domain map xid) =
      λ xid few maps served. gets_reply maps peer (order_call domain map xid)
      (laws.order maps peer xid domain served (omega (arith, few)) d map m) in
      let master : IsRepliedTo peer (master_call domain map 2) =
      λ maps served. gets_reply maps peer (master_call domain map 2)
      (laws.master maps peer 2 domain served (omega arith) d map m) in
      let all : IsRepliedTo peer (all_call domain map 3) =
      λ maps served. gets_reply maps peer (all_call domain map 3)
      (laws.all maps peer 3 domain served (omega arith) d map m) in
      let fourth = order_call domain map 4 ∷ [] in
      let third = all_call domain map 3 ∷ fourth in
      let second = master_call domain map 2 ∷ third in
      All-cons (IsRepliedTo peer) (order_call domain map 1) second (order 1 (omega arith))
      (All-cons (IsRepliedTo peer) (master_call domain map 2) third master
      (All-cons (IsRepliedTo peer) (all_call domain map 3) fourth all
      (All-cons (IsRepliedTo peer) (order_call domain map 4) [] (order 4 (omega arith)) (All-nil (IsRepliedTo peer)))))

pub run_is_fetched : Replied → RunIsOnLogs → TurnsGiveFetch → FetchedIsShown → WireIsFetched → RunIsFetched
run_is_fetched replied on_logs turns_give shown by_wire catalogue server caller hosts name wanted run rest version old
    new d m answers came fetches =
    let replies = replies_of run.turns in
    let stream = sent_all replies ++ rest in
    let each = subst (λ (records : List (List ℕ)). All (IsRepliedTo caller) records) (sym answers.calls)
    (fetch_replied replied caller wanted.domain wanted.map d m) in
    let inquiry = inquiry_of catalogue caller in
    let answered = subst
    (λ (records : List (List ℕ)). RepliesOn inquiry records replies run.logs run.before run.after) answers.calls
    (on_logs catalogue caller run.turns run.logs run.before run.after answers.served answers.answered each) in
    let gives = turns_give catalogue caller wanted.domain wanted.map 1 replies rest run.logs run.before run.after
    answers.served answers.rises (omega arith) d m answered in
    let fronts = gives.0 in
    let served = subst (λ (log : Log). AreServed (maps_on catalogue log)) (sym gives.1) answers.served in
    let fetched = version_said wanted stream version _
    (by_wire server stream hosts name wanted (Ok version) old new came fetches) in
    let is = shown catalogue fronts caller wanted 1 0 stream version served (omega arith) d m gives.3 fetched in
    let On : Log → Type 0 = λ log. IsShown wanted is.0 (maps_on catalogue log) in
    record {
      source = is.0;
      shown = subst (λ (ls : List Log). All On ls) (sym gives.2)
          (All-cons On fronts.first (fronts.second ∷ fronts.third ∷ fronts.fourth ∷ []) is.1.first
          (All-cons On fronts.second (fronts.third ∷ fronts.fourth ∷ []) is.1.second
          (All-cons On fronts.third (fronts.fourth ∷ []) is.1.third
          (All-cons On fronts.fourth [] is.1.fourth (All-nil On)))));
      same = is.2;
    }
