-- The laws of the queries.
use Rattle.std.proofs.Common.{◌≡◌, ℕ, ℤ, ◌+◌, ◌%◌, ◌^◌, ◌≤◌, Bool, true, false, cond, List, [], ◌∷◌, ◌++◌, length, Option, Some, None, Result, Ok, Err, refl, sym, ap, ◌∙◌, subst, arith, inl, inr, ◌⊎◌}
use Rattle.std.specs.Prelude.{⊤, IsOk, IfOk}
use Rattle.std.specs.Borrow.{Bor}
use Rattle.std.proofs.lemmas.List.{length-append}
use Rattle.yp_io.specs.declared.stream.Peer.{Peer}
use Rattle.yp_io.specs.Dials.{WireState, Connected, connected, Wires, Dialing, WireComes, GoesBack}
use Rattle.yp_messages.specs.declared.stat.YpStat.{YpStat}
use Rattle.yp_messages.specs.declared.maplist.MapList.{MapList}
use Rattle.yp_version.specs.Rows.{Row, listed}
use Rattle.yp_version.specs.Versions.{MapVersion}
use Rattle.yp_version.specs.Drafts.{Draft}
use Rattle.yp_version.specs.inside.Laws.{RisingStays}
use Rattle.yp_client.specs.declared.fault.ClientFault.{ClientFault}
use Rattle.yp_client.specs.declared.fault.ClientFault.TheVariants.{Yp, NoMemory as ClientNoMemory}
use Rattle.yp_client.specs.Limits.{reply_max, all_max}
use Rattle.yp_client.specs.States.{ClientState, IsFirst}
use Rattle.yp_messages.specs.declared.transfer.XfrStat.{XfrStat}
use Rattle.yp_messages.specs.Transfers.{xfr_number}
use Rattle.yp_client.specs.Results.{Says, SaysInMemory, value_of, master_of, order_of, maps_of, taken_of, made_of}
use Rattle.yp_client.specs.Said.{SaysNumber, SaysBytes, SaysNames, SaysStat}
use Rattle.yp_client.specs.All.{AllSaid, all_said, IsSaid, SaysAll}
use Rattle.yp_client.specs.Asked.{all_call, match_call, master_call, order_call, maplist_call, pull_request, pull_call, make_named_call}
use Rattle.yp_client.specs.Calls.{Calls}
use Rattle.yp_client.specs.declared.query.fault.QueryFault.TheVariants.{Dial}
use Rattle.yp_client.specs.declared.question.Question.TheVariants.{Cat, Catk, Match, Which, Poll, Maps as MapsOf}
use Rattle.yp_client.specs.declared.question.Question.TheVariants.{Innetgr, Pull, Make}
use Rattle.yp_client.specs.query.Lines.{line, lines, standing_text}
use Rattle.yp_client.specs.query.Faults.{query_fault, match_fault}
use Rattle.yp_client.specs.query.Asked.{QueryOutcome, told_by, no_rows, TakesRows, MakesMaster, MakesCalls}
use Rattle.yp_client.specs.query.Asked.{rows_told, membership_told, netgroup, transfer_told, making_told}
use Rattle.yp_client.specs.Questions.{ByteQuestion}
use Rattle.yp_client.specs.inside.Questions.{QuestionIsWithin}
use Rattle.yp_client.specs.query.Complete.{HasCome}
use Rattle.yp_client.specs.query.Asked.{Converses}
use Rattle.yp_client.specs.query.Scenes.{Exchanges}
use Rattle.yp_answer.specs.Maps.{Maps, map_check, row_check}
use Rattle.yp_answer.specs.Transfer.{xfr_check}
use Rattle.yp_answer.specs.declared.make.MakeJob.{MakeJob}
use Rattle.yp_answer.specs.Make.{make_check}
use Rattle.yp_answer.specs.Reply.{Response, make_reply, make_response}
use Rattle.yp_answer.specs.Served.{AreServed}
use Rattle.yp_end_to_end.specs.exchange.Told.{told, of_version, value_in, all_in, master_in, order_in, names_in, stat_told, made_told}
use Rattle.yp_end_to_end.specs.inside.exchange.Told.{all_told}
use Rattle.yp_end_to_end.specs.inside.exchange.Served.{DraftHasRoom, reply_made, MakesReply}
use Rattle.yp_end_to_end.specs.exchange.Answered.{standing_told, text_told, IsOutcomeOf}
use Rattle.yp_end_to_end.specs.inside.exchange.Answered.{GivesReply, GivesStanding, GivesReplies}
use Rattle.yp_end_to_end.specs.inside.exchange.Laws.{MatchTells, AllTells, RoomForVersion, MasterTells, OrderTells}
use Rattle.yp_end_to_end.specs.inside.exchange.Laws.{MaplistTells, PullTells, MakeHasResponse, MakeTells}
use Rattle.yp_end_to_end.specs.inside.exchange.QueryLaws.{CallsAreTold, QueryPrintsTold}
use Rattle.yp_end_to_end.proofs.exchange.Sound.{IsSound, row_sound}
use Rattle.yp_end_to_end.proofs.exchange.Hearing.{Records, Heard, IsWireFault, call_heard}
use Rattle.yp_end_to_end.proofs.exchange.Queries.{comes_same, comes_in_memory, tells_at_once, tells_of, says_in_memory, viewed, Passes, wire_comes, memory_comes, call_means, call_comes}
use Rattle.yp_end_to_end.proofs.exchange.Transfers.{one_stat}

-- what the replies to the calls of a question say
pub record Replies : Type 0 where
  pub value : MatchTells
  pub all : AllTells
  pub room : RoomForVersion
  pub master : MasterTells
  pub order : OrderTells
  pub names : MaplistTells
  pub pull : PullTells
  pub make : MakeHasResponse
  pub made : MakeTells

-- and the laws of rows and records
pub record Laws : Type 0 where
  pub replies : Replies
  pub stays : RisingStays
  pub records : Records

fault_passes : Passes query_fault
fault_passes = record { memory = refl; reading = refl; writing = refl }

match_passes : Passes match_fault
match_passes = record { memory = refl; reading = refl; writing = refl }

-- bytes that are lent want no memory
bytes_said : (said : ℕ → List ℕ → Result (List ℕ) ClientFault) (xid : ℕ) (message : List ℕ) (answer : Result (Bor (List ℕ)) ClientFault) → SaysBytes said xid message answer
    → SaysInMemory (λ (bytes : Bor (List ℕ)). bytes.now) (said xid message) answer
bytes_said said xid message answer says = says_in_memory (λ (bytes : Bor (List ℕ)). bytes.now) (said xid message) answer says

-- nor does a status
says_stat : (said : ℕ → List ℕ → Result ℤ ClientFault) (xid : ℕ) (message : List ℕ) (answer : Result XfrStat ClientFault) → SaysStat said xid message answer → SaysInMemory xfr_number (said xid message) answer
says_stat said xid message answer says = says_in_memory xfr_number (said xid message) answer says

-- the status with a number is what is told
stat_meant : (domain map : List ℕ) (stat : XfrStat) (answer : Result XfrStat ClientFault) → viewed xfr_number answer ≡ Ok (xfr_number stat)
    → told_by query_fault (transfer_told domain map) answer ≡ transfer_told domain map stat
stat_meant domain map stat (Ok other) is = let same : xfr_number other ≡ xfr_number stat = cc in ap (transfer_told domain map) (one_stat other stat same)
stat_meant domain map stat (Err fault) is = absurd cc

-- the same of a map that was made
made_meant : (domain map : List ℕ) (stat : XfrStat) (answer : Result XfrStat ClientFault) → viewed xfr_number answer ≡ Ok (xfr_number stat)
    → told_by query_fault (making_told domain map) answer ≡ making_told domain map stat
made_meant domain map stat (Ok other) is = let same : xfr_number other ≡ xfr_number stat = cc in ap (making_told domain map) (one_stat other stat same)
made_meant domain map stat (Err fault) is = absurd cc

-- the reply to a call that makes a map has the status that is told
pub response_made : (xid : ℕ) (made : XfrStat) (check : Result MakeJob XfrStat) → reply_made made (make_response xid check) ≡ Some (make_reply xid (made_told made check))
response_made xid made (Ok job) = refl
response_made xid made (Err stat) = refl

-- and says it
pub made_tells : Replies → (maps : Maps) (peer : Peer) (made : XfrStat) (domain map bytes : List ℕ) → AreServed maps → length domain ≤ 64 → length map ≤ 64
    → MakesReply maps peer made (make_named_call domain map 1) bytes → made_of 1 bytes ≡ Ok (xfr_number (made_told made (make_check maps.catalogue peer domain (Some map))))
made_tells laws maps peer made domain map bytes served d m replied =
    let check = make_check maps.catalogue peer domain (Some map) in
    let is = ap (reply_made made) (laws.make maps peer 1 domain served (omega arith) d map m) ∙ response_made 1 made check in
    let same : bytes ≡ make_reply 1 (made_told made check) = let e : Some bytes ≡ Some (make_reply 1 (made_told made check)) = sym replied ∙ is in cc in
    ap (made_of 1) same ∙ (laws.made 1 (made_told made check) (omega arith)).says

-- ---- rows

-- an answer of ALL is what is said, unless memory ran out
rows_in_memory : (said : AllSaid) (draft : Draft) (rows : ℕ) (answer : Result (Unit {0}) ClientFault) → IsSaid said draft rows answer
    → (said ≡ record { draft = draft; rows = rows; end = answer }) ⊎ (answer ≡ Err ClientNoMemory)
rows_in_memory said draft rows (Ok done) says = inl says
rows_in_memory said draft rows (Err ClientNoMemory) says = inr refl
rows_in_memory said draft rows (Err fault) says = inl says

-- the rows of a version stand in the builder, in their order
rows_meant : RisingStays → (means : List Row → QueryOutcome) (held : Result MapVersion YpStat) (draft : Draft) (rows : ℕ) (answer : Result (Unit {0}) ClientFault) → IsSound held
    → record { draft = draft; rows = rows; end = answer } ≡ all_told no_rows held
    → told_by query_fault (λ _. means (listed draft.rows)) answer ≡ told_by query_fault means (told (of_version all_in held))
rows_meant stays means (Ok version) draft rows (Ok done) is said =
    let same : draft.rows ≡ version.rows = ap (λ (s : AllSaid). s.draft.rows) said in
    ap (λ (all : List Row). means (listed all)) same ∙ ap means (stays version.rows is.rising)
rows_meant stays means (Ok version) draft rows (Err fault) is said = absurd (let ends : Err fault ≡ Ok tt = ap (λ (s : AllSaid). s.end) said in cc)
rows_meant stays means (Err stat) draft rows (Ok done) is said = absurd (let ends : Ok done ≡ Err (Yp stat) = ap (λ (s : AllSaid). s.end) said in cc)
rows_meant stays means (Err stat) draft rows (Err fault) is said =
    let ends : Err fault ≡ Err (Yp stat) = ap (λ (s : AllSaid). s.end) said in
    let same : fault ≡ Yp stat = cc in
    ap (λ (f : ClientFault). Err (query_fault f)) same

-- any master is as long as none
any_master : (held : Result MapVersion YpStat) → IfOk held (λ version. 0 ≤ length version.master)
any_master (Ok version) = omega arith
any_master (Err stat) = tt

-- a builder of a question has room for the rows of every version
pub no_rows_room : RoomForVersion → (maps : Maps) (port : ℕ) (domain map : List ℕ) → AreServed maps → DraftHasRoom no_rows (row_check maps port domain map)
no_rows_room law maps port domain map served = law maps port domain map 0 [] served (any_master (row_check maps port domain map))

rows_come : Laws → (maps : Maps) (peer : Peer) (means : List Row → QueryOutcome) (domain map stream : List ℕ) (outcome : QueryOutcome) (old new : ClientState) → AreServed maps → length domain ≤ 64 → length map ≤ 64
    → GivesReply maps peer all_max (all_call domain map 1) stream (λ rest. ⊤) → IsFirst old → old.wire.input ≡ Some stream → TakesRows means domain map outcome old new
    → IsOutcomeOf (told_by query_fault means (told (of_version all_in (row_check maps peer.port domain map)))) outcome
rows_come laws maps peer means domain map stream outcome old new served d m good first told_input takes =
    let held = row_check maps peer.port domain map in
    let sound = row_sound maps peer.port domain map served in
    let answer = takes.makes.answer in
    let to = told_by query_fault means (told (of_version all_in held)) in
    let meant : Unit {0} → QueryOutcome = λ done. means (listed takes.draft.rows) in
    let says : all_said no_rows 1 good.reply ≡ all_told no_rows held =
    tells_of maps peer all_max (all_call domain map 1) (all_said no_rows 1) (all_told no_rows held) good.reply
    (laws.replies.all maps peer 1 domain served (omega arith) d map m no_rows (no_rows_room laws.replies.room maps peer.port domain map served)) good.good.0 in
    comes_in_memory to (told_by query_fault meant answer) outcome
    (elim (call_heard laws.records all_max stream _ good (all_call domain map) (SaysAll no_rows takes.draft) old new told_input answer takes.makes.calls first.spent) [
      | inr failed ↦ wire_comes to query_fault meant answer fault_passes failed
      | inl heard ↦ elim (rows_in_memory (all_said no_rows old.xid good.reply) takes.draft heard.by_reply.0 answer heard.by_reply.1) [
        | inr none ↦ memory_comes to query_fault meant answer fault_passes none
        | inl is ↦ comes_same to (told_by query_fault meant answer)
            (rows_meant laws.stays means held takes.draft heard.by_reply.0 answer sound (sym is ∙ ap (λ (xid : ℕ). all_said no_rows xid good.reply) first.xid ∙ says))
      ]
    ]) takes.makes.meant

-- ---- an order, and then a master

-- an order that is said is the answer
number_said : (said : Result ℕ ClientFault) (answer : Result ℕ ClientFault) → Says (λ n. n) said answer → said ≡ answer
number_said said (Ok n) says = says
number_said said (Err fault) says = says

-- a map that has an order is there
order_there : (held : Result MapVersion YpStat) (order : ℕ) → Ok order ≡ told (of_version order_in held) → IsOk held
order_there (Ok version) order is = refl
order_there (Err stat) order is = absurd (let same : Ok order ≡ Err (Yp stat) = is in cc)

-- a second call of a client that was heard goes on
goes_on : {X : Type 0} (limit : ℕ) (call : ℕ → List ℕ) (answers : ℕ → List ℕ → Result X ClientFault → Type 0) (x : X) (old new : ClientState) → Calls limit call answers (Ok x) old new → IsFirst old
    → (new.xid ≡ 2) × (new.spent ≡ false)
goes_on limit call answers x old new calls first =
    (calls.xid ∙ ap (λ (b : Bool). cond b old.xid ((old.xid + 1) % 2 ^ 32)) first.spent ∙ ap (λ (n : ℕ). (n + 1) % 2 ^ 32) first.xid, calls.spent)

module _ (laws : Laws) (first second : Maps) (peer : Peer) (domain map stream : List ℕ) (one : AreServed first) (other : AreServed second) (d : length domain ≤ 64) (m : length map ≤ 64)
    (good : GivesStanding first second peer domain map stream)
    (outcome : QueryOutcome) (old mid new : ClientState) (begins : IsFirst old) (told_input : old.wire.input ≡ Some stream) where
  -- the order that is told, and the master
  abbrev order_told : Result ℕ ClientFault
  order_told = told (of_version order_in (map_check first domain map))

  abbrev master_told : Result (List ℕ) ClientFault
  master_told = told (of_version master_in (map_check second domain map))

  order_says : order_of 1 good.reply ≡ order_told
  order_says =
      tells_of first peer reply_max (order_call domain map 1) (order_of 1) order_told good.reply
      (laws.replies.order first peer 1 domain one (omega arith) d map m) good.good.0

  -- an answer that was heard is what is told
  order_is : (order : Result ℕ ClientFault) → SaysNumber order_of old.xid good.reply order → order ≡ order_told
  order_is order says =
      sym (number_said (order_of old.xid good.reply) order says) ∙ ap (λ (xid : ℕ). order_of xid good.reply) begins.xid ∙ order_says

  master_comes : (order : ℕ) → Calls reply_max (order_call domain map) (SaysNumber order_of) (Ok order) old mid → Heard (SaysNumber order_of old.xid good.reply (Ok order)) good.rest mid
      → MakesMaster domain map (Ok order) outcome mid new → IsOutcomeOf (standing_told (Ok order) master_told) outcome
  master_comes order calls heard follows =
      let next = goes_on reply_max (order_call domain map) (SaysNumber order_of) order old mid calls begins in
      let there : GivesReply second peer reply_max (master_call domain map 2) good.rest (λ behind. ⊤) = good.good.1 (order_there (map_check first domain map) order (order_is (Ok order) heard.by_reply)) in
      let says : master_of 2 there.reply ≡ master_told =
      tells_of second peer reply_max (master_call domain map 2) (master_of 2) master_told there.reply
      (laws.replies.master second peer 2 domain other (omega arith) d map m) there.good.0 in
      call_comes laws.records reply_max 2 good.rest _ there (master_call domain map) (λ (bytes : Bor (List ℕ)). bytes.now) master_of (SaysBytes master_of) query_fault (standing_text order) master_told outcome mid new
      (bytes_said master_of) fault_passes follows heard.left next.1 next.0 says

  order_comes : (order : Result ℕ ClientFault) → Heard (SaysNumber order_of old.xid good.reply order) good.rest mid ⊎ IsWireFault order
      → Calls reply_max (order_call domain map) (SaysNumber order_of) order old mid → MakesMaster domain map order outcome mid new → IsOutcomeOf (standing_told order_told master_told) outcome
  order_comes (Ok order) (inl heard) calls follows =
      subst (λ (said : Result ℕ ClientFault). IsOutcomeOf (standing_told said master_told) outcome) (order_is (Ok order) heard.by_reply) (master_comes order calls heard follows)
  order_comes (Ok order) (inr failed) calls follows = absurd failed
  order_comes (Err fault) (inl heard) calls follows =
      comes_same (standing_told order_told master_told) outcome
      (follows.0 ∙ ap (λ (said : Result ℕ ClientFault). standing_told said master_told) (order_is (Err fault) heard.by_reply))
  order_comes (Err fault) (inr failed) calls follows =
      subst (IsOutcomeOf (standing_told order_told master_told)) (sym follows.0)
      (wire_comes (standing_told order_told master_told) query_fault (λ (n : ℕ). Ok []) (Err fault) fault_passes failed)

  pub polls_come : (order : Result ℕ ClientFault) → Calls reply_max (order_call domain map) (SaysNumber order_of) order old mid → MakesMaster domain map order outcome mid new
      → IsOutcomeOf (standing_told order_told master_told) outcome
  polls_come order calls follows =
      order_comes order (call_heard laws.records reply_max stream _ good (order_call domain map) (SaysNumber order_of) old mid told_input order calls begins.spent) calls follows

-- ---- each question

module _ (laws : Laws) (first second : Maps) (peer : Peer) (made : XfrStat) (stream : List ℕ) (outcome : QueryOutcome) (old new : ClientState) (one : AreServed first) (other : AreServed second) (begins : IsFirst old) (told_input : old.wire.input ≡ Some stream) where
  calls_come : (question : ByteQuestion) → QuestionIsWithin question → GivesReplies first second peer made question stream → MakesCalls question outcome old new → IsOutcomeOf (text_told first second peer made question) outcome
  calls_come (Cat domain map) within good makes = rows_come laws first peer (rows_told false) domain map stream outcome old new one within.0 within.1 good begins told_input makes
  calls_come (Catk domain map) within good makes = rows_come laws first peer (rows_told true) domain map stream outcome old new one within.0 within.1 good begins told_input makes
  calls_come (Innetgr domain group host user user_domain) within good makes =
      rows_come laws first peer (membership_told group (record { host = host; user = user; domain = user_domain })) domain netgroup stream outcome old new one within (omega arith) good begins told_input makes
  calls_come (Match domain map key) within good makes =
      let expected = told (of_version (value_in key) (row_check first peer.port domain map)) in
      call_comes laws.records reply_max 1 stream _ good (match_call domain map key) (λ (bytes : Bor (List ℕ)). bytes.now) value_of (SaysBytes value_of) match_fault line expected outcome old new
      (bytes_said value_of) match_passes makes told_input begins.spent begins.xid
      (tells_of first peer reply_max (match_call domain map key 1) (value_of 1) expected good.reply
      (laws.replies.value first peer 1 domain one (omega arith) within.0 map within.1 key within.2) good.good.0)
  calls_come (Which domain map) within good makes =
      let expected = told (of_version master_in (map_check first domain map)) in
      call_comes laws.records reply_max 1 stream _ good (master_call domain map) (λ (bytes : Bor (List ℕ)). bytes.now) master_of (SaysBytes master_of) query_fault line expected outcome old new
      (bytes_said master_of) fault_passes makes told_input begins.spent begins.xid
      (tells_of first peer reply_max (master_call domain map 1) (master_of 1) expected good.reply
      (laws.replies.master first peer 1 domain one (omega arith) within.0 map within.1) good.good.0)
  calls_come (Poll domain map) within good makes =
      polls_come laws first second peer domain map stream one other within.0 within.1 good outcome old makes.mid new begins told_input makes.order makes.calls makes.follows
  calls_come (MapsOf domain) within good makes =
      let expected = told (names_in first domain) in
      call_comes laws.records reply_max 1 stream _ good (maplist_call domain) (λ (list : MapList). list.maps) maps_of (SaysNames maps_of) query_fault lines expected outcome old new
      (λ xid message answer says. says) fault_passes makes told_input begins.spent begins.xid
      (tells_of first peer reply_max (maplist_call domain 1) (maps_of 1) expected good.reply
      (laws.replies.names first peer 1 domain one (omega arith) within) good.good.0)
  calls_come (Pull domain map source) within good makes =
      let stat = stat_told (xfr_check first (pull_request domain map source)) in
      call_means laws.records reply_max 1 stream _ good (pull_call domain map source) xfr_number taken_of (SaysStat taken_of) query_fault (transfer_told domain map) (Ok (xfr_number stat)) (transfer_told domain map stat) outcome old new
      (says_stat taken_of) fault_passes (stat_meant domain map stat) makes told_input begins.spent begins.xid
      (tells_at_once first peer reply_max (pull_call domain map source 1) (taken_of 1) (Ok (xfr_number stat)) good.reply
      (laws.replies.pull first peer 1 domain one (omega arith) within.0 map within.1 source within.2) good.good.0)
  calls_come (Make domain map) within good makes =
      let stat = made_told made (make_check first.catalogue peer domain (Some map)) in
      call_means laws.records reply_max 1 stream _ good (make_named_call domain map) xfr_number made_of (SaysStat made_of) query_fault (making_told domain map) (Ok (xfr_number stat)) (making_told domain map stat) outcome old new
      (says_stat made_of) fault_passes (made_meant domain map stat) makes told_input begins.spent begins.xid
      (made_tells laws.replies first peer made domain map good.reply one within.0 within.1 good.good)

pub calls_are_told : Laws → CallsAreTold
calls_are_told laws first second peer made question stream outcome old new one other within good begins told_input (inl makes) =
    calls_come laws first second peer made stream outcome old new one other begins told_input question within good makes
calls_are_told laws first second peer made question stream outcome old new one other within good begins told_input (inr none) =
    subst (IsOutcomeOf (text_told first second peer made question)) (sym none.0) tt

-- ---- the wire that came

last_same : {A : Type 0} (xs : List A) (x y : A) → xs ++ x ∷ [] ≡ xs ++ y ∷ [] → x ≡ y
last_same [] x y e = cc
last_same (z ∷ xs) x y e = let rest : xs ++ x ∷ [] ≡ xs ++ y ∷ [] = cc in last_same xs x y rest

-- the wire that came is the one to that peer, which gives the stream
wire_is : (wire other : Connected) (last : WireState) (mid : Option Wires) (before after : Wires)
    → WireComes wire (Some before) mid → GoesBack last mid (Some after) → after.came ≡ before.came ++ other ∷ []
    → wire ≡ other
wire_is wire other last None before after comes back came = absurd comes
wire_is wire other last (Some others) before after comes back came =
    let mine : others.came ≡ before.came ++ wire ∷ [] = ap (λ (w : Wires). w.came) comes in
    let kept : after.came ≡ others.came = ap (λ (w : Wires). w.came) back in
    last_same before.came wire other (sym mine ∙ sym kept ∙ came)

-- where no wire came, none did
none_came : (peer : Peer) (stream : List ℕ) (old new : Option Wires) → HasCome peer stream old new → new ≡ old → ⊥
none_came peer stream old new came same =
    let e : Some came.after ≡ Some came.before = sym came.is ∙ same ∙ came.was in
    let both : came.after ≡ came.before = cc in
    omega (arith, ap (λ (w : Wires). length w.came) both, ap length came.came, length-append came.before.came (connected peer (Some stream) came.sent ∷ []))

exchange_told : CallsAreTold → (first second : Maps) (server caller : Peer) (made : XfrStat) (question : ByteQuestion) (stream : List ℕ) (outcome : QueryOutcome) (old new : Dialing) → AreServed first → AreServed second
    → QuestionIsWithin question → GivesReplies first second caller made question stream → HasCome server stream old.past new.past → Exchanges server (Converses question) outcome old new → IsOutcomeOf (text_told first second caller made question) outcome
exchange_told laws first second server caller made question stream outcome old new one other within good came did =
    let wire : Connected = connected server did.first.wire.input did.first.wire.output in
    let comes : WireComes wire (Some came.before) did.dialed.middle = subst (λ (w : Option Wires). WireComes wire w did.dialed.middle) came.was did.dialed.comes in
    let back : GoesBack did.last.wire did.dialed.middle (Some came.after) = subst (λ (w : Option Wires). GoesBack did.last.wire did.dialed.middle w) came.is did.dialed.goes_back in
    let same = wire_is wire (connected server (Some stream) came.sent) did.last.wire did.dialed.middle came.before came.after comes back came.came in
    laws first second caller made question stream outcome did.first did.last one other within good did.dialed.begins (ap (λ (d : Connected). d.input) same) did.converses

pub query_prints_told : CallsAreTold → QueryPrintsTold
query_prints_told laws first second server caller made question stream (Err Dial) old new one other within good came asks = absurd (none_came server stream old.dial.past new.dial.past came asks.0.none)
query_prints_told laws first second server caller made question stream (Err fault) old new one other within good came asks =
    record { outcome = asks.0; comes_to = exchange_told laws first second server caller made question stream asks.0 old.dial new.dial one other within good came asks.1; prints = asks.2 }
query_prints_told laws first second server caller made question stream (Ok done) old new one other within good came asks =
    record { outcome = asks.0; comes_to = exchange_told laws first second server caller made question stream asks.0 old.dial new.dial one other within good came asks.1; prints = asks.2 }
