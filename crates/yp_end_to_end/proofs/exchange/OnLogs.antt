-- The laws of a server's run on logs.
use Rattle.std.proofs.Common.{◌≡◌, ℕ, ◌≤◌, List, [], ◌∷◌, length, Option, Some, None, Result, Ok, Err, refl, sym, ap, ◌∙◌, subst, arith, All}
use Rattle.std.specs.Prelude.{◌≢◌}
use Rattle.std.specs.List.{cons_option}
use Rattle.std.proofs.lemmas.List.{append-nil}
use Rattle.std.proofs.lemmas.List.Elements.{All-nil, All-cons, All-head, All-tail}
use Rattle.yp_io.specs.declared.stream.Peer.{Peer}
use Rattle.yp_board.specs.Catalogues.{Catalogue}
use Rattle.yp_board.specs.Logs.{Log}
use Rattle.yp_board.specs.Views.{IsFront}
use Rattle.yp_client.specs.declared.fault.ClientFault.{ClientFault}
use Rattle.yp_client.specs.Results.{order_of}
use Rattle.yp_client.specs.Asked.{all_call, match_call, master_call, order_call, maplist_call, pull_call, make_named_call}
use Rattle.yp_client.specs.declared.question.Question.TheVariants.{Cat, Catk, Match, Which, Poll, Maps as MapsOf}
use Rattle.yp_client.specs.declared.question.Question.TheVariants.{Innetgr, Pull, Make}
use Rattle.yp_client.specs.Questions.{ByteQuestion}
use Rattle.yp_client.specs.inside.Questions.{QuestionIsWithin}
use Rattle.yp_answer.specs.declared.procedure.Path.TheVariants.{Stream}
use Rattle.yp_answer.specs.Maps.{Maps}
use Rattle.yp_messages.specs.declared.transfer.XfrStat.{XfrStat}
use Rattle.yp_answer.specs.declared.make.MakeJob.{MakeJob}
use Rattle.yp_answer.specs.Make.{make_check}
use Rattle.yp_answer.specs.Reply.{Response, Silence, Bytes, Takes, Open, reply, reply_at_once, make_reply, make_response}
use Rattle.yp_answer.specs.Served.{maps_on}
use Rattle.yp_client.specs.query.Asked.{netgroup}
use Rattle.yp_answer.specs.session.Hosts.{Turn}
use Rattle.yp_answer.specs.session.LogRuns.{Gets, LogRun}
use Rattle.yp_end_to_end.specs.exchange.Runs.{behind_order, poll_calls, calls_made}
use Rattle.yp_end_to_end.specs.inside.exchange.Runs.{RepliesInTurn, Inquiry, inquiry_of, RepliesOn}
use Rattle.yp_end_to_end.specs.inside.exchange.QueryLaws.{RunIsPrinted}
use Rattle.yp_end_to_end.specs.exchange.LogRuns.{records_of, replies_of, AnsweredOn}
use Rattle.yp_end_to_end.specs.inside.exchange.LogRuns.{RepliesAtOnce, GetsReply, IsRepliedTo, HasReply, IsAnswered}
use Rattle.yp_end_to_end.specs.inside.exchange.Laws.{MakeHasResponse}
use Rattle.yp_end_to_end.specs.inside.exchange.RunLaws.{MatchHasReply, AllHasReply, MasterHasReply, OrderHasReply}
use Rattle.yp_end_to_end.specs.inside.exchange.RunLaws.{MaplistHasReply, PullHasReply, RunIsInTurn, RunIsOnLogs}
use Rattle.yp_end_to_end.specs.inside.exchange.RunLaws.{LogRunIsPrinted}
use Rattle.yp_end_to_end.proofs.exchange.Running.{front_then, served_before, gets_bytes}

-- ---- a run

-- a run goes from a log to one that begins with it
log_front : (catalogue : Catalogue) (peer : Peer) (turns : List Turn) (before after : Log) → LogRun catalogue Stream peer turns before after → IsFront before after
log_front catalogue peer [] before after run = ([], run ∙ sym (append-nil before))
log_front catalogue peer (turn ∷ turns) before after run =
    front_then before run.0 after (front_then before run.1.log run.0 run.1.begins run.1.goes_on) (log_front catalogue peer turns run.0 after run.2)

-- a record that isn't met by silence got a reply
has_reply : (catalogue : Catalogue) (response : Response) (answer : Option (List ℕ)) (log next : Log) → response ≢ Silence → Gets catalogue response answer log next → (bytes : List ℕ) × (answer ≡ Some bytes)
has_reply catalogue Silence answer log next some gets = absurd (some refl)
has_reply catalogue (Bytes reply) answer log next some gets = (reply, gets)
has_reply catalogue (Takes reply taken) answer log next some gets = (reply, gets)
has_reply catalogue (Open xid job) answer log next some gets = (make_reply xid gets.0, gets.1)

pub run_is_in_turn : RunIsInTurn
run_is_in_turn catalogue peer [] before after served run all = log_front catalogue peer [] before after run
run_is_in_turn catalogue peer (turn ∷ turns) before after served run all =
    let one = run.1 in
    let maps = maps_on catalogue one.log in
    let behind = front_then one.log run.0 after one.goes_on (log_front catalogue peer turns run.0 after run.2) in
    let some = All-head (IsAnswered peer) turn.message (records_of turns) all maps (served_before catalogue one.log after behind served) in
    let rest = run_is_in_turn catalogue peer turns run.0 after served run.2 (All-tail (IsAnswered peer) turn.message (records_of turns) all) in
    let response = reply Stream maps peer turn.message in
    let has = has_reply catalogue response turn.answer one.log run.0 some one.gets in
    let got : Gets catalogue response (Some has.0) one.log run.0 = subst (λ (answer : Option (List ℕ)). Gets catalogue response answer one.log run.0) has.1 one.gets in
    subst (λ (answer : Option (List ℕ)). RepliesInTurn catalogue peer (turn.message ∷ records_of turns) (cons_option answer (replies_of turns)) before after) (sym has.1)
    (one.log, run.0, one.begins, one.goes_on, got, rest)

-- ---- a run with its logs

later_on : (inquiry : Inquiry) (calls replies : List (List ℕ)) (logs : List Log) (first second last : Log)
    → IsFront first second → RepliesOn inquiry calls replies logs second last
    → RepliesOn inquiry calls replies logs first last
later_on inquiry [] [] [] first second last front run = front_then first second last front run
later_on inquiry [] [] (log ∷ logs) first second last front run = absurd run
later_on inquiry [] (bytes ∷ replies) logs first second last front run = absurd run
later_on inquiry (call ∷ calls) [] logs first second last front run = absurd run
later_on inquiry (call ∷ calls) (bytes ∷ replies) [] first second last front run = absurd run
later_on inquiry (call ∷ calls) (bytes ∷ replies) (log ∷ logs) first second last front run =
    (front_then first second log front run.0, run.1, run.2)

answered_front : (catalogue : Catalogue) (peer : Peer) (turns : List Turn) (logs : List Log) (before after : Log)
    → AnsweredOn catalogue peer turns logs before after → IsFront before after
answered_front catalogue peer [] [] before after run = ([], run ∙ sym (append-nil before))
answered_front catalogue peer [] (log ∷ logs) before after run = absurd run
answered_front catalogue peer (turn ∷ turns) [] before after run = absurd run
answered_front catalogue peer (turn ∷ turns) (log ∷ logs) before after run =
    front_then before run.0 after (front_then before run.1.log run.0 run.1.begins run.1.goes_on)
    (answered_front catalogue peer turns logs run.0 after run.3)

pub run_is_on_logs : RunIsOnLogs
run_is_on_logs catalogue peer [] [] before after served run all = answered_front catalogue peer [] [] before after run
run_is_on_logs catalogue peer [] (log ∷ logs) before after served run all = absurd run
run_is_on_logs catalogue peer (turn ∷ turns) [] before after served run all = absurd run
run_is_on_logs catalogue peer (turn ∷ turns) (log ∷ logs) before after served run all =
    let one = run.1 in
    let maps = maps_on catalogue one.log in
    let behind = front_then one.log run.0 after one.goes_on (answered_front catalogue peer turns logs run.0 after run.3) in
    let has = All-head (IsRepliedTo peer) turn.message (records_of turns) all maps (served_before catalogue one.log after behind served) in
    let rest = run_is_on_logs catalogue peer turns logs run.0 after served run.3 (All-tail (IsRepliedTo peer) turn.message (records_of turns) all) in
    let inquiry = inquiry_of catalogue peer in
    let later = later_on inquiry (records_of turns) (replies_of turns) logs one.log run.0 after one.goes_on rest in
    let got = gets_bytes catalogue (reply Stream maps peer turn.message) has.0 turn.answer one.log run.0 has.1 one.gets in
    let calls = turn.message ∷ records_of turns in
    let here : RepliesOn inquiry calls (has.0 ∷ replies_of turns) (one.log ∷ logs) before after =
    (one.begins, has.1, later) in
    subst (λ (l : Log). RepliesOn inquiry calls (cons_option turn.answer (replies_of turns)) (l ∷ logs) before after) run.2
    (subst
    (λ (answer : Option (List ℕ)). RepliesOn inquiry calls (cons_option answer (replies_of turns)) (one.log ∷ logs) before after)
    (sym got) here)

-- ---- the calls of a question

-- the calls of a question have replies
pub record Replied : Type 0 where
  pub value : MatchHasReply
  pub all : AllHasReply
  pub master : MasterHasReply
  pub order : OrderHasReply
  pub names : MaplistHasReply
  pub pull : PullHasReply
  pub make : MakeHasResponse

-- a reply at once is no silence
replied_at_once : (maps : Maps) (peer : Peer) (message : List ℕ) → GetsReply maps peer message → HasReply maps peer message
replied_at_once maps peer message one silent = let e : None ≡ Some one.0 = sym (ap reply_at_once silent) ∙ one.1 in absurd cc

gets_reply : (maps : Maps) (peer : Peer) (message : List ℕ) → RepliesAtOnce maps peer message → HasReply maps peer message
gets_reply maps peer message one = replied_at_once maps peer message (one.0, ap reply_at_once one.1)

-- nor is that of a map that is made first
made_reply : (xid : ℕ) (check : Result MakeJob XfrStat) → make_response xid check ≢ Silence
made_reply xid (Ok job) silent = absurd cc
made_reply xid (Err stat) silent = absurd cc

module _ (laws : Replied) (peer : Peer) where
  one_call : (call : List ℕ) → IsAnswered peer call → All (IsAnswered peer) (call ∷ [])
  one_call call is = All-cons (IsAnswered peer) call [] is (All-nil (IsAnswered peer))

  behind_replied : (domain map : List ℕ) (said : Result ℕ ClientFault) → length domain ≤ 64 → length map ≤ 64 → All (IsAnswered peer) (behind_order (master_call domain map 2) said)
  behind_replied domain map (Ok order) d m = one_call (master_call domain map 2) (λ maps served. gets_reply maps peer (master_call domain map 2) (laws.master maps peer 2 domain served (omega arith) d map m))
  behind_replied domain map (Err fault) d m = All-nil (IsAnswered peer)

  order_replied : (domain map : List ℕ) → length domain ≤ 64 → length map ≤ 64 → IsAnswered peer (order_call domain map 1)
  order_replied domain map d m maps served = gets_reply maps peer (order_call domain map 1) (laws.order maps peer 1 domain served (omega arith) d map m)

  poll_replied : (domain map : List ℕ) (replies : List (List ℕ)) → length domain ≤ 64 → length map ≤ 64 → All (IsAnswered peer) (poll_calls domain map replies)
  poll_replied domain map [] d m = one_call (order_call domain map 1) (order_replied domain map d m)
  poll_replied domain map (bytes ∷ replies) d m =
      All-cons (IsAnswered peer) (order_call domain map 1) (behind_order (master_call domain map 2) (order_of 1 bytes)) (order_replied domain map d m) (behind_replied domain map (order_of 1 bytes) d m)

  calls_replied : (question : ByteQuestion) (replies : List (List ℕ)) → QuestionIsWithin question → All (IsAnswered peer) (calls_made question replies)
  calls_replied (Cat domain map) replies within = one_call (all_call domain map 1) (λ maps served. gets_reply maps peer (all_call domain map 1) (laws.all maps peer 1 domain served (omega arith) within.0 map within.1))
  calls_replied (Catk domain map) replies within = one_call (all_call domain map 1) (λ maps served. gets_reply maps peer (all_call domain map 1) (laws.all maps peer 1 domain served (omega arith) within.0 map within.1))
  calls_replied (Innetgr domain group host user user_domain) replies within = one_call (all_call domain netgroup 1) (λ maps served. gets_reply maps peer (all_call domain netgroup 1) (laws.all maps peer 1 domain served (omega arith) within netgroup (omega arith)))
  calls_replied (Match domain map key) replies within = one_call (match_call domain map key 1) (λ maps served. gets_reply maps peer (match_call domain map key 1) (laws.value maps peer 1 domain served (omega arith) within.0 map within.1 key within.2))
  calls_replied (Which domain map) replies within = one_call (master_call domain map 1) (λ maps served. gets_reply maps peer (master_call domain map 1) (laws.master maps peer 1 domain served (omega arith) within.0 map within.1))
  calls_replied (Poll domain map) replies within = poll_replied domain map replies within.0 within.1
  calls_replied (MapsOf domain) replies within = one_call (maplist_call domain 1) (λ maps served. gets_reply maps peer (maplist_call domain 1) (laws.names maps peer 1 domain served (omega arith) within))
  calls_replied (Pull domain map source) replies within = one_call (pull_call domain map source 1) (λ maps served. replied_at_once maps peer (pull_call domain map source 1) (laws.pull maps peer 1 domain served (omega arith) within.0 map within.1 source within.2))
  calls_replied (Make domain map) replies within = one_call (make_named_call domain map 1)
      (λ maps served silent. made_reply 1 (make_check maps.catalogue peer domain (Some map)) (sym (laws.make maps peer 1 domain served (omega arith) within.0 map within.1) ∙ silent))

pub log_run_is_printed : Replied → RunIsInTurn → RunIsPrinted → LogRunIsPrinted
log_run_is_printed replied in_turn printed catalogue server caller question turns rest before after result old new within answers came asks =
    let calls = calls_made question (replies_of turns) in
    let all = subst (λ (records : List (List ℕ)). All (IsAnswered caller) records) (sym answers.calls) (calls_replied replied caller question (replies_of turns) within) in
    let run = subst (λ (records : List (List ℕ)). RepliesInTurn catalogue caller records (replies_of turns) before after) answers.calls
    (in_turn catalogue caller turns before after answers.served answers.run all) in
    printed catalogue server caller question (replies_of turns) rest before after result old new answers.served within run came asks
