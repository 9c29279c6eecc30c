-- The law of a server that answers the calls of a question in turn.
use Rattle.std.proofs.Common.{◌≡◌, ℕ, ◌≤◌, List, [], ◌∷◌, ◌++◌, length, Option, Some, Result, Ok, Err, refl, sym, ap, ◌∙◌, subst, arith, append_assoc, All}
use Rattle.std.specs.Prelude.{⊤, IsOk}
use Rattle.std.proofs.lemmas.List.{append-nil}
use Rattle.std.proofs.lemmas.List.Elements.{All-nil, All-cons, All-head, All-tail}
use Rattle.yp_io.specs.declared.stream.Peer.{Peer}
use Rattle.yp_rpc.specs.Records.{sent}
use Rattle.yp_messages.specs.declared.stat.YpStat.{YpStat}
use Rattle.yp_messages.specs.declared.transfer.XfrStat.{XfrStat}
use Rattle.yp_messages.specs.declared.transfer.XfrStat.TheVariants.{Succ}
use Rattle.yp_version.specs.Versions.{MapVersion, IsVersion}
use Rattle.yp_board.specs.Catalogues.{Catalogue}
use Rattle.yp_board.specs.Logs.{Log}
use Rattle.yp_board.specs.Views.{IsFront}
use Rattle.yp_client.specs.declared.fault.ClientFault.{ClientFault}
use Rattle.yp_client.specs.Limits.{reply_max, all_max}
use Rattle.yp_client.specs.Results.{value_of, master_of, order_of, maps_of, taken_of}
use Rattle.yp_client.specs.All.{all_said}
use Rattle.yp_client.specs.Asked.{all_call, match_call, master_call, order_call, maplist_call, pull_request, pull_call, make_named_call}
use Rattle.yp_messages.specs.Transfers.{xfr_number}
use Rattle.yp_client.specs.declared.question.Question.TheVariants.{Cat, Catk, Match, Which, Poll, Maps as MapsOf}
use Rattle.yp_client.specs.declared.question.Question.TheVariants.{Innetgr, Pull, Make}
use Rattle.yp_client.specs.query.Asked.{no_rows, netgroup}
use Rattle.yp_client.specs.Questions.{ByteQuestion}
use Rattle.yp_client.specs.inside.Questions.{QuestionIsWithin}
use Rattle.yp_answer.specs.Maps.{Maps, map_check, row_check}
use Rattle.yp_answer.specs.Transfer.{xfr_check}
use Rattle.yp_answer.specs.declared.make.MakeJob.{MakeJob}
use Rattle.yp_answer.specs.declared.procedure.Path.TheVariants.{Stream}
use Rattle.yp_answer.specs.Make.{make_check}
use Rattle.yp_answer.specs.Reply.{Response, Silence, Bytes, Takes, Open, reply, reply_at_once, make_reply, make_response}
use Rattle.yp_answer.specs.session.LogRuns.{Gets}
use Rattle.yp_answer.specs.Served.{AreServed, maps_on}
use Rattle.yp_end_to_end.specs.exchange.Told.{told, of_version, value_in, order_in, master_in, names_in, stat_told, made_told}
use Rattle.yp_end_to_end.specs.inside.exchange.Told.{all_told}
use Rattle.yp_end_to_end.specs.inside.exchange.Served.{ReplyTells, RepliesWith, RepliesTelling, reply_made, MakesReply}
use Rattle.yp_client.specs.query.Complete.{BeginsWithReply}
use Rattle.yp_end_to_end.specs.inside.exchange.Answered.{GivesReply, GivesReplies}
use Rattle.yp_end_to_end.specs.exchange.Runs.{sent_all, behind_order, calls_made, JobHasCause, MadeHasCause}
use Rattle.yp_end_to_end.specs.inside.exchange.Runs.{RepliesInTurn}
use Rattle.yp_end_to_end.specs.inside.exchange.QueryLaws.{QueryPrintsTold, RunIsPrinted}
use Rattle.yp_end_to_end.proofs.exchange.Sent.{sent_is_whole}
use Rattle.yp_end_to_end.proofs.exchange.Queries.{at_once, tells_of}
use Rattle.yp_end_to_end.proofs.exchange.Asking.{Replies, no_rows_room, response_made}

-- what the replies to the calls say, and what a question prints
pub record Laws : Type 0 where
  pub replies : Replies
  pub prints : QueryPrintsTold

-- ---- logs that grow

pub front_same : (log : Log) → IsFront log log
front_same log = ([], sym (append-nil log))

pub front_then : (a b c : Log) → IsFront a b → IsFront b c → IsFront a c
front_then a b c one other = (one.0 ++ other.0, other.1 ∙ ap (λ (log : Log). log ++ other.0) one.1 ∙ append_assoc a one.0 other.0)

-- what holds of a log holds of its front
front_all : (P : ℕ × MapVersion → Type 0) (front more : Log) → All P (front ++ more) → All P front
front_all P [] more all = All-nil P
front_all P (entry ∷ front) more all = All-cons P entry front (All-head P entry (front ++ more) all) (front_all P front more (All-tail P entry (front ++ more) all))

pub served_before : (catalogue : Catalogue) (old new : Log) → IsFront old new → AreServed (maps_on catalogue new) → AreServed (maps_on catalogue old)
served_before catalogue old new front served = record {
  catalogue = served.catalogue;
  versions = front_all (λ entry. IsVersion entry.1) old front.0 (subst (λ (log : Log). All (λ entry. IsVersion entry.1) log) front.1 served.versions);
}

-- a run goes from a log to one that begins with it
run_front : (catalogue : Catalogue) (peer : Peer) (calls replies : List (List ℕ)) (old new : Log) → RepliesInTurn catalogue peer calls replies old new → IsFront old new
run_front catalogue peer [] [] old new run = run
run_front catalogue peer [] (bytes ∷ replies) old new run = absurd run
run_front catalogue peer (call ∷ calls) [] old new run = absurd run
run_front catalogue peer (call ∷ calls) (bytes ∷ replies) old new run =
    front_then old run.0 new run.2 (front_then run.0 run.1 new run.3 (run_front catalogue peer calls replies run.1 new run.5))

-- a reply at once is what a record got
pub gets_bytes : (catalogue : Catalogue) (response : Response) (bytes : List ℕ) (answer : Option (List ℕ)) (log next : Log) → reply_at_once response ≡ Some bytes → Gets catalogue response answer log next → answer ≡ Some bytes
gets_bytes catalogue Silence bytes answer log next is gets = absurd cc
gets_bytes catalogue (Bytes reply) bytes answer log next is gets = gets ∙ is
gets_bytes catalogue (Takes reply taken) bytes answer log next is gets = gets ∙ is
gets_bytes catalogue (Open xid job) bytes answer log next is gets = absurd cc

-- so it is the reply that went out at once, where there is one
got_at_once : {V : Type 0} (catalogue : Catalogue) (peer : Peer) (limit : ℕ) (call : List ℕ) (said : List ℕ → V) (expected : V) (bytes : List ℕ) (log next : Log)
    → RepliesTelling (maps_on catalogue log) peer limit call said expected → Gets catalogue (reply Stream (maps_on catalogue log) peer call) (Some bytes) log next → RepliesWith (maps_on catalogue log) peer call bytes
got_at_once catalogue peer limit call said expected bytes log next tells got =
    tells.replied ∙ sym (gets_bytes catalogue (reply Stream (maps_on catalogue log) peer call) tells.bytes (Some bytes) log next tells.replied got)

-- ---- one reply

-- a reply that was sent is given, whole
sent_gives : {V : Type 0} (maps : Maps) (peer : Peer) (limit : ℕ) (call : List ℕ) (said : List ℕ → V) (expected : V) (bytes : List ℕ) (replies : List (List ℕ)) (rest : List ℕ) (P : List ℕ → Type 0)
    → RepliesTelling maps peer limit call said expected → RepliesWith maps peer call bytes → P (sent_all replies ++ rest) → GivesReply maps peer limit call (sent_all (bytes ∷ replies) ++ rest) P
sent_gives maps peer limit call said expected bytes replies rest P tells replied then =
    let same : tells.bytes ≡ bytes = let e : Some tells.bytes ≡ Some bytes = sym tells.replied ∙ replied in cc in
    record {
      reply = bytes;
      bytes = sent bytes;
      rest = sent_all replies ++ rest;
      fragments = sent_is_whole limit bytes (subst (λ (b : List ℕ). length b ≤ limit) same tells.within);
      whole = append_assoc (sent bytes) (sent_all replies) rest;
      good = (replied, then);
    }

-- ---- a question of one call

-- the one call was answered on a log between the old one and the new one, which then was a next one, and its reply was
-- sent
record AnsweredOnce (catalogue : Catalogue) (peer : Peer) (call : List ℕ) (replies : List (List ℕ)) (old new : Log) : Type 0 where
  bytes : List ℕ
  log : Log
  next : Log
  begins : IsFront old log
  goes_on : IsFront log next
  behind : IsFront next new
  ends : IsFront log new
  got : Gets catalogue (reply Stream (maps_on catalogue log) peer call) (Some bytes) log next
  one : replies ≡ bytes ∷ []

answered_once : (catalogue : Catalogue) (peer : Peer) (call : List ℕ) (replies : List (List ℕ)) (old new : Log) → RepliesInTurn catalogue peer (call ∷ []) replies old new
    → AnsweredOnce catalogue peer call replies old new
answered_once catalogue peer call [] old new run = absurd run
answered_once catalogue peer call (bytes ∷ []) old new run =
    record { bytes = bytes; log = run.0; next = run.1; begins = run.2; goes_on = run.3; behind = run.5; ends = front_then run.0 run.1 new run.3 run.5; got = run.4; one = refl }
answered_once catalogue peer call (bytes ∷ other ∷ replies) old new run = absurd run.5

gives_telling : {V : Type 0} (catalogue : Catalogue) (peer : Peer) (limit : ℕ) (call : List ℕ) (said : List ℕ → V) (expected : V) (replies : List (List ℕ)) (rest : List ℕ) (old new : Log)
    (once : AnsweredOnce catalogue peer call replies old new) → RepliesTelling (maps_on catalogue once.log) peer limit call said expected
    → GivesReply (maps_on catalogue once.log) peer limit call (sent_all replies ++ rest) (λ behind. ⊤)
gives_telling catalogue peer limit call said expected replies rest old new once tells =
    subst (λ (all : List (List ℕ)). GivesReply (maps_on catalogue once.log) peer limit call (sent_all all ++ rest) (λ behind. ⊤)) (sym once.one)
    (sent_gives (maps_on catalogue once.log) peer limit call said expected once.bytes [] rest (λ behind. ⊤) tells
    (got_at_once catalogue peer limit call said expected once.bytes once.log once.next tells once.got) tt)

gives_once : {V : Type 0} (catalogue : Catalogue) (peer : Peer) (limit : ℕ) (call : List ℕ) (said : List ℕ → V) (expected : V) (replies : List (List ℕ)) (rest : List ℕ) (old new : Log)
    (once : AnsweredOnce catalogue peer call replies old new) → ReplyTells (maps_on catalogue once.log) peer limit call said expected
    → GivesReply (maps_on catalogue once.log) peer limit call (sent_all replies ++ rest) (λ behind. ⊤)
gives_once catalogue peer limit call said expected replies rest old new once tells =
    gives_telling catalogue peer limit call said expected replies rest old new once (at_once (maps_on catalogue once.log) peer limit call said expected tells)

-- ---- poll

-- a refused map has no order
not_there : (held : Result MapVersion YpStat) (fault : ClientFault) → Err fault ≡ told (of_version order_in held) → IsOk held → ⊥
not_there (Ok version) fault is ok = let same : Err fault ≡ Ok version.order = is in cc
not_there (Err stat) fault is ok = cc

-- where the map is there, the reply to MASTER is given on a log between these two
record SecondGiven (catalogue : Catalogue) (peer : Peer) (call : List ℕ) (held : Result MapVersion YpStat) (stream : List ℕ) (old new : Log) : Type 0 where
  log : Log
  begins : IsFront old log
  ends : IsFront log new
  gives : IsOk held → GivesReply (maps_on catalogue log) peer reply_max call stream (λ behind. ⊤)

second_given : Laws → (catalogue : Catalogue) (peer : Peer) (domain map : List ℕ) (held : Result MapVersion YpStat) (said : Result ℕ ClientFault) (replies : List (List ℕ)) (rest : List ℕ) (old new : Log)
    → AreServed (maps_on catalogue new) → length domain ≤ 64 → length map ≤ 64 → said ≡ told (of_version order_in held) → RepliesInTurn catalogue peer (behind_order (master_call domain map 2) said) replies old new
    → SecondGiven catalogue peer (master_call domain map 2) held (sent_all replies ++ rest) old new
second_given laws catalogue peer domain map held (Ok order) replies rest old new served d m is run =
    let once = answered_once catalogue peer (master_call domain map 2) replies old new run in
    let maps = maps_on catalogue once.log in
    record {
      log = once.log;
      begins = once.begins;
      ends = once.ends;
      gives = λ there. gives_once catalogue peer reply_max (master_call domain map 2) (master_of 2) (told (of_version master_in (map_check maps domain map))) replies rest old new once
          (laws.replies.master maps peer 2 domain (served_before catalogue once.log new once.ends served) (omega arith) d map m);
    }
second_given laws catalogue peer domain map held (Err fault) [] rest old new served d m is run =
    record { log = old; begins = front_same old; ends = run; gives = λ there. absurd (not_there held fault is there) }
second_given laws catalogue peer domain map held (Err fault) (bytes ∷ replies) rest old new served d m is run = absurd run

-- ---- each question

-- the wire gives the replies, on two logs between these two, and of a map that was made between them
record AnswersBetween (catalogue : Catalogue) (peer : Peer) (question : ByteQuestion) (stream : List ℕ) (old new : Log) : Type 0 where
  first : Log
  second : Log
  begins : IsFront old first
  grows : IsFront first second
  ends : IsFront second new
  made : XfrStat
  caused : MadeHasCause catalogue peer question made first second
  answers : GivesReplies (maps_on catalogue first) (maps_on catalogue second) peer made question stream

-- one call that makes no map is answered on one log
once_between : (catalogue : Catalogue) (peer : Peer) (question : ByteQuestion) (call stream : List ℕ) (replies : List (List ℕ)) (old new : Log) (once : AnsweredOnce catalogue peer call replies old new)
    → MadeHasCause catalogue peer question Succ once.log once.log → GivesReplies (maps_on catalogue once.log) (maps_on catalogue once.log) peer Succ question stream → AnswersBetween catalogue peer question stream old new
once_between catalogue peer question call stream replies old new once caused answers =
    record { first = once.log; second = once.log; begins = once.begins; grows = front_same once.log; ends = once.ends; made = Succ; caused = caused; answers = answers }

-- what a call of the make program got is a reply with the status that refuses it, or with that of the map
record MadeBy (catalogue : Catalogue) (check : Result MakeJob XfrStat) (bytes : List ℕ) (log next : Log) : Type 0 where
  made : XfrStat
  caused : JobHasCause catalogue check made log next
  is : bytes ≡ make_reply 1 (made_told made check)

made_by : (catalogue : Catalogue) (check : Result MakeJob XfrStat) (bytes : List ℕ) (log next : Log) → Gets catalogue (make_response 1 check) (Some bytes) log next → MadeBy catalogue check bytes log next
made_by catalogue (Err stat) bytes log next got =
    record { made = stat; caused = tt; is = let e : Some bytes ≡ Some (make_reply 1 stat) = got in cc }
made_by catalogue (Ok job) bytes log next got =
    record { made = got.0; caused = (got.2, got.3); is = let e : Some bytes ≡ Some (make_reply 1 got.0) = got.1 in cc }

module _ (laws : Laws) (catalogue : Catalogue) (peer : Peer) (rest : List ℕ) (old new : Log) (served : AreServed (maps_on catalogue new)) where
  -- the replies to ALL, which `cat` and `catk` ask for
  all_given : (domain map : List ℕ) (replies : List (List ℕ)) → length domain ≤ 64 → length map ≤ 64 → (once : AnsweredOnce catalogue peer (all_call domain map 1) replies old new)
      → GivesReply (maps_on catalogue once.log) peer all_max (all_call domain map 1) (sent_all replies ++ rest) (λ behind. ⊤)
  all_given domain map replies d m once =
      let maps = maps_on catalogue once.log in
      let held = row_check maps peer.port domain map in
      let one = served_before catalogue once.log new once.ends served in
      gives_once catalogue peer all_max (all_call domain map 1) (all_said no_rows 1) (all_told no_rows held) replies rest old new once
      (laws.replies.all maps peer 1 domain one (omega arith) d map m no_rows (no_rows_room laws.replies.room maps peer.port domain map one))

  run_answers : (question : ByteQuestion) (replies : List (List ℕ)) → QuestionIsWithin question → RepliesInTurn catalogue peer (calls_made question replies) replies old new
      → AnswersBetween catalogue peer question (sent_all replies ++ rest) old new
  run_answers (Cat domain map) replies within run =
      let once = answered_once catalogue peer (all_call domain map 1) replies old new run in
      once_between catalogue peer (Cat domain map) (all_call domain map 1) _ replies old new once tt (all_given domain map replies within.0 within.1 once)
  run_answers (Catk domain map) replies within run =
      let once = answered_once catalogue peer (all_call domain map 1) replies old new run in
      once_between catalogue peer (Catk domain map) (all_call domain map 1) _ replies old new once tt (all_given domain map replies within.0 within.1 once)
  run_answers (Innetgr domain group host user user_domain) replies within run =
      let once = answered_once catalogue peer (all_call domain netgroup 1) replies old new run in
      once_between catalogue peer (Innetgr domain group host user user_domain) (all_call domain netgroup 1) _ replies old new once tt (all_given domain netgroup replies within (omega arith) once)
  run_answers (Match domain map key) replies within run =
      let call = match_call domain map key 1 in
      let once = answered_once catalogue peer call replies old new run in
      let maps = maps_on catalogue once.log in
      once_between catalogue peer (Match domain map key) call _ replies old new once tt
      (gives_once catalogue peer reply_max call (value_of 1) (told (of_version (value_in key) (row_check maps peer.port domain map))) replies rest old new once
      (laws.replies.value maps peer 1 domain (served_before catalogue once.log new once.ends served) (omega arith) within.0 map within.1 key within.2))
  run_answers (Which domain map) replies within run =
      let call = master_call domain map 1 in
      let once = answered_once catalogue peer call replies old new run in
      let maps = maps_on catalogue once.log in
      once_between catalogue peer (Which domain map) call _ replies old new once tt
      (gives_once catalogue peer reply_max call (master_of 1) (told (of_version master_in (map_check maps domain map))) replies rest old new once
      (laws.replies.master maps peer 1 domain (served_before catalogue once.log new once.ends served) (omega arith) within.0 map within.1))
  run_answers (MapsOf domain) replies within run =
      let call = maplist_call domain 1 in
      let once = answered_once catalogue peer call replies old new run in
      let maps = maps_on catalogue once.log in
      once_between catalogue peer (MapsOf domain) call _ replies old new once tt
      (gives_once catalogue peer reply_max call (maps_of 1) (told (names_in maps domain)) replies rest old new once
      (laws.replies.names maps peer 1 domain (served_before catalogue once.log new once.ends served) (omega arith) within))
  run_answers (Pull domain map source) replies within run =
      let call = pull_call domain map source 1 in
      let once = answered_once catalogue peer call replies old new run in
      let maps = maps_on catalogue once.log in
      once_between catalogue peer (Pull domain map source) call _ replies old new once tt
      (gives_telling catalogue peer reply_max call (taken_of 1) (Ok (xfr_number (stat_told (xfr_check maps (pull_request domain map source))))) replies rest old new once
      (laws.replies.pull maps peer 1 domain (served_before catalogue once.log new once.ends served) (omega arith) within.0 map within.1 source within.2))
  run_answers (Make domain map) replies within run =
      let call = make_named_call domain map 1 in
      let once = answered_once catalogue peer call replies old new run in
      let maps = maps_on catalogue once.log in
      let check = make_check catalogue peer domain (Some map) in
      let is : reply Stream maps peer call ≡ make_response 1 check = laws.replies.make maps peer 1 domain (served_before catalogue once.log new once.ends served) (omega arith) within.0 map within.1 in
      let by = made_by catalogue check once.bytes once.log once.next (subst (λ (r : Response). Gets catalogue r (Some once.bytes) once.log once.next) is once.got) in
      record {
        first = once.log;
        second = once.next;
        begins = once.begins;
        grows = once.goes_on;
        ends = once.behind;
        made = by.made;
        caused = by.caused;
        answers = subst (λ (all : List (List ℕ)). BeginsWithReply reply_max (sent_all all ++ rest) (λ bytes behind. MakesReply maps peer by.made call bytes)) (sym once.one) (record {
          reply = once.bytes;
          bytes = sent once.bytes;
          rest = sent_all [] ++ rest;
          fragments = sent_is_whole reply_max once.bytes (subst (λ (b : List ℕ). length b ≤ reply_max) (sym by.is) (laws.replies.made 1 (made_told by.made check) (omega arith)).within);
          whole = append_assoc (sent once.bytes) (sent_all []) rest;
          good = ap (reply_made by.made) is ∙ response_made 1 by.made check ∙ ap (λ (b : List ℕ). Some b) (sym by.is);
        });
      }
  run_answers (Poll domain map) [] within run = absurd run
  run_answers (Poll domain map) (bytes ∷ replies) within run =
      let call = order_call domain map 1 in
      let mid = run.0 in
      let maps = maps_on catalogue mid in
      let held = map_check maps domain map in
      let told_order = told (of_version order_in held) in
      let next = run.1 in
      let middle = front_then mid next new run.3 (run_front catalogue peer (behind_order (master_call domain map 2) (order_of 1 bytes)) replies next new run.5) in
      let tells = laws.replies.order maps peer 1 domain (served_before catalogue mid new middle served) (omega arith) within.0 map within.1 in
      let replied = got_at_once catalogue peer reply_max call (order_of 1) told_order bytes mid next (at_once maps peer reply_max call (order_of 1) told_order tells) run.4 in
      let says : order_of 1 bytes ≡ told_order = tells_of maps peer reply_max call (order_of 1) told_order bytes tells replied in
      let second = second_given laws catalogue peer domain map held (order_of 1 bytes) replies rest next new served within.0 within.1 says run.5 in
      record {
        first = mid;
        second = second.log;
        begins = run.2;
        grows = front_then mid next second.log run.3 second.begins;
        ends = second.ends;
        made = Succ;
        caused = tt;
        answers = sent_gives maps peer reply_max call (order_of 1) told_order bytes replies rest
            (λ behind. IsOk held → GivesReply (maps_on catalogue second.log) peer reply_max (master_call domain map 2) behind (λ end. ⊤))
            (at_once maps peer reply_max call (order_of 1) told_order tells) replied second.gives;
      }

pub run_is_printed : Laws → RunIsPrinted
run_is_printed laws catalogue server caller question replies rest before after result old new served within run came asks =
    let between = run_answers laws catalogue caller rest before after served question replies within run in
    let one = front_then between.first between.second after between.grows between.ends in
    record {
      first = between.first;
      second = between.second;
      begins = between.begins;
      grows = between.grows;
      ends = between.ends;
      made = between.made;
      caused = between.caused;
      printed = laws.prints (maps_on catalogue between.first) (maps_on catalogue between.second) server caller between.made question (sent_all replies ++ rest) result old new
          (served_before catalogue between.first after one served) (served_before catalogue between.second after between.ends served) within between.answers came asks;
    }
