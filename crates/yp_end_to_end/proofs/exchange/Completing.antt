-- Where the maps of a server tell a text, its replies answer the calls of a question.
use Rattle.std.proofs.Common.{◌≡◌, ℕ, ◌≤◌, true, false, List, length, Result, Ok, Err, refl, sym, ap, ◌∙◌, subst, arith}
use Rattle.std.specs.Prelude.{⊤, IsOk}
use Rattle.yp_io.specs.declared.stream.Peer.{Peer}
use Rattle.yp_messages.specs.declared.stat.YpStat.{YpStat}
use Rattle.yp_messages.specs.declared.stat.YpStat.TheVariants.{Nokey}
use Rattle.yp_version.specs.declared.builder.VersionFault.{VersionFault}
use Rattle.yp_version.specs.declared.builder.VersionFault.TheVariants.{NoMemory as RowNoMemory}
use Rattle.yp_version.specs.Versions.{MapVersion}
use Rattle.yp_client.specs.declared.fault.ClientFault.{ClientFault}
use Rattle.yp_client.specs.declared.fault.ClientFault.TheVariants.{Yp, Rows, NoMemory}
use Rattle.yp_client.specs.Limits.{reply_max, all_max}
use Rattle.std.proofs.Common.{ℤ}
use Rattle.yp_messages.specs.Transfers.{xfr_number}
use Rattle.yp_client.specs.Results.{value_of, master_of, order_of, maps_of, taken_of, made_of}
use Rattle.yp_messages.specs.declared.transfer.XfrStat.{XfrStat}
use Rattle.yp_client.specs.All.{AllSaid, all_said}
use Rattle.yp_client.specs.Asked.{all_call, match_call, master_call, order_call, maplist_call, pull_request, pull_call}
use Rattle.yp_client.specs.declared.question.Question.TheVariants.{Cat, Catk, Match, Which, Poll, Maps as MapsOf}
use Rattle.yp_client.specs.declared.question.Question.TheVariants.{Innetgr, Pull, Make}
use Rattle.yp_client.specs.query.Lines.{line, lines, standing_text}
use Rattle.yp_client.specs.query.Faults.{query_fault, match_fault}
use Rattle.yp_version.specs.Rows.{Row}
use Rattle.yp_client.specs.query.Asked.{QueryOutcome, told_by, meant_by, no_rows, rows_told, membership_told, netgroup}
use Rattle.yp_client.specs.Questions.{ByteQuestion}
use Rattle.yp_client.specs.inside.Questions.{QuestionIsWithin}
use Rattle.yp_client.specs.query.Complete.{BeginsWithReply, IsValueOrNone, HasAnswer}
use Rattle.yp_answer.specs.Maps.{Maps, map_check, row_check}
use Rattle.yp_answer.specs.Transfer.{xfr_check}
use Rattle.yp_answer.specs.Served.{AreServed}
use Rattle.yp_end_to_end.specs.exchange.Told.{told, of_version, value_in, all_in, master_in, order_in, names_in, stat_told}
use Rattle.yp_end_to_end.specs.inside.exchange.Told.{all_told}
use Rattle.yp_end_to_end.specs.exchange.Answered.{standing_told, text_told}
use Rattle.yp_end_to_end.specs.inside.exchange.Answered.{GivesReply, GivesStanding, GivesReplies, HasText}
use Rattle.yp_end_to_end.specs.inside.exchange.QueryLaws.{ToldIsAnswered}
use Rattle.yp_end_to_end.proofs.exchange.Queries.{tells_at_once, tells_of}
use Rattle.yp_end_to_end.proofs.exchange.Asking.{Replies, no_rows_room, made_tells}

-- ---- what has a text

all_end : (means : List Row → QueryOutcome) (held : Result MapVersion YpStat) → HasText (told_by query_fault means (told (of_version all_in held))) → (all_told no_rows held).end ≡ Ok tt
all_end means (Ok version) has = refl
all_end means (Err stat) has = absurd has

-- a fault has no text
row_no_text : (row : ℕ) (fault : VersionFault) → HasText (Err (query_fault (Rows row fault))) → ⊥
row_no_text row RowNoMemory has = has
row_no_text row fault has = has

no_text : (fault : ClientFault) → HasText (Err (query_fault fault)) → ⊥
no_text NoMemory has = has
no_text (Rows row fault) has = row_no_text row fault has
no_text fault has = has

found : (said : Result (List ℕ) ClientFault) → HasText (meant_by match_fault line said) → IsValueOrNone said
found (Ok value) has = tt
found (Err (Yp Nokey)) has = tt
found (Err (Yp stat)) has = absurd has
found (Err (Rows row fault)) has = absurd (row_no_text row fault has)
found (Err fault) has = absurd has

said_ok : {V : Type 0} (text : V → List ℕ) (said : Result V ClientFault) → HasText (meant_by query_fault text said) → IsOk said
said_ok text (Ok value) has = refl
said_ok text (Err fault) has = absurd (no_text fault has)

both_ok : (order : Result ℕ ClientFault) (master : Result (List ℕ) ClientFault) → HasText (standing_told order master) → IsOk order × IsOk master
both_ok (Ok order) master has = (refl, said_ok (standing_text order) master has)
both_ok (Err fault) master has = absurd (no_text fault has)

-- an order that is told is that of a map that is there
there : (held : Result MapVersion YpStat) → IsOk (told (of_version order_in held)) → IsOk held
there (Ok version) ok = refl
there (Err stat) ok = absurd cc

-- ---- each question

-- a reply that is given, with what holds of it
given : (limit : ℕ) (stream : List ℕ) (P Q : List ℕ → List ℕ → Type 0) (good : BeginsWithReply limit stream P) → Q good.reply good.rest → BeginsWithReply limit stream Q
given limit stream P Q good holds = record { reply = good.reply; bytes = good.bytes; rest = good.rest; fragments = good.fragments; whole = good.whole; good = holds }

module _ (laws : Replies) (first second : Maps) (peer : Peer) (made : XfrStat) (stream : List ℕ) (one : AreServed first) (other : AreServed second) where
  rows_answered : (means : List Row → QueryOutcome) (domain map : List ℕ) → length domain ≤ 64 → length map ≤ 64 → GivesReply first peer all_max (all_call domain map 1) stream (λ rest. ⊤)
      → HasText (told_by query_fault means (told (of_version all_in (row_check first peer.port domain map))))
      → BeginsWithReply all_max stream (λ reply rest. (all_said no_rows 1 reply).end ≡ Ok tt)
  rows_answered means domain map d m good has =
      let held = row_check first peer.port domain map in
      let says : all_said no_rows 1 good.reply ≡ all_told no_rows held =
      tells_of first peer all_max (all_call domain map 1) (all_said no_rows 1) (all_told no_rows held) good.reply
      (laws.all first peer 1 domain one (omega arith) d map m no_rows (no_rows_room laws.room first peer.port domain map one)) good.good.0 in
      given all_max stream _ (λ reply rest. (all_said no_rows 1 reply).end ≡ Ok tt) good (ap (λ (said : AllSaid). said.end) says ∙ all_end means held has)

  poll_answered : (domain map : List ℕ) → length domain ≤ 64 → length map ≤ 64
      → GivesStanding first second peer domain map stream
      → HasText (standing_told (told (of_version order_in (map_check first domain map))) (told (of_version master_in (map_check second domain map))))
      → BeginsWithReply reply_max stream (λ reply rest. IsOk (order_of 1 reply) × BeginsWithReply reply_max rest (λ second behind. IsOk (master_of 2 second)))
  poll_answered domain map d m good has =
      let order = told (of_version order_in (map_check first domain map)) in
      let master = told (of_version master_in (map_check second domain map)) in
      let ok = both_ok order master has in
      let behind = good.good.1 (there (map_check first domain map) ok.0) in
      let says = tells_of first peer reply_max (order_call domain map 1) (order_of 1) order good.reply (laws.order first peer 1 domain one (omega arith) d map m) good.good.0 in
      let then = tells_of second peer reply_max (master_call domain map 2) (master_of 2) master behind.reply (laws.master second peer 2 domain other (omega arith) d map m) behind.good.0 in
      given reply_max stream _ (λ reply rest. IsOk (order_of 1 reply) × BeginsWithReply reply_max rest (λ second end. IsOk (master_of 2 second))) good (
        subst (λ (said : Result ℕ ClientFault). IsOk said) (sym says) ok.0,
        given reply_max good.rest _ (λ second end. IsOk (master_of 2 second)) behind (subst (λ (said : Result (List ℕ) ClientFault). IsOk said) (sym then) ok.1),
      )

  answered : (question : ByteQuestion) → QuestionIsWithin question → GivesReplies first second peer made question stream → HasText (text_told first second peer made question) → HasAnswer question stream
  answered (Cat domain map) within good has = rows_answered (rows_told false) domain map within.0 within.1 good has
  answered (Catk domain map) within good has = rows_answered (rows_told true) domain map within.0 within.1 good has
  answered (Innetgr domain group host user user_domain) within good has =
      rows_answered (membership_told group (record { host = host; user = user; domain = user_domain })) domain netgroup within (omega arith) good has
  answered (Match domain map key) within good has =
      let expected = told (of_version (value_in key) (row_check first peer.port domain map)) in
      let says = tells_of first peer reply_max (match_call domain map key 1) (value_of 1) expected good.reply
      (laws.value first peer 1 domain one (omega arith) within.0 map within.1 key within.2) good.good.0 in
      given reply_max stream _ (λ reply rest. IsValueOrNone (value_of 1 reply)) good (subst IsValueOrNone (sym says) (found expected has))
  answered (Which domain map) within good has =
      let expected = told (of_version master_in (map_check first domain map)) in
      let says = tells_of first peer reply_max (master_call domain map 1) (master_of 1) expected good.reply
      (laws.master first peer 1 domain one (omega arith) within.0 map within.1) good.good.0 in
      given reply_max stream _ (λ reply rest. IsOk (master_of 1 reply)) good (subst (λ (said : Result (List ℕ) ClientFault). IsOk said) (sym says) (said_ok line expected has))
  answered (Poll domain map) within good has = poll_answered domain map within.0 within.1 good has
  answered (MapsOf domain) within good has =
      let expected = told (names_in first domain) in
      let says = tells_of first peer reply_max (maplist_call domain 1) (maps_of 1) expected good.reply
      (laws.names first peer 1 domain one (omega arith) within) good.good.0 in
      given reply_max stream _ (λ reply rest. IsOk (maps_of 1 reply)) good (subst (λ (said : Result (List (List ℕ)) ClientFault). IsOk said) (sym says) (said_ok lines expected has))
  answered (Pull domain map source) within good has =
      let expected = Ok (xfr_number (stat_told (xfr_check first (pull_request domain map source)))) in
      let says = tells_at_once first peer reply_max (pull_call domain map source 1) (taken_of 1) expected good.reply
      (laws.pull first peer 1 domain one (omega arith) within.0 map within.1 source within.2) good.good.0 in
      given reply_max stream _ (λ reply rest. IsOk (taken_of 1 reply)) good (subst (λ (said : Result ℤ ClientFault). IsOk said) (sym says) refl)
  answered (Make domain map) within good has =
      let says = made_tells laws first peer made domain map good.reply one within.0 within.1 good.good in
      given reply_max stream _ (λ reply rest. IsOk (made_of 1 reply)) good (subst (λ (said : Result ℤ ClientFault). IsOk said) (sym says) refl)

pub told_is_answered : Replies → ToldIsAnswered
told_is_answered laws first second peer made question stream one other within good has = answered laws first second peer made stream one other question within good has
