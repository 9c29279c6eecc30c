-- Worlds of many callers in which a letter calls back a transfer, and none that was asked for.
use Rattle.std.proofs.Common.{◌≡◌, ◌≢◌, ℕ, Bool, true, false, pos, List, [], ◌∷◌, ◌++◌, length, Ok, Err, refl, sym, ap, ◌∙◌, subst, arith}
use Rattle.std.specs.Prelude.{slice_index, if◌then◌else◌}
use Rattle.std.specs.List.{AllByRecursion}
use Rattle.std.proofs.lemmas.List.{append-nil, length-append}
use Rattle.yp_io.specs.declared.stream.Peer.{Peer}
use Rattle.yp_xdr.specs.Reading.{word_at, content_at, opaque_at}
use Rattle.yp_xdr.specs.Spelling.{fixed, opaque}
use Rattle.yp_rpc.specs.Records.{Fragments, sent}
use Rattle.yp_rpc.specs.Called.{call_of}
use Rattle.yp_rpc.specs.inside.Laws.{FirstIsOne}
use Rattle.yp_messages.specs.Transfers.{resp_xfr, xfr_number}
use Rattle.yp_messages.specs.declared.transfer.XfrStat.{XfrStat}
use Rattle.yp_messages.specs.declared.transfer.XfrStat.TheVariants as told
use Rattle.yp_version.specs.Versions.{MapVersion}
use Rattle.yp_board.specs.Logs.{Log, shown}
use Rattle.yp_board.specs.Views.{IsFront}
use Rattle.yp_answer.specs.declared.procedure.Path.{Path}
use Rattle.yp_answer.specs.declared.procedure.Path.TheVariants.{Stream, Datagram as Mail}
use Rattle.yp_answer.specs.Numbers.{record_max}
use Rattle.yp_answer.specs.Served.{maps_on}
use Rattle.yp_answer.specs.Transfer.{XfrRequest, Taken, is_mastered_by}
use Rattle.yp_answer.specs.Reply.{Response, Takes, xfr_response}
use Rattle.yp_headline.specs.inside.Tried.{somebody, match_call, one_map, first_log, xfr_call, fetched_log, its_transfer, success_letter, transfer_world}
use Rattle.yp_headline.specs.inside.TriedFiles.{called_unasked, called_of, called_by, far_letter, port_letter, sixth_letter, called_elsewhere, called_at_another_port, called_once_more, mailed_elsewhere, IsWrongCallBack}
use Rattle.yp_headline.specs.World.{Incoming, Datagram, Letter}
use Rattle.yp_headline.specs.Answering.{answer}
use Rattle.yp_headline.specs.Publishing.{IsAmong}
use Rattle.yp_headline.specs.Serving.{Exchange, BeginsWith}
use Rattle.yp_headline.specs.Calling.{CallCame, known_before}
use Rattle.yp_headline.specs.Headline.{CallBacks}
use Rattle.yp_headline.proofs.Runs.{none_among, front_self}
use Rattle.yp_headline.proofs.Torn.{no_server}
use Rattle.yp_headline.proofs.Skewed.{never_empty}
use Rattle.yp_headline.proofs.Matched.{match_record}
use Rattle.yp_headline.proofs.Fetching.{xfr_record}
use Rattle.yp_headline.proofs.Steps.{front_then}
use Rattle.yp_headline.proofs.Weighed.{all_among}
use Rattle.yp_headline.proofs.Called.{status_is, in_log, only_entry, only_one, order_nine}

-- ---- of nobody

no_call : (path : Path) (one : Exchange) → CallCame called_unasked path one → ⊥
no_call Stream one came = none_among came.0 came.1
no_call Mail one came = none_among came.0 came.1

-- nobody asked
pub asked_by_nobody : IsWrongCallBack called_unasked
asked_by_nobody begun log called = let is = called.0 in no_call is.0 is.1 is.2

-- nobody was dialed
pub asked_of_no_server : IsWrongCallBack (called_of [])
asked_of_no_server begun log called =
    let back = called.0.6 in
    let shows = back.shows (status_is back.taken.transid back.taken.prog back.stat back.says) in
    no_server shows.4.server shows.4.among

-- ---- to another host

caller_is : (letters : List Letter) (path : Path) (one : Exchange) → CallCame (called_by letters) path one → one.caller ≡ somebody
caller_is letters Stream one came = came.2 ∙ ap (λ (s : Incoming). s.peer) (only_one _ came.0 came.1)
caller_is letters Mail one came = absurd (none_among came.0 came.1)

other_host : (to : Peer) (one : Exchange) → to.addr ≡ 10 ∷ 0 ∷ 0 ∷ 8 ∷ [] → one.caller ≡ somebody → to.addr ≡ one.caller.addr → ⊥
other_host to one far caller same =
    let host : 8 ≡ 7 = ap (λ (l : List ℕ). slice_index l 3) (sym far ∙ same ∙ ap (λ (p : Peer). p.addr) caller) in
    omega (arith, host)

pub asked_elsewhere : IsWrongCallBack called_elsewhere
asked_elsewhere begun log called =
    let is = called.0 in other_host far_letter.peer is.1 refl (caller_is (far_letter ∷ []) is.0 is.1 is.2) is.6.host

mailer_is : (path : Path) (one : Exchange) → CallCame mailed_elsewhere path one → one.caller ≡ somebody
mailer_is Stream one came = absurd (none_among came.0 came.1)
mailer_is Mail one came =
    came.4 ∙ ap (λ (m : Datagram). m.peer)
    (only_one _ came.2 (subst (λ (l : List Datagram). IsAmong l came.2) (only_one _ came.0 came.1) came.3))

pub mail_elsewhere : IsWrongCallBack mailed_elsewhere
mail_elsewhere begun log called =
    let is = called.0 in other_host far_letter.peer is.1 refl (mailer_is is.0 is.1 is.2) is.6.host

-- ---- when the version had been shown

known_on : (path : Path) (begun front : Log) → IsFront begun front → IsFront begun (known_before path begun front)
known_on Stream begun front begins = begins
known_on Mail begun front begins = front_self begun

-- nothing is entered behind a whole log
pub asked_when_shown : CallBacks transfer_world fetched_log fetched_log → ⊥
asked_when_shown called =
    let is = called.0 in
    let back = is.6 in
    let known = known_before is.0 fetched_log is.3 in
    let shows = back.shows (status_is back.taken.transid back.taken.prog back.stat back.says) in
    let behind = front_then fetched_log known shows.1 (known_on is.0 fetched_log is.3 is.4) shows.2 in
    let entry : Log = (back.taken.map, shows.0) ∷ [] in
    let long = ap length behind.1 ∙ length-append fetched_log behind.0 in
    let longer = length-append shows.1 entry in
    let all = ap length shows.3.1 ∙ length-append (shows.1 ++ entry) shows.3.0 in
    omega (arith, long, longer, all)

-- ---- another port, or number

-- what a call takes, or this transfer, where it takes none
abbrev taken_of : Response → Taken
taken_of (Takes bytes taken) = taken
taken_of response = its_transfer

abbrev request : XfrRequest
request = (100 ∷ [], (112 ∷ [], (0, (115 ∷ [], (5, (1073741824, 700))))))

by_master : (mastered : Bool) (reply : List ℕ) (taken : Taken)
    → xfr_response 7 request (if mastered then Err told.Refused else Ok 0) ≡ Takes reply taken → taken ≡ its_transfer
by_master true reply taken takes = ap taken_of (sym takes)
by_master false reply taken takes = ap taken_of (sym takes)

-- The transfer is what a call takes, on whatever log.
abbrev TakesIt : Peer → List ℕ → Type 0
TakesIt caller call = (log : Log) (reply : List ℕ) (taken : Taken)
    → answer Stream (maps_on one_map log) caller call ≡ Takes reply taken → taken ≡ its_transfer

xfr_takes : (caller : Peer) → TakesIt caller xfr_call
unfolding word_at content_at opaque_at
xfr_takes caller log reply taken takes = by_master (is_mastered_by one_map.own (shown 0 log)) reply taken takes

match_takes : (caller : Peer) → TakesIt caller match_call
unfolding word_at content_at opaque_at
match_takes caller log reply taken takes = ap taken_of (sym takes)

abbrev ItTakes : Exchange → Type 0
ItTakes one = TakesIt one.caller one.call

as_call : (one : Exchange) (call : List ℕ) → one.call ≡ call → TakesIt one.caller call → ItTakes one
as_call one call same takes = subst (λ (l : List ℕ). TakesIt one.caller l) (sym same) takes

-- a call back of another number
number_differs : (stat : XfrStat) → call_of resp_xfr 6 1073741824 1 1 (6, pos 1) ≡ call_of resp_xfr 5 1073741824 1 1 (5, xfr_number stat) → ⊥
unfolding fixed opaque
number_differs stat same = let e : 6 ≡ 5 = ap (λ (l : List ℕ). slice_index l 3) same in omega (arith, e)

module _ (one : FirstIsOne) where
  -- it gave a version that the log hasn't
  pub asked_unshown : (begun : Log) → CallBacks transfer_world begun first_log → ⊥
  asked_unshown begun called =
      let back = called.0.6 in
      let shows = back.shows (status_is back.taken.transid back.taken.prog back.stat back.says) in
      let entry = only_entry back.taken.map shows.0
      (in_log back.taken.map shows.0 shows.1 first_log first_log shows.3 (front_self first_log)) in
      let order : 7 ≡ 9 = sym (ap (λ (v : MapVersion). v.order) entry) ∙ order_nine one transfer_world refl shows.0 shows.4 in
      omega (arith, order)

  first_call : (message more : List ℕ) → Fragments record_max message (sent message) → (it : Exchange) (exchanges : List Exchange)
      (rest : List ℕ) → BeginsWith (sent message ++ more) (it ∷ exchanges) rest → (it.call ≡ message) × BeginsWith more exchanges rest
  first_call message more whole it exchanges rest begins =
      let same = one record_max it.call message begins.0 (sent message) begins.1 more begins.2 whole (sym begins.3) in
      (same.0, subst (λ (l : List ℕ). BeginsWith l exchanges rest) same.1 begins.4)

  none_more : (exchanges : List Exchange) (rest : List ℕ) → BeginsWith [] exchanges rest → AllByRecursion ItTakes exchanges
  none_more [] rest begins = tt
  none_more (it ∷ exchanges) rest begins = absurd (never_empty record_max it.call begins.0 begins.1 begins.2 begins.3)

  second_takes : (exchanges : List Exchange) (rest : List ℕ) → BeginsWith (sent match_call) exchanges rest → AllByRecursion ItTakes exchanges
  second_takes [] rest begins = tt
  second_takes (it ∷ exchanges) rest begins =
      let is = first_call match_call [] match_record it exchanges rest
      (subst (λ (l : List ℕ). BeginsWith l (it ∷ exchanges) rest) (sym (append-nil (sent match_call))) begins) in
      (as_call it match_call is.0 (match_takes it.caller), none_more exchanges rest is.1)

  each_takes : (exchanges : List Exchange) (rest : List ℕ) → BeginsWith (sent xfr_call ++ sent match_call) exchanges rest
      → AllByRecursion ItTakes exchanges
  each_takes [] rest begins = tt
  each_takes (it ∷ exchanges) rest begins =
      let is = first_call xfr_call (sent match_call) xfr_record it exchanges rest begins in
      (as_call it xfr_call is.0 (xfr_takes it.caller), second_takes exchanges rest is.1)

  takes_it : (letters : List Letter) (path : Path) (it : Exchange) (log : Log) (reply : List ℕ) (taken : Taken)
      → CallCame (called_by letters) path it → answer path (maps_on one_map log) it.caller it.call ≡ Takes reply taken
      → taken ≡ its_transfer
  takes_it letters Stream it log reply taken came takes =
      let begins = subst (λ (s : Incoming). BeginsWith s.came came.3 came.5) (only_one _ came.0 came.1) came.6 in
      all_among ItTakes came.3 it (each_takes came.3 came.5 begins) came.4 log reply taken takes
  takes_it letters Mail it log reply taken came takes = absurd (none_among came.0 came.1)

  -- its call names another port
  pub asked_at_another_port : IsWrongCallBack called_at_another_port
  asked_at_another_port begun log called =
      let is = called.0 in
      let back = is.6 in
      let port = ap (λ (t : Taken). t.port) (takes_it (port_letter ∷ []) is.0 is.1 is.3 back.reply back.taken is.2 back.takes) in
      let some : back.taken.port ≢ 0 = λ none. let e : 700 ≡ 0 = sym port ∙ none in omega (arith, e) in
      let e : 701 ≡ 700 = back.port some ∙ port in
      omega (arith, e)

  -- no call has the number of the second letter
  pub asked_once_more : IsWrongCallBack called_once_more
  asked_once_more begun log called =
      let is = called.1.0 in
      let back = is.6 in
      let taken = takes_it (success_letter ∷ sixth_letter ∷ []) is.0 is.1 is.3 back.reply back.taken is.2 back.takes in
      number_differs back.stat
      (back.says ∙ ap (λ (t : Taken). call_of resp_xfr t.transid t.prog 1 1 (t.transid, xfr_number back.stat)) taken)
