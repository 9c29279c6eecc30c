-- The faults that may be told of a question.
use Rattle.std.proofs.Common.{◌≡◌, ℕ, Bool, true, false, List, Option, Result, Ok, Err, refl, sym, ◌∙◌, subst, inl, inr}
use Rattle.std.specs.Prelude.{IfErr, ⊤}
use Rattle.yp_io.specs.Counts.{HasRisen}
use Rattle.yp_io.specs.Dials.{Dialing}
use Rattle.yp_io.specs.declared.stream.Peer.{Peer}
use Rattle.yp_messages.specs.declared.stat.YpStat.TheVariants as stats
use Rattle.yp_version.specs.declared.builder.VersionFault.TheVariants as version_faults
use Rattle.yp_client.specs.declared.fault.ClientFault.{ClientFault}
use Rattle.yp_client.specs.declared.fault.ClientFault.TheVariants as client_faults
use Rattle.yp_messages.specs.declared.transfer.XfrStat.{XfrStat}
use Rattle.yp_messages.specs.declared.transfer.XfrStat.TheVariants.{Succ}
use Rattle.yp_client.specs.Results.{value_of, master_of, order_of, maps_of, taken_of, made_of}
use Rattle.yp_client.specs.Said.{SaysNumber, SaysBytes, SaysNames, SaysStat}
use Rattle.yp_client.specs.Asked.{all_call, match_call, master_call, order_call, maplist_call, pull_call}
use Rattle.yp_client.specs.Asked.{make_named_call}
use Rattle.yp_client.specs.Limits.{reply_max, all_max}
use Rattle.yp_client.specs.All.{SaysAll}
use Rattle.yp_client.specs.States.{ClientState}
use Rattle.yp_client.specs.Calls.{Calls}
use Rattle.yp_client.specs.declared.query.fault.QueryFault.{QueryFault}
use Rattle.yp_client.specs.declared.query.fault.QueryFault.TheVariants.{NoKey, NotMember, NotDone, Client, Dial, Output, NoMemory}
use Rattle.yp_client.specs.declared.question.Question.TheVariants.{Cat, Catk, Match, Which, Poll, Maps, Innetgr}
use Rattle.yp_client.specs.declared.question.Question.TheVariants.{Pull, Make}
use Rattle.yp_client.specs.Questions.{ByteQuestion}
use Rattle.yp_client.specs.query.Faults.{query_fault, match_fault}
use Rattle.yp_client.specs.inside.query.Faults.{FaultIsTellable}
use Rattle.yp_version.specs.Rows.{Row, listed}
use Rattle.yp_netgroup.specs.Reach.{SoughtMember}
use Rattle.yp_netgroup.specs.Decided.{is_member}
use Rattle.yp_client.specs.query.Asked.{QueryOutcome, told_by, meant_by, IsInMemory, CallIsMade, no_rows, TakesRows, MakesMaster}
use Rattle.yp_client.specs.query.Asked.{MakesCalls, Converses, rows_told, membership_outcome, membership_told, netgroup}
use Rattle.yp_client.specs.query.Asked.{transfer_told, making_told}
use Rattle.yp_client.specs.declared.query.answer.Answer.{Answer}
use Rattle.yp_client.specs.declared.query.answer.Answer.TheVariants as answers
use Rattle.yp_client.specs.inside.query.Answers.{answer_outcome}
use Rattle.yp_client.specs.query.Scenes.{QueryTells, Exchanges, Dials, Prints, Asks}
use Rattle.yp_client.specs.inside.query.Scenes.{HasQueryCause}

-- ---- the fault of a call may be told

pub unspent : {X : Type 0} (limit : ℕ) (call : ℕ → List ℕ) (answers : ℕ → List ℕ → Result X ClientFault → Type 0)
    (fault : ClientFault) (old new : ClientState) → old.spent ≡ false → Calls limit call answers (Err fault) old new
    → fault ≡ client_faults.Spent → ⊥
unspent limit call answers fault old new fresh calls is =
    let e : true ≡ false = sym (calls.exactly.0 (rw is refl)) ∙ fresh in cc

-- what calls may come to: what may be told, and no fault of a sink
abbrev IsCalled : QueryFault → Type 0
IsCalled Output = ⊥
IsCalled fault = FaultIsTellable fault

called_tells : (fault : QueryFault) → IsCalled fault → FaultIsTellable fault
called_tells Output h = absurd h
called_tells NotMember h = tt
called_tells NoMemory h = tt
called_tells Dial h = tt
called_tells fault h = h

refused : (fault : ClientFault) → (fault ≡ client_faults.Spent → ⊥) → IsCalled (query_fault fault)
refused client_faults.Spent fresh = absurd (fresh refl)
refused (client_faults.Rows row version_faults.NoMemory) fresh = tt
refused (client_faults.Rows row fault) fresh = tt
refused fault fresh = tt

match_refused : (fault : ClientFault) → (fault ≡ client_faults.Spent → ⊥) → IsCalled (match_fault fault)
match_refused (client_faults.Yp stats.Nokey) fresh = tt
match_refused client_faults.Spent fresh = absurd (fresh refl)
match_refused (client_faults.Rows row version_faults.NoMemory) fresh = tt
match_refused (client_faults.Rows row fault) fresh = tt
match_refused fault fresh = tt

-- ---- what calls come to may be told

abbrev MayTell : QueryOutcome → Type 0
MayTell outcome = IfErr outcome IsCalled

meant_tells : {X : Type 0} (refused : ClientFault → QueryFault) (means : X → QueryOutcome) (answer : Result X ClientFault)
    (outcome : QueryOutcome) → ((x : X) → MayTell (means x))
    → ((fault : ClientFault) → answer ≡ Err fault → IsCalled (refused fault))
    → IsInMemory (told_by refused means answer) outcome → MayTell outcome
meant_tells refused means answer (Ok t) m k h = tt
meant_tells refused means answer (Err NoMemory) m k h = tt
meant_tells refused means (Ok x) (Err fault) m k h = subst MayTell (sym h) (m x)
meant_tells refused means (Err f) (Err fault) m k h = subst MayTell (sym h) (k f refl)

call_tells : {X : Type 0} (limit : ℕ) (call : ℕ → List ℕ) (answers : ℕ → List ℕ → Result X ClientFault → Type 0)
    (refused : ClientFault → QueryFault) (means : X → QueryOutcome) (outcome : QueryOutcome) (old new : ClientState)
    → old.spent ≡ false → ((x : X) → MayTell (means x))
    → ((fault : ClientFault) → (fault ≡ client_faults.Spent → ⊥) → IsCalled (refused fault))
    → CallIsMade limit call answers (told_by refused means) outcome old new → MayTell outcome
call_tells {X} limit call answers refused means outcome old new fresh m k h =
    let P : Result X ClientFault → Type 0 = λ r. Calls limit call answers r old new in
    meant_tells refused means h.answer outcome m
    (λ fault is. k fault (unspent limit call answers fault old new fresh (subst P is h.calls))) h.meant

makes_tells : {X : Type 0} (limit : ℕ) (call : ℕ → List ℕ) (answers : ℕ → List ℕ → Result X ClientFault → Type 0)
    (means : ClientFault → QueryFault) (text : X → List ℕ) (outcome : QueryOutcome) (old new : ClientState)
    → old.spent ≡ false
    → ((fault : ClientFault) → (fault ≡ client_faults.Spent → ⊥) → IsCalled (means fault))
    → CallIsMade limit call answers (meant_by means text) outcome old new → MayTell outcome
makes_tells limit call answers means text outcome old new fresh k h =
    call_tells limit call answers means (λ x. Ok (text x)) outcome old new fresh (λ x. tt) k h

rows_tell : (means : List Row → QueryOutcome) (domain map : List ℕ) (outcome : QueryOutcome) (old new : ClientState)
    → old.spent ≡ false → ((rows : List Row) → MayTell (means rows))
    → TakesRows means domain map outcome old new → MayTell outcome
rows_tell means domain map outcome old new fresh m h =
    call_tells all_max (all_call domain map)
    (SaysAll no_rows h.draft) query_fault (λ _. means (listed h.draft.rows)) outcome old new fresh
    (λ _. m (listed h.draft.rows)) refused h.makes

outcome_tells : (member : Bool) → MayTell (membership_outcome member)
outcome_tells true = tt
outcome_tells false = tt

master_tells : (domain map : List ℕ) (order : Result ℕ ClientFault) (outcome : QueryOutcome) (old mid new : ClientState)
    → old.spent ≡ false → Calls reply_max (order_call domain map) (SaysNumber order_of) order old mid
    → MakesMaster domain map order outcome mid new → MayTell outcome
master_tells domain map (Ok order) outcome old mid new fresh calls h =
    makes_tells reply_max (master_call domain map)
    (SaysBytes master_of) query_fault _ outcome mid new calls.spent refused h
master_tells domain map (Err fault) outcome old mid new fresh calls h =
    let spent = unspent reply_max (order_call domain map) (SaysNumber order_of) fault old mid fresh calls in
    subst MayTell (sym h.0) (refused fault spent)

transfer_tells : (domain map : List ℕ) (status : XfrStat) → MayTell (transfer_told domain map status)
transfer_tells domain map Succ = tt
transfer_tells domain map status = tt

making_tells : (domain map : List ℕ) (status : XfrStat) → MayTell (making_told domain map status)
making_tells domain map Succ = tt
making_tells domain map status = tt

calls_tell : (question : ByteQuestion) (outcome : QueryOutcome) (old new : ClientState) → old.spent ≡ false
    → MakesCalls question outcome old new → MayTell outcome
calls_tell (Cat domain map) outcome old new fresh h =
    rows_tell (rows_told false) domain map outcome old new fresh (λ rows. tt) h
calls_tell (Catk domain map) outcome old new fresh h =
    rows_tell (rows_told true) domain map outcome old new fresh (λ rows. tt) h
calls_tell (Innetgr domain group host user user_domain) outcome old new fresh h =
    let asked : SoughtMember = record { host = host; user = user; domain = user_domain } in
    rows_tell (membership_told group asked) domain netgroup outcome old new fresh
    (λ rows. outcome_tells (is_member rows group asked)) h
calls_tell (Match domain map key) outcome old new fresh h =
    makes_tells reply_max (match_call domain map key) (SaysBytes value_of) match_fault _ outcome old new fresh
    match_refused h
calls_tell (Which domain map) outcome old new fresh h =
    makes_tells reply_max (master_call domain map) (SaysBytes master_of) query_fault _ outcome old new fresh refused h
calls_tell (Poll domain map) outcome old new fresh h =
    master_tells domain map h.order outcome old h.mid new fresh h.calls h.follows
calls_tell (Maps domain) outcome old new fresh h =
    makes_tells reply_max (maplist_call domain) (SaysNames maps_of) query_fault _ outcome old new fresh refused h
calls_tell (Pull domain map source) outcome old new fresh h =
    call_tells reply_max (pull_call domain map source) (SaysStat taken_of) query_fault (transfer_told domain map) outcome
    old new fresh (transfer_tells domain map) refused h
calls_tell (Make domain map) outcome old new fresh h =
    call_tells reply_max (make_named_call domain map) (SaysStat made_of) query_fault (making_told domain map) outcome
    old new fresh (making_tells domain map) refused h

converses_tell : (question : ByteQuestion) (outcome : QueryOutcome) (old new : ClientState) → old.spent ≡ false
    → Converses question outcome old new → MayTell outcome
converses_tell question outcome old new fresh (inl h) = calls_tell question outcome old new fresh h
converses_tell question outcome old new fresh (inr h) = subst MayTell (sym h.0) tt

exchanges_tell : (peer : Peer) (question : ByteQuestion) (outcome : QueryOutcome) (old new : Dialing)
    → Exchanges peer (Converses question) outcome old new → MayTell outcome
exchanges_tell peer question outcome old new h =
    converses_tell question outcome h.first h.last h.dialed.begins.spent h.converses

-- ---- and what a question comes to

pub dials_tells : (peer : Peer) (question : ByteQuestion) (fault : QueryFault) (old new : Dialing)
    → Dials peer (Converses question) (Err fault) old new → FaultIsTellable fault
dials_tells peer question Dial old new h = tt
dials_tells peer question fault old new h = called_tells fault (exchanges_tell peer question (Err fault) old new h)

-- ---- an answer that is printed

exchanged : (peer : Peer) (question : ByteQuestion) (answer : Answer) (old new : Dialing)
    → Dials peer (Converses question) (answer_outcome answer) old new → Exchanges peer (Converses question) (answer_outcome answer) old new
exchanged peer question (answers.Membership true) old new h = h
exchanged peer question (answers.Membership false) old new h = h
exchanged peer question answer old new h = h

came : (answer : Answer) → answer_outcome answer ≡ Err Dial → ⊥
came (answers.Membership true) e = cc
came (answers.Membership false) e = cc
came answer e = cc

-- A wire came and went back, and what its calls came to was printed.
pub answer_asks : (peer : Peer) (question : ByteQuestion) (answer : Answer) (result : Result (Unit {0}) QueryFault)
    (old new : QueryTells) → Dials peer (Converses question) (answer_outcome answer) old.dial new.dial
    → Prints question (answer_outcome answer) result old.output new.output → Asks peer question result old new
answer_asks peer question answer (Err Dial) old new dials prints = absurd (came answer prints.0)
answer_asks peer question answer (Ok done) old new dials prints =
    (answer_outcome answer, exchanged peer question answer old.dial new.dial dials, prints)
answer_asks peer question answer (Err fault) old new dials prints =
    (answer_outcome answer, exchanged peer question answer old.dial new.dial dials, prints)

-- what an answer comes to may be told
answer_tells : (answer : Answer) → MayTell (answer_outcome answer)
answer_tells (answers.Membership member) = outcome_tells member
answer_tells answer = tt

tells : (outcome : QueryOutcome) → MayTell outcome → IfErr outcome FaultIsTellable
tells (Ok text) h = tt
tells (Err fault) h = called_tells fault h

pub prints_tells : (question : ByteQuestion) (answer : Answer) (result : Result (Unit {0}) QueryFault)
    (before after : Option (List ℕ)) → Prints question (answer_outcome answer) result before after
    → IfErr result FaultIsTellable
prints_tells question answer (Ok done) before after h = tt
prints_tells question answer (Err Output) before after h = tt
prints_tells question answer (Err NotMember) before after h = tt
prints_tells question answer (Err NoMemory) before after h = tt
prints_tells question answer (Err fault) before after h =
    let P : QueryOutcome → Type 0 = λ outcome. IfErr outcome FaultIsTellable in
    subst P h.0 (tells (answer_outcome answer) (answer_tells answer))

-- an answer is no fault of the dial or of its wires
IsPrinted : QueryOutcome → Type 0
IsPrinted (Ok text) = ⊤
IsPrinted (Err NotMember) = ⊤
IsPrinted outcome = ⊥

answer_printed : (answer : Answer) → IsPrinted (answer_outcome answer)
unfolding IsPrinted
answer_printed (answers.Membership true) = tt
answer_printed (answers.Membership false) = tt
answer_printed answer = tt

-- so what fails where it is printed is the sink
pub print_cause : (question : ByteQuestion) (answer : Answer) (result : Result (Unit {0}) QueryFault)
    (old new : QueryTells) → Prints question (answer_outcome answer) result old.output new.output
    → (result ≡ Err Output → HasRisen old.faults new.faults)
    → IfErr result (λ fault. HasQueryCause fault old new)
unfolding IsPrinted
print_cause question answer (Ok done) old new prints cause = tt
print_cause question answer (Err Output) old new prints cause = cause refl
print_cause question answer (Err NotMember) old new prints cause = tt
print_cause question answer (Err (NotDone status)) old new prints cause = tt
print_cause question answer (Err NoKey) old new prints cause = tt
print_cause question answer (Err NoMemory) old new prints cause = tt
print_cause question answer (Err Dial) old new prints cause =
    absurd (subst IsPrinted prints.0 (answer_printed answer))
print_cause question answer (Err (Client fault)) old new prints cause =
    absurd (subst IsPrinted prints.0 (answer_printed answer))
