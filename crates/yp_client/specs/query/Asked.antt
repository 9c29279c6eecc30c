-- The calls of each question, and what they come to.
use Rattle.std.specs.Prelude.{◌≡◌, ◌⊎◌, ℕ, Bool, true, false, if◌then◌else◌, List, [], codes, Result, Ok, Err, ⊤}
use Rattle.yp_messages.specs.declared.transfer.XfrStat.{XfrStat}
use Rattle.yp_messages.specs.declared.transfer.XfrStat.TheVariants.{Succ}
use Rattle.yp_version.specs.Rows.{Row, listed}
use Rattle.yp_version.specs.Drafts.{Draft, empty_draft}
use Rattle.yp_client.specs.declared.fault.ClientFault.{ClientFault}
use Rattle.yp_client.specs.Results.{value_of, master_of, order_of, maps_of, taken_of, made_of}
use Rattle.yp_client.specs.Said.{SaysNumber, SaysBytes, SaysNames, SaysStat}
use Rattle.yp_client.specs.Limits.{reply_max, all_max}
use Rattle.yp_client.specs.All.{SaysAll}
use Rattle.yp_client.specs.Asked.{all_call, match_call, master_call, order_call, maplist_call, pull_call}
use Rattle.yp_client.specs.Asked.{make_named_call}
use Rattle.yp_client.specs.States.{ClientState}
use Rattle.yp_client.specs.Calls.{Calls}
use Rattle.yp_client.specs.declared.query.fault.QueryFault.{QueryFault}
use Rattle.yp_client.specs.declared.query.fault.QueryFault.TheVariants.{NoMemory, NotMember, NotDone}
use Rattle.yp_client.specs.declared.question.Question.TheVariants.{Cat, Catk, Match, Which, Poll, Maps, Innetgr}
use Rattle.yp_client.specs.declared.question.Question.TheVariants.{Pull, Make}
use Rattle.yp_client.specs.Questions.{ByteQuestion}
use Rattle.yp_netgroup.specs.Reach.{SoughtMember}
use Rattle.yp_netgroup.specs.Decided.{is_member}
use Rattle.yp_client.specs.query.Lines.{line, lines, rows_text, standing_text, membership_text, status_text}
use Rattle.yp_client.specs.query.Lines.{made_text}
use Rattle.yp_client.specs.query.Faults.{query_fault, match_fault}

-- what calls come to: a value, or why there is none
abbrev pub Outcome : Type 0 → Type 0
Outcome V = Result V QueryFault

-- the text of an answer, or why there is none
abbrev pub QueryOutcome : Type 0
QueryOutcome = Outcome (List ℕ)

-- what is told of what a call answers: what is meant by its value, or the fault
abbrev pub told_by : {X V : Type 0} → (ClientFault → QueryFault) → (X → Outcome V) → Result X ClientFault → Outcome V
told_by refused means (Ok value) = means value
told_by refused means (Err fault) = Err (refused fault)

-- the outcome of an answer whose value always means something, as a text
abbrev pub meant_by : {X V : Type 0} → (ClientFault → QueryFault) → (X → V) → Result X ClientFault → Outcome V
meant_by refused text answer = told_by refused (λ value. Ok (text value)) answer

-- The outcome is the expected one, or memory ran out.
abbrev pub IsInMemory : {V : Type 0} → Outcome V → Outcome V → Type 0
IsInMemory meant (Err NoMemory) = ⊤
IsInMemory meant outcome = outcome ≡ meant

-- One call was made, whose reply has at most so many bytes, and came to this. The bytes of the wire fix what was
-- answered, unless the wire failed or memory ran out.
pub record CallIsMade {X V : Type 0} (limit : ℕ) (call : ℕ → List ℕ)
    (answers : ℕ → List ℕ → Result X ClientFault → Type 0) (means : Result X ClientFault → Outcome V)
    (outcome : Outcome V) (old new : ClientState) : Type 0 where
  pub answer : Result X ClientFault
  pub calls : Calls limit call answers answer old new
  pub meant : IsInMemory (means answer) outcome

-- a version without rows, of order 0 and no master, that is begun
abbrev pub no_rows : Draft
no_rows = empty_draft 0 []

-- what is meant by rows: their text, with keys or without
abbrev pub rows_told : Bool → List Row → QueryOutcome
rows_told keyed rows = Ok (rows_text keyed rows)

-- the map of the groups (netgroup(5))
abbrev pub netgroup : List ℕ
netgroup = codes "netgroup"

-- yes, or no, which is told apart and printed, too
abbrev pub membership_outcome : Bool → QueryOutcome
membership_outcome is_member = if is_member then Ok (membership_text true) else Err NotMember

-- whether a group that is reached from this one lists a triple that fits (innetgr(3))
abbrev pub membership_told : List ℕ → SoughtMember → List Row → QueryOutcome
membership_told group asked rows = membership_outcome (is_member rows group asked)

-- the status of a transfer, of which SUCC alone is an answer; another is told apart and printed, too
abbrev pub transfer_told : List ℕ → List ℕ → XfrStat → QueryOutcome
transfer_told domain map Succ = Ok (line (status_text domain map Succ))
transfer_told domain map status = Err (NotDone status)

-- that a map was made anew, which SUCC tells; another status is told apart and printed, too
abbrev pub making_told : List ℕ → List ℕ → XfrStat → QueryOutcome
making_told domain map Succ = Ok (line (made_text domain map))
making_told domain map status = Err (NotDone status)

-- ALL was made for the rows of a version, and came to what is meant by them, or to the number of a row that none takes.
-- The reply fixes the rows.
pub record TakesRows (means : List Row → QueryOutcome) (domain map : List ℕ) (outcome : QueryOutcome)
    (old new : ClientState)
    : Type 0 where
  pub draft : Draft
  pub makes : CallIsMade all_max (all_call domain map) (SaysAll no_rows draft)
      (told_by query_fault (λ _. means (listed draft.rows))) outcome old new

-- MASTER follows an order number, and nothing a fault.
abbrev pub MakesMaster : List ℕ → List ℕ → Result ℕ ClientFault → QueryOutcome → ClientState → ClientState → Type 0
MakesMaster domain map (Ok order) outcome old new =
    CallIsMade reply_max (master_call domain map) (SaysBytes master_of)
    (meant_by query_fault (λ master. standing_text order master.now)) outcome old new
MakesMaster domain map (Err fault) outcome old new = (outcome ≡ Err (query_fault fault)) × (new ≡ old)

-- ORDER was made, and then MASTER. The first call fixes the order, and the client between but for its counts of
-- faults.
pub record Polls (domain map : List ℕ) (outcome : QueryOutcome) (old new : ClientState) : Type 0 where
  pub order : Result ℕ ClientFault
  pub mid : ClientState
  pub calls : Calls reply_max (order_call domain map) (SaysNumber order_of) order old mid
  pub follows : MakesMaster domain map order outcome mid new

-- the calls of a question were made, and came to this
abbrev pub MakesCalls : ByteQuestion → QueryOutcome → ClientState → ClientState → Type 0
MakesCalls (Cat domain map) outcome old new = TakesRows (rows_told false) domain map outcome old new
MakesCalls (Catk domain map) outcome old new = TakesRows (rows_told true) domain map outcome old new
MakesCalls (Match domain map key) outcome old new =
    CallIsMade reply_max (match_call domain map key) (SaysBytes value_of)
    (meant_by match_fault (λ value. line value.now)) outcome old new
MakesCalls (Which domain map) outcome old new =
    CallIsMade reply_max (master_call domain map) (SaysBytes master_of)
    (meant_by query_fault (λ master. line master.now)) outcome old new
MakesCalls (Poll domain map) outcome old new = Polls domain map outcome old new
MakesCalls (Maps domain) outcome old new =
    CallIsMade reply_max (maplist_call domain) (SaysNames maps_of)
    (meant_by query_fault (λ list. lines list.maps)) outcome old new
MakesCalls (Pull domain map source) outcome old new =
    CallIsMade reply_max (pull_call domain map source) (SaysStat taken_of)
    (told_by query_fault (transfer_told domain map)) outcome old new
MakesCalls (Make domain map) outcome old new =
    CallIsMade reply_max (make_named_call domain map) (SaysStat made_of)
    (told_by query_fault (making_told domain map)) outcome old new
MakesCalls (Innetgr domain group host user user_domain) outcome old new =
    TakesRows (membership_told group (record { host = host; user = user; domain = user_domain })) domain netgroup
    outcome old new

-- These calls were made; or memory ran out, and none was made.
abbrev pub IsUnlessMemory : {V : Type 0} → (Outcome V → ClientState → ClientState → Type 0) → Outcome V
    → ClientState → ClientState → Type 0
IsUnlessMemory calls outcome old new = calls outcome old new ⊎ ((outcome ≡ Err NoMemory) × (new ≡ old))

abbrev pub Converses : ByteQuestion → QueryOutcome → ClientState → ClientState → Type 0
Converses question outcome old new = IsUnlessMemory (MakesCalls question) outcome old new
