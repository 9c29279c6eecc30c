-- A query over a wire that gives whole replies, which answer its calls, has an answer.
use Rattle.std.proofs.Common.{◌≡◌, ℕ, ◌+◌, ◌%◌, ◌^◌, Bool, true, false, cond, List, [], ◌∷◌, ◌++◌, Option, Some, None}
use Rattle.std.proofs.Common.{Result, Ok, Err, refl, sym, ap, ◌∙◌, subst, inl, inr}
use Rattle.std.specs.Prelude.{IsOk, IfErr, ⊤}
use Rattle.std.specs.Borrow.{Bor}
use Rattle.std.specs.Io.KnownBytes.{Consumes, IsAtEnd}
use Rattle.std.proofs.lemmas.List.{append-nil}
use Rattle.yp_io.specs.Counts.{HasRisen}
use Rattle.yp_io.specs.declared.stream.Peer.{Peer}
use Rattle.yp_io.specs.Dials.{Wires, Connected, connected, Dialing, WireState, WireComes, GoesBack}
use Rattle.yp_rpc.specs.Records.{IsRest, IsLong}
use Rattle.yp_rpc.specs.inside.Laws.{FirstIsOne, RestIsNotWhole}
use Rattle.yp_messages.specs.declared.stat.YpStat.{YpStat}
use Rattle.yp_messages.specs.declared.transfer.XfrStat.{XfrStat}
use Rattle.yp_messages.specs.declared.transfer.XfrStat.TheVariants.{Succ}
use Rattle.yp_messages.specs.Transfers.{xfr_number}
use Rattle.yp_messages.specs.declared.stat.YpStat.TheVariants as stat
use Rattle.yp_version.specs.Drafts.{Draft}
use Rattle.yp_client.specs.declared.fault.ClientFault.{ClientFault}
use Rattle.yp_client.specs.declared.fault.ClientFault.TheVariants as client
use Rattle.yp_client.specs.Limits.{reply_max, all_max}
use Rattle.yp_client.specs.States.{ClientState, IsFirst}
use Rattle.yp_client.specs.Results.{Says, SaysInMemory, value_of, master_of, order_of, maps_of, taken_of, made_of}
use Rattle.yp_client.specs.All.{AllSaid, all_said, IsSaid}
use Rattle.yp_client.specs.Calls.{Calls, HearsReply, NoReply}
use Rattle.yp_client.specs.Said.{SaysNumber, SaysBytes, SaysNames, SaysStat}
use Rattle.yp_client.specs.Asked.{match_call, master_call, order_call, maplist_call, pull_call, make_named_call}
use Rattle.yp_messages.specs.declared.maplist.MapList.{MapList}
use Rattle.yp_client.specs.query.Lines.{line, lines, standing_text}
use Rattle.yp_client.specs.declared.query.fault.QueryFault.{QueryFault}
use Rattle.yp_client.specs.declared.query.fault.QueryFault.TheVariants.{NoKey, NotMember, NotDone, Client, Dial, Output, NoMemory}
use Rattle.yp_client.specs.declared.question.Question.TheVariants.{Cat, Catk, Match, Which, Poll, Maps, Innetgr}
use Rattle.yp_client.specs.declared.question.Question.TheVariants.{Pull, Make}
use Rattle.yp_client.specs.Questions.{ByteQuestion}
use Rattle.yp_client.specs.query.Faults.{query_fault, match_fault}
use Rattle.yp_version.specs.Rows.{Row, listed}
use Rattle.yp_netgroup.specs.Reach.{SoughtMember}
use Rattle.yp_netgroup.specs.Decided.{is_member}
use Rattle.yp_client.specs.query.Asked.{QueryOutcome, told_by, meant_by, IsInMemory, no_rows, TakesRows, MakesMaster}
use Rattle.yp_client.specs.query.Asked.{MakesCalls, Converses, rows_told, membership_outcome, membership_told, netgroup}
use Rattle.yp_client.specs.query.Asked.{transfer_told, making_told}
use Rattle.yp_client.specs.query.Scenes.{QueryTells, Exchanges, Asks}
use Rattle.yp_client.specs.inside.query.Scenes.{HasQueryCause}
use Rattle.yp_client.specs.query.Complete.{BeginsWithReply, IsValueOrNone, HasAnswer, HasCome}
use Rattle.yp_client.specs.inside.query.Complete.{QueryIsAnswered}

-- what the laws of records say
pub record Laws : Type 0 where
  pub first : FirstIsOne
  pub rest : RestIsNotWhole

-- ---- told bytes

-- bytes that were consumed of told ones
taken : (b : Option (List ℕ)) (stream bytes : List ℕ) → Consumes (Some stream) b bytes
    → (rest : List ℕ) × (b ≡ Some rest) × (stream ≡ bytes ++ rest)
taken None stream bytes h = absurd h
taken (Some ys) stream bytes h = (ys, refl, h)

ended : (a : Option (List ℕ)) (rest : List ℕ) → a ≡ Some rest → IsAtEnd a → rest ≡ []
ended None rest e h = absurd cc
ended (Some xs) rest e h = let same : xs ≡ rest = cc in sym same ∙ h

-- ---- one call

-- the answer is by the reply, and what is behind it is left
pub record Heard (limit : ℕ) (stream : List ℕ) (P : List ℕ → List ℕ → Type 0) (good : BeginsWithReply limit stream P)
    (said : List ℕ → Type 0) (new : ClientState) : Type 0 where
  pub by_reply : said good.reply
  pub left : new.wire.input ≡ Some good.rest

pub hears_reply : Laws → {X : Type 0} (limit : ℕ) (stream : List ℕ) (P : List ℕ → List ℕ → Type 0)
    (good : BeginsWithReply limit stream P) (answers : List ℕ → Result X ClientFault → Type 0)
    (answer : Result X ClientFault) (old new : ClientState)
    → old.wire.input ≡ Some stream → HearsReply limit answers answer old new
    → Heard limit stream P good (λ reply. answers reply answer) new
hears_reply laws {X} limit stream P good answers answer old new told heard =
    let read : Consumes (Some stream) new.wire.input heard.taken.bytes =
    subst (λ (i : Option (List ℕ)). Consumes i new.wire.input heard.taken.bytes) told heard.taken.taken in
    let behind = taken new.wire.input stream heard.taken.bytes read in
    let same = laws.first limit heard.reply good.reply heard.taken.bytes good.bytes behind.0 good.rest
    heard.taken.fragments good.fragments (sym behind.2 ∙ good.whole) in
    record {
      by_reply = subst (λ (reply : List ℕ). answers reply answer) same.0 heard.answered;
      left = behind.1 ∙ ap (λ (rest : List ℕ). Some rest) same.1;
    }

-- a wire that begins with a whole reply isn't torn there
not_torn : Laws → (limit : ℕ) (stream : List ℕ) (P : List ℕ → List ℕ → Type 0) (good : BeginsWithReply limit stream P)
    (at : ℕ) (old new : ClientState)
    → old.wire.input ≡ Some stream → NoReply limit (client.Torn at) old new → ⊥
not_torn laws limit stream P good at old new told (inl cause) =
    let rest = cause.1 in
    let read : Consumes (Some stream) new.wire.input rest =
    subst (λ (i : Option (List ℕ)). Consumes i new.wire.input rest) told cause.3 in
    let behind = taken new.wire.input stream rest read in
    let none = ended new.wire.input behind.0 behind.1 cause.4 in
    let all : rest ≡ good.bytes ++ good.rest =
    sym (behind.2 ∙ ap (λ (l : List ℕ). rest ++ l) none ∙ append-nil rest) ∙ good.whole in
    laws.rest limit good.reply good.bytes good.rest good.fragments (subst (IsRest limit) all (inr (inl cause.2)))
not_torn laws limit stream P good at old new told (inr cause) =
    let read : Consumes (Some stream) new.wire.input [] =
    subst (λ (i : Option (List ℕ)). Consumes i new.wire.input []) told cause.1.0 in
    let behind = taken new.wire.input stream [] read in
    let none = ended new.wire.input behind.0 behind.1 cause.1.1 in
    let all : [] ≡ good.bytes ++ good.rest = sym (behind.2 ∙ none) ∙ good.whole in
    laws.rest limit good.reply good.bytes good.rest good.fragments (subst (IsRest limit) all (inl refl))

-- nor too long
not_long : Laws → (limit : ℕ) (stream : List ℕ) (P : List ℕ → List ℕ → Type 0) (good : BeginsWithReply limit stream P)
    (at : ℕ) (old new : ClientState)
    → old.wire.input ≡ Some stream → NoReply limit (client.TooLong at) old new → ⊥
not_long laws limit stream P good at old new told cause =
    let front = cause.1 in
    let read : Consumes (Some stream) new.wire.input front =
    subst (λ (i : Option (List ℕ)). Consumes i new.wire.input front) told cause.3 in
    let behind = taken new.wire.input stream front read in
    let long : IsLong limit (good.bytes ++ good.rest) = (front, behind.0, cause.2, sym good.whole ∙ behind.2) in
    laws.rest limit good.reply good.bytes good.rest good.fragments (inr (inr long))

-- an answer, that there is no such key or no such member, that no map is fetched or made, want of memory, or a fault of
-- the wire
unfoldable pub IsGood : QueryOutcome → Type 0
IsGood (Ok text) = ⊤
IsGood (Err NoKey) = ⊤
IsGood (Err NotMember) = ⊤
IsGood (Err (NotDone status)) = ⊤
IsGood (Err NoMemory) = ⊤
IsGood (Err (Client client.ReadFault)) = ⊤
IsGood (Err (Client client.WriteFault)) = ⊤
IsGood outcome = ⊥

-- what is good stays so in memory
pub memory_good : (meant outcome : QueryOutcome) → IsGood meant → IsInMemory meant outcome → IsGood outcome
unfolding IsGood
memory_good meant (Ok text) good is = tt
memory_good meant (Err NoMemory) good is = tt
memory_good meant (Err NoKey) good is = tt
memory_good meant (Err NotMember) good is = tt
memory_good meant (Err (NotDone status)) good is = tt
memory_good meant (Err Dial) good is = subst IsGood (sym is) good
memory_good meant (Err Output) good is = subst IsGood (sym is) good
memory_good meant (Err (Client fault)) good is = subst IsGood (sym is) good

-- One call whose reply is there comes to something good, where what a query_fault would have to say isn't said.
pub told_good : Laws → {X : Type 0} (limit : ℕ) (stream : List ℕ) (P : List ℕ → List ℕ → Type 0)
    (good : BeginsWithReply limit stream P) (call : ℕ → List ℕ) (answers : ℕ → List ℕ → Result X ClientFault → Type 0)
    (means : Result X ClientFault → QueryOutcome) (answer : Result X ClientFault) (old new : ClientState)
    → Calls limit call answers answer old new → old.wire.input ≡ Some stream → old.spent ≡ false
    → ((fault : ClientFault) → answers old.xid good.reply (Err fault) → IsGood (means (Err fault)))
    → IsGood (means (Err client.ReadFault)) → IsGood (means (Err client.WriteFault))
    → ((x : X) → IsGood (means (Ok x))) → IsGood (means answer)
unfolding IsGood
told_good laws limit stream P good call answers means (Ok x) old new calls told fresh never reads writes means_good = means_good x
told_good laws limit stream P good call answers means
    (Err (client.Yp stat)) old new calls told fresh never reads writes means_good =
    never (client.Yp stat) (hears_reply laws limit stream P good (answers old.xid)
    (Err (client.Yp stat)) old new told calls.answered).by_reply
told_good laws limit stream P good call answers means
    (Err (client.Denied head)) old new calls told fresh never reads writes means_good =
    never (client.Denied head)
    (hears_reply laws limit stream P good (answers old.xid)
    (Err (client.Denied head)) old new told calls.answered).by_reply
told_good laws limit stream P good call answers means
    (Err (client.BadReply at)) old new calls told fresh never reads writes means_good =
    never (client.BadReply at)
    (hears_reply laws limit stream P good (answers old.xid)
    (Err (client.BadReply at)) old new told calls.answered).by_reply
told_good laws limit stream P good call answers means
    (Err (client.BadXid want got)) old new calls told fresh never reads writes means_good =
    never (client.BadXid want got)
    (hears_reply laws limit stream P good (answers old.xid)
    (Err (client.BadXid want got)) old new told calls.answered).by_reply
told_good laws limit stream P good call answers means
    (Err (client.Torn at)) old new calls told fresh never reads writes means_good =
    absurd (not_torn laws limit stream P good at old new told calls.answered)
told_good laws limit stream P good call answers means
    (Err (client.TooLong at)) old new calls told fresh never reads writes means_good =
    absurd (not_long laws limit stream P good at old new told calls.answered)
told_good laws limit stream P good call answers means
    (Err client.ReadFault) old new calls told fresh never reads writes means_good =
    reads
told_good laws limit stream P good call answers means
    (Err client.WriteFault) old new calls told fresh never reads writes means_good =
    writes
told_good laws limit stream P good call answers means
    (Err client.Spent) old new calls told fresh never reads writes means_good =
    absurd (let spent : old.spent ≡ true = calls.exactly.0 refl in cc)
told_good laws limit stream P good call answers means
    (Err (client.Rows row why)) old new calls told fresh never reads writes means_good =
    never (client.Rows row why)
    (hears_reply laws limit stream P good (answers old.xid)
    (Err (client.Rows row why)) old new told calls.answered).by_reply
told_good laws limit stream P good call answers means
    (Err client.NoMemory) old new calls told fresh never reads writes means_good =
    never client.NoMemory (hears_reply laws limit stream P good (answers old.xid)
    (Err client.NoMemory) old new told calls.answered).by_reply

-- the same, where the text of a value is meant
call_good : Laws → {X : Type 0} (limit : ℕ) (stream : List ℕ) (P : List ℕ → List ℕ → Type 0)
    (good : BeginsWithReply limit stream P) (call : ℕ → List ℕ) (answers : ℕ → List ℕ → Result X ClientFault → Type 0)
    (refused : ClientFault → QueryFault) (text : X → List ℕ) (answer : Result X ClientFault) (old new : ClientState)
    → Calls limit call answers answer old new → old.wire.input ≡ Some stream → old.spent ≡ false
    → ((fault : ClientFault) → answers old.xid good.reply (Err fault) → IsGood (Err (refused fault)))
    → IsGood (Err (refused client.ReadFault)) → IsGood (Err (refused client.WriteFault))
    → IsGood (meant_by refused text answer)
unfolding IsGood
call_good laws limit stream P good call answers refused text answer old new calls told fresh never reads writes =
    told_good laws limit stream P good call answers (told_by refused (λ x. Ok (text x))) answer old new calls told fresh never reads
    writes (λ x. tt)

-- ---- what isn't said

pub refused_not_ok : {V : Type 0} (said : Result V ClientFault) (fault : ClientFault) → said ≡ Err fault → IsOk said → ⊥
refused_not_ok (Ok v) fault says ok = cc
refused_not_ok (Err other) fault says ok = cc

-- a value that is said isn't refused
pub bytes_good : {X V : Type 0} (view : X → V) (said : Result V ClientFault) (fault : ClientFault) → IsOk said
    → SaysInMemory view said (Err fault) → IsGood (Err (query_fault fault))
unfolding IsGood
bytes_good view said (client.Yp stat) ok says = absurd (refused_not_ok said _ says ok)
bytes_good view said (client.Denied head) ok says = absurd (refused_not_ok said _ says ok)
bytes_good view said (client.BadReply at) ok says = absurd (refused_not_ok said _ says ok)
bytes_good view said (client.BadXid want got) ok says = absurd (refused_not_ok said _ says ok)
bytes_good view said (client.Torn at) ok says = absurd (refused_not_ok said _ says ok)
bytes_good view said (client.TooLong at) ok says = absurd (refused_not_ok said _ says ok)
bytes_good view said client.ReadFault ok says = absurd (refused_not_ok said _ says ok)
bytes_good view said client.WriteFault ok says = absurd (refused_not_ok said _ says ok)
bytes_good view said client.Spent ok says = absurd (refused_not_ok said _ says ok)
bytes_good view said (client.Rows row why) ok says = absurd (refused_not_ok said _ says ok)
bytes_good view said client.NoMemory ok says = tt

pub number_good : {X V : Type 0} (view : X → V) (said : Result V ClientFault) (fault : ClientFault) → IsOk said
    → Says view said (Err fault) → ⊥
number_good view said fault ok says = refused_not_ok said fault says ok

-- nor is a key that isn't there
key_good : (status : YpStat) → IsValueOrNone (Err (client.Yp status)) → IsGood (Err (match_fault (client.Yp status)))
unfolding IsGood
key_good stat.True found = absurd found
key_good stat.Nomore found = absurd found
key_good stat.False found = absurd found
key_good stat.Nomap found = absurd found
key_good stat.Nodom found = absurd found
key_good stat.Nokey found = tt
key_good stat.Badop found = absurd found
key_good stat.Baddb found = absurd found
key_good stat.Yperr found = absurd found
key_good stat.Badargs found = absurd found
key_good stat.Vers found = absurd found

value_good : {X : Type 0} (view : X → List ℕ) (said : Result (List ℕ) ClientFault) (fault : ClientFault) → IsValueOrNone said
    → Says view said (Err fault) → IsGood (Err (match_fault fault))
unfolding IsGood
value_good view said (client.Yp status) found says = key_good status (subst IsValueOrNone says found)
value_good view said (client.Denied head) found says = absurd (subst IsValueOrNone says found)
value_good view said (client.BadReply at) found says = absurd (subst IsValueOrNone says found)
value_good view said (client.BadXid want got) found says = absurd (subst IsValueOrNone says found)
value_good view said (client.Torn at) found says = absurd (subst IsValueOrNone says found)
value_good view said (client.TooLong at) found says = absurd (subst IsValueOrNone says found)
value_good view said client.ReadFault found says = absurd (subst IsValueOrNone says found)
value_good view said client.WriteFault found says = absurd (subst IsValueOrNone says found)
value_good view said client.Spent found says = absurd (subst IsValueOrNone says found)
value_good view said (client.Rows row why) found says = absurd (subst IsValueOrNone says found)
value_good view said client.NoMemory found says = absurd (subst IsValueOrNone says found)

rows_good : (draft : Draft) (rows : ℕ) (said : AllSaid) (fault : ClientFault) → said.end ≡ Ok tt
    → IsSaid said draft rows (Err fault) → IsGood (Err (query_fault fault))
unfolding IsGood
rows_good draft rows said (client.Yp stat) ok says =
    absurd (let other : said.end ≡ Err (client.Yp stat) = ap (λ (s : AllSaid). s.end) says in cc)
rows_good draft rows said (client.Denied head) ok says =
    absurd (let other : said.end ≡ Err (client.Denied head) = ap (λ (s : AllSaid). s.end) says in cc)
rows_good draft rows said (client.BadReply at) ok says =
    absurd (let other : said.end ≡ Err (client.BadReply at) = ap (λ (s : AllSaid). s.end) says in cc)
rows_good draft rows said (client.BadXid want got) ok says =
    absurd (let other : said.end ≡ Err (client.BadXid want got) = ap (λ (s : AllSaid). s.end) says in cc)
rows_good draft rows said (client.Torn at) ok says =
    absurd (let other : said.end ≡ Err (client.Torn at) = ap (λ (s : AllSaid). s.end) says in cc)
rows_good draft rows said (client.TooLong at) ok says =
    absurd (let other : said.end ≡ Err (client.TooLong at) = ap (λ (s : AllSaid). s.end) says in cc)
rows_good draft rows said client.ReadFault ok says =
    absurd (let other : said.end ≡ Err client.ReadFault = ap (λ (s : AllSaid). s.end) says in cc)
rows_good draft rows said client.WriteFault ok says =
    absurd (let other : said.end ≡ Err client.WriteFault = ap (λ (s : AllSaid). s.end) says in cc)
rows_good draft rows said client.Spent ok says =
    absurd (let other : said.end ≡ Err client.Spent = ap (λ (s : AllSaid). s.end) says in cc)
rows_good draft rows said (client.Rows row why) ok says =
    absurd (let other : said.end ≡ Err (client.Rows row why) = ap (λ (s : AllSaid). s.end) says in cc)
rows_good draft rows said client.NoMemory ok says = tt

-- ---- each query

rows_answered : Laws → (means : List Row → QueryOutcome) → ((rows : List Row) → IsGood (means rows))
    → (domain map : List ℕ) (stream : List ℕ)
    (good : BeginsWithReply all_max stream (λ reply rest. (all_said no_rows 1 reply).end ≡ Ok tt)) (outcome : QueryOutcome)
    (old new : ClientState) → IsFirst old → old.wire.input ≡ Some stream
    → TakesRows means domain map outcome old new → IsGood outcome
unfolding IsGood
rows_answered laws means means_good domain map stream good outcome old new first told takes =
    memory_good _ outcome (told_good laws all_max stream _ good _ _ (told_by query_fault (λ _. means (listed takes.draft.rows)))
    takes.makes.answer old new takes.makes.calls told first.spent
    (λ fault says. rows_good takes.draft says.0 (all_said no_rows 1 good.reply) fault good.good
    (subst (λ (xid : ℕ). IsSaid (all_said no_rows xid good.reply) takes.draft says.0 (Err fault)) first.xid says.1))
    tt tt (λ _. means_good (listed takes.draft.rows)))
    takes.makes.meant

transfer_good : (domain map : List ℕ) (status : XfrStat) → IsGood (transfer_told domain map status)
unfolding IsGood
transfer_good domain map Succ = tt
transfer_good domain map status = tt

making_good : (domain map : List ℕ) (status : XfrStat) → IsGood (making_told domain map status)
unfolding IsGood
making_good domain map Succ = tt
making_good domain map status = tt

member_good : (member : Bool) → IsGood (membership_outcome member)
unfolding IsGood
member_good true = tt
member_good false = tt

-- a second call of a client that was heard goes on
goes_on : {X : Type 0} (limit : ℕ) (call : ℕ → List ℕ) (answers : ℕ → List ℕ → Result X ClientFault → Type 0) (x : X)
    (old new : ClientState) → Calls limit call answers (Ok x) old new → IsFirst old
    → (new.xid ≡ 2) × (new.spent ≡ false)
goes_on limit call answers x old new calls first = (
  calls.xid ∙ ap (λ (b : Bool). cond b old.xid ((old.xid + 1) % 2 ^ 32)) first.spent
      ∙ ap (λ (n : ℕ). (n + 1) % 2 ^ 32) first.xid,
  calls.spent,
)

second_good : (xid : ℕ) (said : ℕ → List ℕ → Result (List ℕ) ClientFault) (reply : List ℕ) (fault : ClientFault) (n : ℕ)
    → xid ≡ n → IsOk (said n reply) → Says (λ (bytes : Bor (List ℕ)). bytes.now) (said xid reply) (Err fault)
    → IsGood (Err (query_fault fault))
second_good xid said reply fault n is ok says =
    absurd (number_good (λ (bytes : Bor (List ℕ)). bytes.now) (said n reply) fault ok
    (subst (λ (x : ℕ). Says (λ (bytes : Bor (List ℕ)). bytes.now) (said x reply) (Err fault)) is says))

polls_answered : Laws → (domain map : List ℕ) (stream : List ℕ)
    (good : BeginsWithReply reply_max stream
    (λ reply rest. IsOk (order_of 1 reply)
    × BeginsWithReply reply_max rest (λ second behind. IsOk (master_of 2 second)))) (outcome : QueryOutcome)
    (old new : ClientState)
    → IsFirst old → old.wire.input ≡ Some stream → (order : Result ℕ ClientFault) (mid : ClientState)
    → Calls reply_max (order_call domain map) (SaysNumber order_of) order old mid
    → MakesMaster domain map order outcome mid new → IsGood outcome
unfolding IsGood
polls_answered laws domain map stream good outcome old new first told (Ok order) mid calls follows =
    let heard = hears_reply laws reply_max stream _ good (SaysNumber order_of old.xid)
    (Ok order) old mid told calls.answered in
    let next = goes_on reply_max (order_call domain map) (SaysNumber order_of) order old mid calls first in
    memory_good _ outcome (call_good laws reply_max good.rest _ good.good.1 (master_call domain map)
    (SaysBytes master_of) query_fault
    (λ (master : Bor (List ℕ)). standing_text order master.now) follows.answer mid new follows.calls heard.left
    next.1
    (λ fault says. second_good mid.xid master_of good.good.1.reply fault 2 next.0 good.good.1.good says) tt tt)
    follows.meant
polls_answered laws domain map stream good outcome old new first told (Err fault) mid calls follows =
    subst IsGood (sym follows.0)
    (call_good laws reply_max stream _ good (order_call domain map) (SaysNumber order_of) query_fault (λ (n : ℕ). [])
    (Err fault) old mid calls told first.spent
    (λ why says. absurd (number_good (λ (n : ℕ). n) (order_of 1 good.reply) why good.good.0
    (subst (λ (x : ℕ). Says (λ (n : ℕ). n) (order_of x good.reply) (Err why)) first.xid says))) tt tt)

calls_answered : Laws → (question : ByteQuestion) (stream : List ℕ) (outcome : QueryOutcome) (old new : ClientState)
    → HasAnswer question stream → IsFirst old → old.wire.input ≡ Some stream → MakesCalls question outcome old new
    → IsGood outcome
unfolding IsGood
calls_answered laws (Cat domain map) stream outcome old new good first told makes =
    rows_answered laws (rows_told false) (λ rows. tt) domain map stream good outcome old new first told makes
calls_answered laws (Catk domain map) stream outcome old new good first told makes =
    rows_answered laws (rows_told true) (λ rows. tt) domain map stream good outcome old new first told makes
calls_answered laws (Innetgr domain group host user user_domain) stream outcome old new good first told makes =
    let asked : SoughtMember = record { host = host; user = user; domain = user_domain } in
    rows_answered laws (membership_told group asked) (λ rows. member_good (is_member rows group asked)) domain netgroup
    stream good outcome old new first told makes
calls_answered laws (Match domain map key) stream outcome old new good first told makes =
    memory_good _ outcome (call_good laws reply_max stream _ good (match_call domain map key)
    (SaysBytes value_of) match_fault
    (λ (value : Bor (List ℕ)). line value.now) makes.answer old new makes.calls told first.spent
    (λ fault says. value_good (λ (bytes : Bor (List ℕ)). bytes.now) (value_of 1 good.reply) fault good.good
    (subst (λ (x : ℕ). Says (λ (bytes : Bor (List ℕ)). bytes.now) (value_of x good.reply) (Err fault)) first.xid
    says)) tt tt) makes.meant
calls_answered laws (Which domain map) stream outcome old new good first told makes =
    memory_good _ outcome (call_good laws reply_max stream _ good (master_call domain map)
    (SaysBytes master_of) query_fault
    (λ (master : Bor (List ℕ)). line master.now) makes.answer old new makes.calls told first.spent
    (λ fault says. second_good old.xid master_of good.reply fault 1 first.xid good.good says) tt tt) makes.meant
calls_answered laws (Poll domain map) stream outcome old new good first told makes =
    polls_answered laws domain map stream good outcome old new first told makes.order makes.mid makes.calls
    makes.follows
calls_answered laws (Maps domain) stream outcome old new good first told makes =
    memory_good _ outcome (call_good laws reply_max stream _ good (maplist_call domain) (SaysNames maps_of) query_fault
    (λ (list : MapList). lines list.maps) makes.answer old new makes.calls told first.spent
    (λ fault says. bytes_good (λ (list : MapList). list.maps) (maps_of 1 good.reply) fault good.good
    (subst (λ (x : ℕ). SaysInMemory (λ (list : MapList). list.maps) (maps_of x good.reply) (Err fault)) first.xid
    says)) tt tt) makes.meant
calls_answered laws (Pull domain map source) stream outcome old new good first told makes =
    memory_good _ outcome (told_good laws reply_max stream _ good (pull_call domain map source) (SaysStat taken_of)
    (told_by query_fault (transfer_told domain map)) makes.answer old new makes.calls told first.spent
    (λ fault says. absurd (number_good xfr_number (taken_of 1 good.reply) fault good.good
    (subst (λ (x : ℕ). Says xfr_number (taken_of x good.reply) (Err fault)) first.xid says))) tt tt
    (transfer_good domain map)) makes.meant
calls_answered laws (Make domain map) stream outcome old new good first told makes =
    memory_good _ outcome (told_good laws reply_max stream _ good (make_named_call domain map) (SaysStat made_of)
    (told_by query_fault (making_told domain map)) makes.answer old new makes.calls told first.spent
    (λ fault says. absurd (number_good xfr_number (made_of 1 good.reply) fault good.good
    (subst (λ (x : ℕ). Says xfr_number (made_of x good.reply) (Err fault)) first.xid says))) tt tt
    (making_good domain map)) makes.meant

-- ---- the wire that came

pub last_same : {A : Type 0} (xs : List A) (x y : A) → xs ++ x ∷ [] ≡ xs ++ y ∷ [] → x ≡ y
last_same [] x y e = cc
last_same (z ∷ xs) x y e = let rest : xs ++ x ∷ [] ≡ xs ++ y ∷ [] = cc in last_same xs x y rest

input_is : (wire other : Connected) (last : WireState) (mid : Option Wires) (before after : Wires)
    → WireComes wire (Some before) mid → GoesBack last mid (Some after) → after.came ≡ before.came ++ other ∷ []
    → wire.input ≡ other.input
input_is wire other last None before after comes back came = absurd comes
input_is wire other last (Some others) before after comes back came =
    let first : others.came ≡ before.came ++ wire ∷ [] = ap (λ (w : Wires). w.came) comes in
    let second : after.came ≡ others.came = ap (λ (w : Wires). w.came) back in
    ap (λ (w : Connected). w.input) (last_same before.came wire other (sym first ∙ sym second ∙ came))

exchanged_good : Laws → (peer : Peer) (question : ByteQuestion) (stream : List ℕ) (outcome : QueryOutcome)
    (old new : Dialing) → HasAnswer question stream → HasCome peer stream old.past new.past
    → Exchanges peer (Converses question) outcome old new → IsGood outcome
unfolding IsGood
exchanged_good laws peer question stream outcome old new good came did =
    let wire = connected peer did.first.wire.input did.first.wire.output in
    let comes : WireComes wire (Some came.before) did.dialed.middle =
    subst (λ (w : Option Wires). WireComes wire w did.dialed.middle) came.was did.dialed.comes in
    let back : GoesBack did.last.wire did.dialed.middle (Some came.after) =
    subst (λ (w : Option Wires). GoesBack did.last.wire did.dialed.middle w) came.is did.dialed.goes_back in
    let told = input_is wire (connected peer (Some stream) came.sent) did.last.wire did.dialed.middle came.before
    came.after comes back came.came in
    elim did.converses [
      | inl makes ↦ calls_answered laws question stream outcome did.first did.last good did.dialed.begins told makes
      | inr none ↦ subst IsGood (sym none.0) tt
    ]

-- ---- the whole

module _ (laws : Laws) (peer : Peer) (question : ByteQuestion) (stream : List ℕ) (old new : QueryTells)
    (good : HasAnswer question stream) (came : HasCome peer stream old.dial.past new.dial.past)
    (dial : HasRisen old.dial.faults new.dial.faults → ⊥) (sink : HasRisen old.faults new.faults → ⊥) where
  refused_never : (fault : QueryFault) (outcome : QueryOutcome) → outcome ≡ Err fault
      → Exchanges peer (Converses question) outcome old.dial new.dial → IsGood (Err fault)
  refused_never fault outcome is did =
      subst IsGood is (exchanged_good laws peer question stream outcome old.dial new.dial good came did)

  pub query_completes : (result : Result (Unit {0}) QueryFault) → Asks peer question result old new
      → IfErr result (λ fault. HasQueryCause fault old new) → QueryIsAnswered result
  unfolding IsGood
  query_completes (Ok done) asks cause = tt
  query_completes (Err NoKey) asks cause = tt
  query_completes (Err NotMember) asks cause = tt
  query_completes (Err (NotDone status)) asks cause = tt
  query_completes (Err NoMemory) asks cause = tt
  query_completes (Err Dial) asks cause = dial cause
  query_completes (Err Output) asks cause = sink cause
  query_completes (Err (Client client.ReadFault)) asks cause = dial cause
  query_completes (Err (Client client.WriteFault)) asks cause = dial cause
  query_completes (Err (Client (client.Yp stat))) asks cause =
      refused_never (Client (client.Yp stat)) asks.0 asks.2.0 asks.1
  query_completes (Err (Client (client.Denied head))) asks cause =
      refused_never (Client (client.Denied head)) asks.0 asks.2.0 asks.1
  query_completes (Err (Client (client.BadReply at))) asks cause =
      refused_never (Client (client.BadReply at)) asks.0 asks.2.0 asks.1
  query_completes (Err (Client (client.BadXid want got))) asks cause =
      refused_never (Client (client.BadXid want got)) asks.0 asks.2.0 asks.1
  query_completes (Err (Client (client.Torn at))) asks cause =
      refused_never (Client (client.Torn at)) asks.0 asks.2.0 asks.1
  query_completes (Err (Client (client.TooLong at))) asks cause =
      refused_never (Client (client.TooLong at)) asks.0 asks.2.0 asks.1
  query_completes (Err (Client client.Spent)) asks cause = refused_never (Client client.Spent) asks.0 asks.2.0 asks.1
  query_completes (Err (Client (client.Rows row why))) asks cause =
      refused_never (Client (client.Rows row why)) asks.0 asks.2.0 asks.1
  query_completes (Err (Client client.NoMemory)) asks cause =
      refused_never (Client client.NoMemory) asks.0 asks.2.0 asks.1
