-- What calls fetch is what the bytes of their replies say.
use Rattle.std.proofs.Common.{◌≡◌, ℕ, ◌+◌, ◌≤◌, ◌%◌, ◌^◌, ◌⊎◌, Bool, true, false, List, [], ◌++◌, Option, Some, None}
use Rattle.std.proofs.Common.{Result, Ok, Err, refl, sym, ◌∙◌, ap, subst, inl, inr, arith, cond}
use Rattle.std.specs.Borrow.{Bor}
use Rattle.std.specs.Io.KnownBytes.{Consumes, IsAtEnd}
use Rattle.std.proofs.lemmas.List.{append-nil}
use Rattle.yp_io.specs.Counts.{HasRisen}
use Rattle.yp_rpc.specs.Records.{IsTorn}
use Rattle.yp_version.specs.Drafts.{Draft, empty_draft}
use Rattle.yp_client.specs.declared.fault.ClientFault.{ClientFault}
use Rattle.yp_client.specs.declared.fault.ClientFault.TheVariants as client
use Rattle.yp_client.specs.Limits.{reply_max, all_max}
use Rattle.yp_client.specs.Results.{Says, order_of, master_of}
use Rattle.yp_client.specs.Said.{SaysNumber, SaysBytes}
use Rattle.yp_client.specs.All.{AllSaid, all_said, SaysAll}
use Rattle.yp_client.specs.Asked.{order_call, master_call, all_call}
use Rattle.yp_client.specs.States.{ClientState}
use Rattle.yp_client.specs.Calls.{Calls, HearsReply, NoReply}
use Rattle.yp_transfer.specs.declared.fault.XfrFault.{XfrFault}
use Rattle.yp_transfer.specs.declared.fault.XfrFault.TheVariants.{NoMemory}
use Rattle.yp_transfer.specs.Faults.{of_client}
use Rattle.yp_transfer.specs.Fetching.{FetchOutcome, Course, Unless, ByAnswer, AsksThen, InMemory, Gives, Wanted, AsksAgain, AsksRows}
use Rattle.yp_transfer.specs.Fetching.{AsksMaster, against_names, against_order, against_master, against_second}
use Rattle.yp_transfer.specs.Fetched.{StreamPlace, place_of, IsUnreplied, ReadsReply, draft_of, rows_of, by_bytes}
use Rattle.yp_transfer.specs.Fetched.{FailsByWire, IsFetched}
use Rattle.yp_transfer.specs.Called.{CallsMaster, CallsAll, by_calls, FetchesByCalls}

-- ---- told bytes

taken : (b : Option (List ℕ)) (stream bytes : List ℕ) → Consumes (Some stream) b bytes
    → (rest : List ℕ) × (b ≡ Some rest) × (stream ≡ bytes ++ rest)
taken None stream bytes h = absurd h
taken (Some ys) stream bytes h = (ys, refl, h)

ended : (a : Option (List ℕ)) (rest : List ℕ) → a ≡ Some rest → IsAtEnd a → rest ≡ []
ended None rest e h = absurd cc
ended (Some xs) rest e h = let same : xs ≡ rest = cc in sym same ∙ h

rises_from : (a b c : ℕ) → a ≤ b → HasRisen b c → HasRisen a c
rises_from a b c le risen = grind (arith, le, risen)

-- ---- one call

-- where the next reply should begin
here : ClientState → List ℕ → StreamPlace
here client stream = place_of client.xid client.place stream

-- the client goes on from this place
record GoesOnAt (client : ClientState) (place : StreamPlace) : Type 0 where
  rest : List ℕ
  place_is : place ≡ place_of client.xid client.place rest
  input : client.wire.input ≡ Some rest
  unspent : client.spent ≡ false

-- the answer is that of the bytes
record IsRead {V : Type 0} (limit : ℕ) (said : ℕ → List ℕ → Result V ClientFault) (answer : Result V ClientFault)
    (stream : List ℕ) (old new : ClientState) : Type 0 where
  place : StreamPlace
  reads : ReadsReply limit said answer (place_of old.xid old.place stream) place
  goes_on : (value : V) → answer ≡ Ok value → GoesOnAt new place

-- the wire failed
Failed : {V : Type 0} → Result V ClientFault → ClientState → ClientState → Type 0
Failed answer old new =
    ((answer ≡ Err client.ReadFault) × HasRisen old.reads new.reads)
    ⊎ ((answer ≡ Err client.WriteFault) × HasRisen old.writes new.writes)

-- or memory ran out
Comes : {V : Type 0} → ℕ → (ℕ → List ℕ → Result V ClientFault) → Result V ClientFault → List ℕ → ClientState
    → ClientState → Type 0
Comes limit said answer stream old new =
    IsRead limit said answer stream old new ⊎ (Failed answer old new ⊎ (answer ≡ Err client.NoMemory))

record Step {V : Type 0} (limit : ℕ) (said : ℕ → List ℕ → Result V ClientFault) (answer : Result V ClientFault)
    (stream : List ℕ) (old new : ClientState) : Type 0 where
  comes : Comes limit said answer stream old new
  reads : old.reads ≤ new.reads
  writes : old.writes ≤ new.writes

-- What a call answers is what a reply says, or memory ran out for that. A fault of the call is that of the answer.
record Means {X V : Type 0} (answers : ℕ → List ℕ → Result X ClientFault → Type 0)
    (said : ℕ → List ℕ → Result V ClientFault) (lent : Result X ClientFault) (answer : Result V ClientFault)
    : Type 0 where
  says : (xid : ℕ) (reply : List ℕ) → answers xid reply lent
      → (said xid reply ≡ answer) ⊎ (answer ≡ Err client.NoMemory)
  fault : (why : ClientFault) → lent ≡ Err why → answer ≡ Err why

never_both : {V : Type 0} (answer : Result V ClientFault) (why : ClientFault) (value : V) → answer ≡ Err why
    → answer ≡ Ok value → ⊥
never_both (Ok v) why value refused found = cc
never_both (Err fault) why value refused found = cc

module _ {X V : Type 0} (limit : ℕ) (call : ℕ → List ℕ) (answers : ℕ → List ℕ → Result X ClientFault → Type 0)
    (said : ℕ → List ℕ → Result V ClientFault) (answer : Result V ClientFault) (old new : ClientState)
    (stream : List ℕ) (told : old.wire.input ≡ Some stream) (unspent : old.spent ≡ false) where
  consumed : (bytes : List ℕ) → Consumes old.wire.input new.wire.input bytes
      → (rest : List ℕ) × (new.wire.input ≡ Some rest) × (stream ≡ bytes ++ rest)
  consumed bytes h =
      taken new.wire.input stream bytes (subst (λ (i : Option (List ℕ)). Consumes i new.wire.input bytes) told h)

  next_xid : (lent : Result X ClientFault) → Calls limit call answers lent old new → new.xid ≡ (old.xid + 1) % 2 ^ 32
  next_xid lent calls =
      calls.xid ∙ ap (λ (b : Bool). cond b old.xid ((old.xid + 1) % 2 ^ 32)) unspent

  -- a reply that was heard
  heard : (lent : Result X ClientFault) → Calls limit call answers lent old new → Means answers said lent answer
      → HearsReply limit (answers old.xid) lent old new → ((value : V) → answer ≡ Ok value → new.spent ≡ false)
      → Comes limit said answer stream old new
  unfolding Comes
  heard lent calls means hears goes_on =
      let behind = consumed hears.taken.bytes hears.taken.taken in
      elim (means.says old.xid hears.reply hears.answered) [
        | inl says ↦ inl (record {
          place = place_of new.xid new.place behind.0;
          reads = inl (record {
            reply = hears.reply;
            taken = hears.taken.bytes;
            fragments = hears.taken.fragments;
            whole = behind.2;
            says = says;
            at = hears.taken.counted;
            xid = next_xid lent calls;
          });
          goes_on = λ value is. record {
            rest = behind.0;
            place_is = refl;
            input = behind.1;
            unspent = goes_on value is;
          };
        })
        | inr memory ↦ inr (inr memory)
      ]

  -- none was
  unheard : (why : ClientFault) → answer ≡ Err why → IsUnreplied limit answer (place_of old.xid old.place stream)
      → Comes limit said answer stream old new
  unfolding Comes
  unheard why is none = inl (record {
    place = place_of old.xid old.place stream;
    reads = inr (none, refl);
    goes_on = λ value found. absurd (never_both answer why value is found);
  })

  torn : (at : ℕ) → NoReply limit (client.Torn at) old new → answer ≡ Err (client.Torn at)
      → Comes limit said answer stream old new
  torn at (inl cause) is =
      let behind = consumed cause.1 cause.3 in
      let all : cause.1 ≡ stream =
      sym (behind.2 ∙ ap (λ (l : List ℕ). cause.1 ++ l) (ended new.wire.input behind.0 behind.1 cause.4)
      ∙ append-nil cause.1) in
      unheard (client.Torn at) is
      (inl (inr (subst (IsTorn limit) all cause.2), is ∙ ap (λ (n : ℕ). Err (client.Torn n)) cause.0))
  torn at (inr cause) is =
      let behind = consumed [] cause.1.0 in
      let none : stream ≡ [] = behind.2 ∙ ended new.wire.input behind.0 behind.1 cause.1.1 in
      unheard (client.Torn at) is (inl (inl none, is ∙ ap (λ (n : ℕ). Err (client.Torn n)) cause.0))

  long : (at : ℕ) → NoReply limit (client.TooLong at) old new → answer ≡ Err (client.TooLong at)
      → Comes limit said answer stream old new
  long at cause is =
      let behind = consumed cause.1 cause.3 in
      unheard (client.TooLong at) is
      (inr ((cause.1, behind.0, cause.2, behind.2), is ∙ ap (λ (n : ℕ). Err (client.TooLong n)) cause.0))

  stops : (why : ClientFault) → answer ≡ Err why → (value : V) → answer ≡ Ok value → new.spent ≡ false
  stops why is value found = absurd (never_both answer why value is found)

  comes : (lent : Result X ClientFault) → Calls limit call answers lent old new → Means answers said lent answer
      → Comes limit said answer stream old new
  unfolding Comes Failed
  comes (Ok x) calls means = heard (Ok x) calls means calls.answered (λ value is. calls.spent)
  comes (Err (client.Yp stat)) calls means =
      heard (Err (client.Yp stat)) calls means calls.answered (stops _ (means.fault _ refl))
  comes (Err (client.Denied head)) calls means =
      heard (Err (client.Denied head)) calls means calls.answered (stops _ (means.fault _ refl))
  comes (Err (client.BadReply at)) calls means =
      heard (Err (client.BadReply at)) calls means calls.answered (stops _ (means.fault _ refl))
  comes (Err (client.BadXid want got)) calls means =
      heard (Err (client.BadXid want got)) calls means calls.answered (stops _ (means.fault _ refl))
  comes (Err (client.Torn at)) calls means = torn at calls.answered (means.fault _ refl)
  comes (Err (client.TooLong at)) calls means = long at calls.answered (means.fault _ refl)
  comes (Err client.ReadFault) calls means = inr (inl (inl (means.fault _ refl, calls.answered.0)))
  comes (Err client.WriteFault) calls means = inr (inl (inr (means.fault _ refl, calls.answered.0)))
  comes (Err client.Spent) calls means = absurd (let spent : old.spent ≡ true = calls.exactly.0 refl in cc)
  comes (Err (client.Rows row why)) calls means =
      heard (Err (client.Rows row why)) calls means calls.answered (stops _ (means.fault _ refl))
  comes (Err client.NoMemory) calls means =
      heard (Err client.NoMemory) calls means calls.answered (stops _ (means.fault _ refl))

  step : (lent : Result X ClientFault) → Calls limit call answers lent old new → Means answers said lent answer
      → Step limit said answer stream old new
  step lent calls means =
      record { comes = comes lent calls means; reads = calls.reads; writes = calls.writes }

-- ---- the three kinds of calls

says_means : {X V : Type 0} (view : X → V) (said : ℕ → List ℕ → Result V ClientFault) (lent : Result X ClientFault)
    (answer : Result V ClientFault) → Says view answer lent
    → Means (λ xid reply result. Says view (said xid reply) result) said lent answer
says_means {X} {V} view said (Ok x) answer seen =
    record { says = λ xid reply says. inl (says ∙ sym seen); fault = λ why is. absurd cc }
says_means {X} {V} view said (Err fault) answer seen = record {
  says = λ xid reply says. inl (says ∙ sym seen);
  fault = λ why is. seen ∙ is_same_fault fault why is;
}
  where
    is_same_fault : (a b : ClientFault) → (let x : Result X ClientFault = Err a in x) ≡ Err b → (let y : Result V ClientFault = Err a in y) ≡ Err b
    is_same_fault a b e = let same : a ≡ b = cc in ap (λ (f : ClientFault). Err f) same

bytes_mean : (lent : Result (Bor (List ℕ)) ClientFault) (answer : Result (List ℕ) ClientFault)
    → Says (λ master. master.now) answer lent → Means (SaysBytes master_of) master_of lent answer
bytes_mean lent answer seen = says_means (λ (master : Bor (List ℕ)). master.now) master_of lent answer seen

number_means : (answer : Result ℕ ClientFault) → Means (SaysNumber order_of) order_of answer answer
number_means (Ok order) = says_means (λ (n : ℕ). n) order_of (Ok order) (Ok order) refl
number_means (Err fault) = says_means (λ (n : ℕ). n) order_of (Err fault) (Err fault) refl

-- a refusal of ALL
refused_means : (draft after : Draft) (why : ClientFault) (answer : Result Draft ClientFault) → answer ≡ Err why
    → ((xid : ℕ) (reply : List ℕ) → SaysAll draft after xid reply (Err why)
    → (all_said draft xid reply).end ≡ Err why)
    → Means (SaysAll draft after) (rows_of draft) (Err why) answer
refused_means draft after why answer is says = record {
  says = λ xid reply said. inl
      (ap (λ (end : Result (Unit {0}) ClientFault). draft_of (all_said draft xid reply).draft end) (says xid reply said)
      ∙ sym is);
  fault = λ other same. let e : why ≡ other = cc in is ∙ ap (λ (f : ClientFault). Err f) e;
}

rows_mean : (draft after : Draft) (done : Result (Unit {0}) ClientFault) (answer : Result Draft ClientFault)
    → Says (λ _. after) answer done → Means (SaysAll draft after) (rows_of draft) done answer
rows_mean draft after (Ok done) answer seen = record {
  says = λ xid reply said. inl
      (ap (λ (said : AllSaid). draft_of said.draft said.end) said.1 ∙ sym seen);
  fault = λ why is. absurd cc;
}
rows_mean draft after (Err (client.Yp stat)) answer seen =
    refused_means draft after _ answer seen (λ xid reply said. ap (λ (s : AllSaid). s.end) said.1)
rows_mean draft after (Err (client.Denied head)) answer seen =
    refused_means draft after _ answer seen (λ xid reply said. ap (λ (s : AllSaid). s.end) said.1)
rows_mean draft after (Err (client.BadReply at)) answer seen =
    refused_means draft after _ answer seen (λ xid reply said. ap (λ (s : AllSaid). s.end) said.1)
rows_mean draft after (Err (client.BadXid want got)) answer seen =
    refused_means draft after _ answer seen (λ xid reply said. ap (λ (s : AllSaid). s.end) said.1)
rows_mean draft after (Err (client.Torn at)) answer seen =
    refused_means draft after _ answer seen (λ xid reply said. ap (λ (s : AllSaid). s.end) said.1)
rows_mean draft after (Err (client.TooLong at)) answer seen =
    refused_means draft after _ answer seen (λ xid reply said. ap (λ (s : AllSaid). s.end) said.1)
rows_mean draft after (Err client.ReadFault) answer seen =
    refused_means draft after _ answer seen (λ xid reply said. ap (λ (s : AllSaid). s.end) said.1)
rows_mean draft after (Err client.WriteFault) answer seen =
    refused_means draft after _ answer seen (λ xid reply said. ap (λ (s : AllSaid). s.end) said.1)
rows_mean draft after (Err client.Spent) answer seen =
    refused_means draft after _ answer seen (λ xid reply said. ap (λ (s : AllSaid). s.end) said.1)
rows_mean draft after (Err (client.Rows row why)) answer seen =
    refused_means draft after _ answer seen (λ xid reply said. ap (λ (s : AllSaid). s.end) said.1)
rows_mean draft after (Err client.NoMemory) answer seen =
    record { says = λ xid reply said. inr seen; fault = λ why is. let e : client.NoMemory ≡ why = cc in seen ∙ ap (λ (f : ClientFault). Err f) e }

-- ---- in turn

Ends : Course StreamPlace → FetchOutcome → ClientState → ClientState → List ℕ → Type 0
Ends course outcome old new stream =
    ((last : StreamPlace) × course outcome (place_of old.xid old.place stream) last)
    ⊎ (FailsByWire outcome old new ⊎ (outcome ≡ Err NoMemory))

-- what comes of the calls is what comes of the bytes, unless the wire fails or memory runs out
Translates : Course ClientState → Course StreamPlace → Type 0
Translates called read =
    (outcome : FetchOutcome) (old new : ClientState) (stream : List ℕ) → old.wire.input ≡ Some stream → old.spent ≡ false
    → called outcome old new → Ends read outcome old new stream

-- a wire that failed later has failed since
fails_from : (outcome : FetchOutcome) (old middle new : ClientState) → old.reads ≤ middle.reads
    → old.writes ≤ middle.writes → FailsByWire outcome middle new → FailsByWire outcome old new
fails_from outcome old middle new reads writes (is, inl risen) =
    (is, inl (rises_from old.reads middle.reads new.reads reads risen))
fails_from outcome old middle new reads writes (is, inr risen) =
    (is, inr (rises_from old.writes middle.writes new.writes writes risen))

module _ {V : Type 0} (limit : ℕ) (said : ℕ → List ℕ → Result V ClientFault) (follows : V → Course ClientState)
    (then : V → Course StreamPlace) (next : (value : V) → Translates (follows value) (then value))
    (outcome : FetchOutcome) (old new : ClientState) (stream : List ℕ) where
  goes_on : (answer : Result V ClientFault) (middle : ClientState) → Step limit said answer stream old middle
      → ByAnswer follows answer outcome middle new → Ends (AsksThen (ReadsReply limit said) then) outcome old new stream
  unfolding Ends Failed Comes Translates
  goes_on (Ok value) middle made more = elim made.comes [
    | inl read ↦
        let at = read.goes_on value refl in
        elim (next value outcome middle new at.rest at.input at.unspent more) [
          | inl found ↦ inl (
            found.0,
            record {
              answer = Ok value;
              middle = read.place;
              answered = read.reads;
              goes_on = subst (λ (p : StreamPlace). then value outcome p found.0) (sym at.place_is) found.1;
            },
          )
          | inr others ↦ inr (elim others [
            | inl fails ↦ inl (fails_from outcome old middle new made.reads made.writes fails)
            | inr memory ↦ inr memory
          ])
        ]
    | inr others ↦ elim others [
      | inl failed ↦ elim failed [ inl read ↦ absurd (never_both _ _ value read.0 refl) | inr wrote ↦ absurd (never_both _ _ value wrote.0 refl) ]
      | inr memory ↦ absurd (never_both _ _ value memory refl)
    ]
  ]
  goes_on (Err fault) middle made more = elim made.comes [
    | inl read ↦ inl (
      read.place,
      record {
        answer = Err fault;
        middle = read.place;
        answered = read.reads;
        goes_on = (more.0, refl);
      },
    )
    | inr others ↦ inr (elim others [
      | inl failed ↦ inl (elim failed [
        | inl read ↦ (more.0 ∙ same fault client.ReadFault read.0, inl (subst (λ (s : ClientState). HasRisen old.reads s.reads) (sym more.1) read.1))
        | inr wrote ↦ (more.0 ∙ same fault client.WriteFault wrote.0, inr (subst (λ (s : ClientState). HasRisen old.writes s.writes) (sym more.1) wrote.1))
      ])
      | inr memory ↦ inr (more.0 ∙ same fault client.NoMemory memory)
    ])
  ]
    where
      same : (a b : ClientFault) → (let x : Result V ClientFault = Err a in x) ≡ Err b → (let y : FetchOutcome = Err (of_client a) in y) ≡ Err (of_client b)
      same a b e = let is : a ≡ b = cc in ap (λ (f : ClientFault). Err (of_client f)) is

asks : {V : Type 0} (limit : ℕ) (said : ℕ → List ℕ → Result V ClientFault)
    (called : Result V ClientFault → ClientState → ClientState → Type 0) (follows : V → Course ClientState)
    (then : V → Course StreamPlace)
    → ((answer : Result V ClientFault) (old new : ClientState) (stream : List ℕ) → old.wire.input ≡ Some stream
    → old.spent ≡ false → called answer old new → Step limit said answer stream old new)
    → ((value : V) → Translates (follows value) (then value))
    → Translates (AsksThen called follows) (AsksThen (ReadsReply limit said) then)
unfolding Translates
asks limit said called follows then step next outcome old new stream told unspent asked =
    goes_on limit said follows then next outcome old new stream asked.answer asked.middle
    (step asked.answer old asked.middle stream told unspent asked.answered) asked.goes_on

unless : (cause : Option XfrFault) (called : Course ClientState) (read : Course StreamPlace) → Translates called read
    → Translates (Unless cause called) (Unless cause read)
unfolding Translates Ends
unless None called read next outcome old new stream told unspent comes =
    next outcome old new stream told unspent comes
unless (Some fault) called read next outcome old new stream told unspent comes =
    inl (place_of old.xid old.place stream, (comes.0, refl))

in_memory : (domain map : List ℕ) (called : Course ClientState) (read : Course StreamPlace) → Translates called read
    → Translates (InMemory (by_calls domain map) called) (InMemory by_bytes read)
unfolding Translates Ends
in_memory domain map called read next outcome old new stream told unspent (inl comes) =
    elim (next outcome old new stream told unspent comes) [
      | inl found ↦ inl (found.0, inl found.1)
      | inr others ↦ inr others
    ]
in_memory domain map called read next outcome old new stream told unspent (inr memory) = inr (inr memory.1.0)

gives : (domain map : List ℕ) (draft : Draft)
    → Translates (Gives (by_calls domain map) draft) (Gives by_bytes draft)
unfolding Translates Ends
gives domain map draft outcome old new stream told unspent comes =
    inl (place_of old.xid old.place stream, (comes.0, refl))

-- ---- the calls

order_step : (domain map : List ℕ) (answer : Result ℕ ClientFault) (old new : ClientState) (stream : List ℕ)
    → old.wire.input ≡ Some stream → old.spent ≡ false
    → Calls reply_max (order_call domain map) (SaysNumber order_of) answer old new
    → Step reply_max order_of answer stream old new
order_step domain map answer old new stream told unspent calls =
    step reply_max (order_call domain map) (SaysNumber order_of) order_of answer old new stream told unspent answer calls
    (number_means answer)

master_step : (domain map : List ℕ) (answer : Result (List ℕ) ClientFault) (old new : ClientState) (stream : List ℕ)
    → old.wire.input ≡ Some stream → old.spent ≡ false → CallsMaster domain map answer old new
    → Step reply_max master_of answer stream old new
master_step domain map answer old new stream told unspent calls =
    step reply_max (master_call domain map) (SaysBytes master_of) master_of answer old new stream told unspent calls.lent
    calls.calls (bytes_mean calls.lent answer calls.seen)

rows_step : (domain map : List ℕ) (draft : Draft) (answer : Result Draft ClientFault) (old new : ClientState)
    (stream : List ℕ) → old.wire.input ≡ Some stream → old.spent ≡ false → CallsAll domain map draft answer old new
    → Step all_max (rows_of draft) answer stream old new
rows_step domain map draft answer old new stream told unspent calls =
    step all_max (all_call domain map) (SaysAll draft calls.after) (rows_of draft) answer old new stream told unspent
    calls.done calls.calls (rows_mean draft calls.after calls.done answer calls.seen)

again : (domain map : List ℕ) (draft : Draft)
    → Translates (AsksAgain (by_calls domain map) draft) (AsksAgain by_bytes draft)
again domain map draft =
    asks reply_max order_of (by_calls domain map).order
    (λ second. Unless (against_second draft.order second) (InMemory (by_calls domain map) (Gives (by_calls domain map) draft)))
    (λ second. Unless (against_second draft.order second) (InMemory by_bytes (Gives by_bytes draft)))
    (order_step domain map)
    (λ second. unless (against_second draft.order second) _ _ (in_memory domain map _ _ (gives domain map draft)))

rows : (domain map : List ℕ) (draft : Draft)
    → Translates (AsksRows (by_calls domain map) draft) (AsksRows by_bytes draft)
rows domain map draft =
    asks all_max (rows_of draft) ((by_calls domain map).rows draft) (AsksAgain (by_calls domain map)) (AsksAgain by_bytes)
    (rows_step domain map draft) (again domain map)

master : (domain map : List ℕ) (order : ℕ)
    → Translates (AsksMaster (by_calls domain map) order) (AsksMaster by_bytes order)
master domain map order =
    asks reply_max master_of (by_calls domain map).master
    (λ name. Unless (against_master name) (InMemory (by_calls domain map) (AsksRows (by_calls domain map) (empty_draft order name))))
    (λ name. Unless (against_master name) (InMemory by_bytes (AsksRows by_bytes (empty_draft order name))))
    (master_step domain map)
    (λ name. unless (against_master name) _ _ (in_memory domain map _ _ (rows domain map (empty_draft order name))))

pub is_fetched : (wanted : Wanted) (outcome : FetchOutcome) (old new : ClientState) → old.spent ≡ false
    → FetchesByCalls wanted outcome old new → IsFetched wanted outcome old new
unfolding Translates Ends
is_fetched wanted outcome old new unspent fetches =
    λ stream told.
    unless (against_names wanted) _ _
    (asks reply_max order_of (by_calls wanted.domain wanted.map).order
    (λ order. Unless (against_order wanted order) (AsksMaster (by_calls wanted.domain wanted.map) order))
    (λ order. Unless (against_order wanted order) (AsksMaster by_bytes order))
    (order_step wanted.domain wanted.map)
    (λ order. unless (against_order wanted order) _ _ (master wanted.domain wanted.map order)))
    outcome old new stream told unspent fetches
