-- The laws of the calls of a client.
use Rattle.std.proofs.Common.{◌≡◌, ℕ, List, Some, Result, Ok, Err, sym, ap, ◌∙◌, inl, inr}
use Rattle.yp_client.specs.declared.fault.ClientFault.{ClientFault}
use Rattle.yp_client.specs.declared.fault.ClientFault.TheVariants.{ReadFault, WriteFault, NoMemory}
use Rattle.yp_client.specs.Limits.{all_max}
use Rattle.yp_client.specs.Asked.{all_call}
use Rattle.yp_client.specs.States.{ClientState}
use Rattle.yp_client.specs.Results.{Says, SaysInMemory}
use Rattle.yp_client.specs.All.{AllSaid, all_said, IsSaid, SaysAll}
use Rattle.yp_version.specs.Drafts.{Draft}
use Rattle.yp_end_to_end.specs.inside.exchange.CallLaws.{LeavesInput, AnswersAsTold, AnswersInMemory, AllAnswersAsTold}
use Rattle.yp_end_to_end.specs.inside.exchange.CallLaws.{AnswerIsTold, NamesAreTold, RowsAreTold}
use Rattle.yp_end_to_end.proofs.exchange.Hearing.{Records, IsWireFault, call_heard}
use Rattle.yp_end_to_end.proofs.exchange.Queries.{tells_of}

-- ---- calls without memory

wire_told : {X V : Type 0} (view : X → V) (expected : Result V ClientFault) (rest : List ℕ) (answer : Result X ClientFault) (new : ClientState) → IsWireFault answer → AnswersAsTold view expected rest answer new
wire_told view expected rest (Err ReadFault) new is = tt
wire_told view expected rest (Err WriteFault) new is = tt
wire_told view expected rest (Err fault) new is = absurd is
wire_told view expected rest (Ok x) new is = absurd is

says_told : {X V : Type 0} (view : X → V) (said expected : Result V ClientFault) (rest : List ℕ) (answer : Result X ClientFault) (new : ClientState) → said ≡ expected → Says view said answer → LeavesInput rest new
    → AnswersAsTold view expected rest answer new
says_told view said expected rest (Err ReadFault) new is says left = tt
says_told view said expected rest (Err WriteFault) new is says left = tt
says_told view said expected rest (Ok x) new is says left = (sym is ∙ says, left)
says_told view said expected rest (Err fault) new is says left = (sym is ∙ says, left)

pub answer_told : Records → {X V : Type 0} (view : X → V) → AnswerIsTold view
answer_told laws view maps peer limit call said expected rest answer old new next tells calls =
    let good = next.gives in
    let is = tells_of maps peer limit (call old.xid) (said old.xid) expected good.reply tells good.good.0 in
    elim (call_heard laws limit next.stream _ good call (λ xid message result. Says view (said xid message) result) old new next.input answer calls next.fresh) [
      | inr failed ↦ wire_told view expected rest answer new failed
      | inl heard ↦ says_told view (said old.xid good.reply) expected rest answer new is heard.by_reply (heard.left ∙ ap (λ (behind : List ℕ). Some behind) good.good.1)
    ]

-- ---- names

wire_in_memory : {X V : Type 0} (view : X → V) (expected : Result V ClientFault) (rest : List ℕ) (answer : Result X ClientFault) (new : ClientState) → IsWireFault answer → AnswersInMemory view expected rest answer new
wire_in_memory view expected rest (Err ReadFault) new is = tt
wire_in_memory view expected rest (Err WriteFault) new is = tt
wire_in_memory view expected rest (Err fault) new is = absurd is
wire_in_memory view expected rest (Ok x) new is = absurd is

told_in_memory : {X V : Type 0} (view : X → V) (said expected : Result V ClientFault) (rest : List ℕ) (answer : Result X ClientFault) (new : ClientState) → said ≡ expected → SaysInMemory view said answer → LeavesInput rest new
    → AnswersInMemory view expected rest answer new
told_in_memory view said expected rest (Err ReadFault) new is says left = tt
told_in_memory view said expected rest (Err WriteFault) new is says left = tt
told_in_memory view said expected rest (Err NoMemory) new is says left = left
told_in_memory view said expected rest (Ok x) new is says left = (sym is ∙ says, left)
told_in_memory view said expected rest (Err fault) new is says left = (sym is ∙ says, left)

pub names_are_told : Records → NamesAreTold
names_are_told laws maps peer limit call said expected rest answer old new next tells calls =
    let good = next.gives in
    let is = tells_of maps peer limit (call old.xid) (said old.xid) expected good.reply tells good.good.0 in
    elim (call_heard laws limit next.stream _ good call (λ xid message result. SaysInMemory (λ list. list.maps) (said xid message) result) old new next.input answer calls next.fresh) [
      | inr failed ↦ wire_in_memory (λ list. list.maps) expected rest answer new failed
      | inl heard ↦ told_in_memory (λ list. list.maps) (said old.xid good.reply) expected rest answer new is heard.by_reply (heard.left ∙ ap (λ (behind : List ℕ). Some behind) good.good.1)
    ]

-- ---- rows

wire_all : (expected : AllSaid) (rest : List ℕ) (draft : Draft) (answer : Result (Unit {0}) ClientFault) (new : ClientState) → IsWireFault answer → AllAnswersAsTold expected rest draft answer new
wire_all expected rest draft (Err ReadFault) new is = tt
wire_all expected rest draft (Err WriteFault) new is = tt
wire_all expected rest draft (Err fault) new is = absurd is
wire_all expected rest draft (Ok done) new is = absurd is

rows_told : (said expected : AllSaid) (rest : List ℕ) (draft : Draft) (rows : ℕ) (answer : Result (Unit {0}) ClientFault) (new : ClientState) → said ≡ expected → IsSaid said draft rows answer → LeavesInput rest new
    → AllAnswersAsTold expected rest draft answer new
rows_told said expected rest draft rows (Err ReadFault) new is says left = tt
rows_told said expected rest draft rows (Err WriteFault) new is says left = tt
rows_told said expected rest draft rows (Err NoMemory) new is says left = left
rows_told said expected rest draft rows (Ok done) new is says left =
    (ap (λ (s : AllSaid). s.draft) (sym is ∙ says), ap (λ (s : AllSaid). s.end) (sym is ∙ says), left)
rows_told said expected rest draft rows (Err fault) new is says left =
    (ap (λ (s : AllSaid). s.draft) (sym is ∙ says), ap (λ (s : AllSaid). s.end) (sym is ∙ says), left)

pub rows_are_told : Records → RowsAreTold
rows_are_told laws maps peer domain map draft after expected rest answer old new next tells calls =
    let good = next.gives in
    let is = tells_of maps peer all_max (all_call domain map old.xid) (all_said draft old.xid) expected good.reply tells good.good.0 in
    elim (call_heard laws all_max next.stream _ good (all_call domain map) (SaysAll draft after) old new next.input answer calls next.fresh) [
      | inr failed ↦ wire_all expected rest after answer new failed
      | inl heard ↦ rows_told (all_said draft old.xid good.reply) expected rest after heard.by_reply.0 answer new is heard.by_reply.1 (heard.left ∙ ap (λ (behind : List ℕ). Some behind) good.good.1)
    ]
