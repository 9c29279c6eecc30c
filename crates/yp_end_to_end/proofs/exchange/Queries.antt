-- What the calls of a question come to, where the wire gives the replies of a server.
use Rattle.std.proofs.Common.{◌≡◌, ℕ, false, List, Some, Result, Ok, Err, refl, sym, ap, ◌∙◌, subst, inl, inr, ◌⊎◌}
use Rattle.yp_io.specs.declared.stream.Peer.{Peer}
use Rattle.yp_client.specs.declared.fault.ClientFault.{ClientFault}
use Rattle.yp_client.specs.declared.fault.ClientFault.TheVariants.{ReadFault, WriteFault, NoMemory as ClientNoMemory}
use Rattle.yp_client.specs.States.{ClientState}
use Rattle.yp_client.specs.Results.{Says, SaysInMemory}
use Rattle.yp_client.specs.declared.query.fault.QueryFault.{QueryFault}
use Rattle.yp_client.specs.declared.query.fault.QueryFault.TheVariants.{Client, NoMemory}
use Rattle.yp_client.specs.query.Asked.{QueryOutcome, told_by, meant_by, IsInMemory, CallIsMade}
use Rattle.yp_client.specs.query.Complete.{BeginsWithReply}
use Rattle.yp_answer.specs.Maps.{Maps}
use Rattle.yp_answer.specs.Reply.{reply_at_once}
use Rattle.yp_end_to_end.specs.inside.exchange.Served.{ReplyTells, RepliesWith, RepliesTelling}
use Rattle.yp_end_to_end.specs.exchange.Answered.{IsOutcomeOf}
use Rattle.yp_end_to_end.proofs.exchange.Hearing.{Records, IsWireFault, call_heard}

-- ---- what it comes to

pub comes_same : (expected outcome : QueryOutcome) → outcome ≡ expected → IsOutcomeOf expected outcome
comes_same expected (Ok text) e = e
comes_same expected (Err NoMemory) e = tt
comes_same expected (Err (Client ReadFault)) e = tt
comes_same expected (Err (Client WriteFault)) e = tt
comes_same expected (Err (Client fault)) e = e
comes_same expected (Err fault) e = e

pub comes_in_memory : (expected meant outcome : QueryOutcome) → IsOutcomeOf expected meant → IsInMemory meant outcome → IsOutcomeOf expected outcome
comes_in_memory expected meant (Err NoMemory) comes is = tt
comes_in_memory expected meant (Ok text) comes is = subst (IsOutcomeOf expected) (sym is) comes
comes_in_memory expected meant (Err fault) comes is = subst (IsOutcomeOf expected) (sym is) comes

-- ---- what is said

-- the reply of a server says what is told
pub tells_at_once : {V : Type 0} (maps : Maps) (peer : Peer) (limit : ℕ) (call : List ℕ) (said : List ℕ → V) (expected : V) (bytes : List ℕ) → RepliesTelling maps peer limit call said expected
    → RepliesWith maps peer call bytes → said bytes ≡ expected
tells_at_once maps peer limit call said expected bytes tells replied =
    let same : bytes ≡ tells.bytes = let e : Some bytes ≡ Some tells.bytes = sym replied ∙ tells.replied in cc in
    ap said same ∙ tells.says

-- a reply behind which no transfer is taken is one
pub at_once : {V : Type 0} (maps : Maps) (peer : Peer) (limit : ℕ) (call : List ℕ) (said : List ℕ → V) (expected : V) → ReplyTells maps peer limit call said expected
    → RepliesTelling maps peer limit call said expected
at_once maps peer limit call said expected tells =
    record { bytes = tells.bytes; replied = ap reply_at_once tells.replied; within = tells.within; says = tells.says }

pub tells_of : {V : Type 0} (maps : Maps) (peer : Peer) (limit : ℕ) (call : List ℕ) (said : List ℕ → V) (expected : V) (bytes : List ℕ) → ReplyTells maps peer limit call said expected
    → RepliesWith maps peer call bytes → said bytes ≡ expected
tells_of maps peer limit call said expected bytes tells replied =
    tells_at_once maps peer limit call said expected bytes (at_once maps peer limit call said expected tells) replied

-- an answer, seen by view
abbrev pub viewed : {X V : Type 0} → (X → V) → Result X ClientFault → Result V ClientFault
viewed view (Ok x) = Ok (view x)
viewed view (Err fault) = Err fault

-- what takes no memory wants none
pub says_in_memory : {X V : Type 0} (view : X → V) (said : Result V ClientFault) (answer : Result X ClientFault) → Says view said answer → SaysInMemory view said answer
says_in_memory view said (Ok x) says = says
says_in_memory view said (Err ClientNoMemory) says = tt
says_in_memory view said (Err fault) says = says

-- it is what is said, unless memory ran out
in_memory : {X V : Type 0} (view : X → V) (said : Result V ClientFault) (answer : Result X ClientFault) → SaysInMemory view said answer → (said ≡ viewed view answer) ⊎ (answer ≡ Err ClientNoMemory)
in_memory view said (Ok x) says = inl says
in_memory view said (Err ClientNoMemory) says = inr refl
in_memory view said (Err fault) says = inl says

meant_viewed : {X V : Type 0} (view : X → V) (refused : ClientFault → QueryFault) (text : V → List ℕ) (answer : Result X ClientFault)
    → meant_by refused (λ x. text (view x)) answer ≡ meant_by refused text (viewed view answer)
meant_viewed view refused text (Ok x) = refl
meant_viewed view refused text (Err fault) = refl

-- want of memory, and faults of the wire, are no refusals of the call
pub record Passes (refused : ClientFault → QueryFault) : Type 0 where
  pub memory : refused ClientNoMemory ≡ NoMemory
  pub reading : refused ReadFault ≡ Client ReadFault
  pub writing : refused WriteFault ≡ Client WriteFault

pub wire_comes : {X : Type 0} (expected : QueryOutcome) (refused : ClientFault → QueryFault) (means : X → QueryOutcome) (answer : Result X ClientFault) → Passes refused → IsWireFault answer → IsOutcomeOf expected (told_by refused means answer)
wire_comes expected refused means (Err ReadFault) passes is = subst (λ (fault : QueryFault). IsOutcomeOf expected (Err fault)) (sym passes.reading) tt
wire_comes expected refused means (Err WriteFault) passes is = subst (λ (fault : QueryFault). IsOutcomeOf expected (Err fault)) (sym passes.writing) tt
wire_comes expected refused means (Ok x) passes is = absurd is
wire_comes expected refused means (Err fault) passes is = absurd is

pub memory_comes : {X : Type 0} (expected : QueryOutcome) (refused : ClientFault → QueryFault) (means : X → QueryOutcome) (answer : Result X ClientFault) → Passes refused → answer ≡ Err ClientNoMemory → IsOutcomeOf expected (told_by refused means answer)
memory_comes expected refused means answer passes is =
    subst (λ (a : Result _ ClientFault). IsOutcomeOf expected (told_by refused means a)) (sym is) (subst (λ (fault : QueryFault). IsOutcomeOf expected (Err fault)) (sym passes.memory) tt)

-- ---- one call

-- an answer is what a reply says, unless memory ran out
abbrev pub IsSaidInMemory : {X V : Type 0} → (X → V) → (ℕ → List ℕ → Result V ClientFault) → (ℕ → List ℕ → Result X ClientFault → Type 0) → Type 0
IsSaidInMemory {X} view said answers = (xid : ℕ) (message : List ℕ) (answer : Result X ClientFault) → answers xid message answer → SaysInMemory view (said xid message) answer

pub call_means : Records → {X V : Type 0} (limit n : ℕ) (stream : List ℕ) (P : List ℕ → List ℕ → Type 0) (good : BeginsWithReply limit stream P) (call : ℕ → List ℕ) (view : X → V) (said : ℕ → List ℕ → Result V ClientFault)
    (answers : ℕ → List ℕ → Result X ClientFault → Type 0) (refused : ClientFault → QueryFault) (means : X → QueryOutcome) (expected : Result V ClientFault) (to outcome : QueryOutcome) (old new : ClientState)
    → IsSaidInMemory view said answers → Passes refused → ((answer : Result X ClientFault) → viewed view answer ≡ expected → told_by refused means answer ≡ to) → CallIsMade limit call answers (told_by refused means) outcome old new
    → old.wire.input ≡ Some stream → old.spent ≡ false → old.xid ≡ n → said n good.reply ≡ expected → IsOutcomeOf to outcome
call_means laws {X} {V} limit n stream P good call view said answers refused means expected to outcome old new in_words passes meant makes told fresh number says =
    comes_in_memory to (told_by refused means makes.answer) outcome
    (elim (call_heard laws limit stream P good call answers old new told makes.answer makes.calls fresh) [
      | inr failed ↦ wire_comes to refused means makes.answer passes failed
      | inl heard ↦ elim (in_memory view (said old.xid good.reply) makes.answer (in_words old.xid good.reply makes.answer heard.by_reply)) [
        | inr none ↦ memory_comes to refused means makes.answer passes none
        | inl is ↦ comes_same to (told_by refused means makes.answer)
            (meant makes.answer (sym is ∙ ap (λ (xid : ℕ). said xid good.reply) number ∙ says))
      ]
    ]) makes.meant

-- the same, where each value has a text
pub call_comes : Records → {X V : Type 0} (limit n : ℕ) (stream : List ℕ) (P : List ℕ → List ℕ → Type 0) (good : BeginsWithReply limit stream P) (call : ℕ → List ℕ) (view : X → V) (said : ℕ → List ℕ → Result V ClientFault)
    (answers : ℕ → List ℕ → Result X ClientFault → Type 0) (refused : ClientFault → QueryFault) (text : V → List ℕ) (expected : Result V ClientFault) (outcome : QueryOutcome) (old new : ClientState)
    → IsSaidInMemory view said answers → Passes refused → CallIsMade limit call answers (meant_by refused (λ x. text (view x))) outcome old new
    → old.wire.input ≡ Some stream → old.spent ≡ false → old.xid ≡ n → said n good.reply ≡ expected → IsOutcomeOf (meant_by refused text expected) outcome
call_comes laws {X} {V} limit n stream P good call view said answers refused text expected outcome old new means passes makes told fresh number says =
    call_means laws limit n stream P good call view said answers refused (λ x. Ok (text (view x))) expected (meant_by refused text expected) outcome old new means passes
    (λ answer is. meant_viewed view refused text answer ∙ ap (meant_by refused text) is) makes told fresh number says
