-- The bytes of a source give one outcome.
use Rattle.std.proofs.Common.{◌≡◌, ℕ, ◌+◌, List, length, Option, Some, None, Result, Ok, Err, sym, ap}
use Rattle.std.proofs.Common.{◌∙◌, subst, inl, inr, arith, min, length-append}
use Rattle.yp_io.specs.Counts.{last_count}
use Rattle.yp_rpc.specs.Records.{IsUnfinished, IsRest, IsLong}
use Rattle.yp_rpc.specs.inside.Laws.{FirstIsOne, RestIsNotWhole, TornIsNotLong, LongIsSome}
use Rattle.yp_version.specs.Drafts.{Draft, empty_draft}
use Rattle.yp_client.specs.declared.fault.ClientFault.{ClientFault}
use Rattle.yp_client.specs.Limits.{reply_max, all_max}
use Rattle.yp_client.specs.Results.{order_of, master_of}
use Rattle.yp_transfer.specs.declared.fault.XfrFault.{XfrFault}
use Rattle.yp_transfer.specs.Fetching.{FetchOutcome, Course, Unless, ByAnswer, AsksThen, InMemory, Gives, AsksAgain, AsksRows}
use Rattle.yp_transfer.specs.Fetching.{AsksMaster, against_names, against_order, against_master, against_second}
use Rattle.yp_transfer.specs.Fetched.{StreamPlace, place_of, IsUnreplied, ReadsReply, rows_of, by_bytes}
use Rattle.yp_transfer.specs.inside.Laws.{FetchedIsOne}

-- what the laws of records say
pub record Records : Type 0 where
  pub first : FirstIsOne
  pub rest : RestIsNotWhole
  pub torn : TornIsNotLong
  pub long : LongIsSome

begun_is_rest : (limit : ℕ) (bytes : List ℕ) → IsUnfinished limit bytes → IsRest limit bytes
begun_is_rest limit bytes (inl none) = inl none
begun_is_rest limit bytes (inr torn) = inr (inl torn)

unreplied_is_rest : {V : Type 0} (limit : ℕ) (answer : Result V ClientFault) (first : StreamPlace)
    → IsUnreplied limit answer first → IsRest limit first.bytes
unreplied_is_rest limit answer first (inl torn) = begun_is_rest limit first.bytes torn.0
unreplied_is_rest limit answer first (inr long) = inr (inr long.0)

begun_not_long : Records → (limit : ℕ) (bytes : List ℕ) → IsUnfinished limit bytes → IsLong limit bytes → ⊥
begun_not_long laws limit bytes (inl none) long = laws.long limit bytes long none
begun_not_long laws limit bytes (inr torn) long = laws.torn limit bytes torn long

one_unreplied : Records → {V : Type 0} (limit : ℕ) (answer other : Result V ClientFault) (first : StreamPlace)
    → IsUnreplied limit answer first → IsUnreplied limit other first → answer ≡ other
one_unreplied laws limit answer other first (inl a) (inl b) = a.1 ∙ sym b.1
one_unreplied laws limit answer other first (inr a) (inr b) = a.1 ∙ sym b.1
one_unreplied laws limit answer other first (inl a) (inr b) =
    absurd (begun_not_long laws limit first.bytes a.0 b.0)
one_unreplied laws limit answer other first (inr a) (inl b) =
    absurd (begun_not_long laws limit first.bytes b.0 a.0)

one_reading : Records → {V : Type 0} (limit : ℕ) (said : ℕ → List ℕ → Result V ClientFault)
    (answer other : Result V ClientFault) (first p q : StreamPlace)
    → ReadsReply limit said answer first p → ReadsReply limit said other first q → (answer ≡ other) × (p ≡ q)
one_reading laws limit said answer other first p q (inl a) (inl b) =
    let same = laws.first limit a.reply b.reply a.taken b.taken p.bytes q.bytes a.fragments b.fragments
    (sym a.whole ∙ b.whole) in
    let size : length a.taken ≡ length b.taken =
    omega (
      arith,
      length-append a.taken p.bytes,
      length-append b.taken q.bytes,
      ap (λ (l : List ℕ). length l) a.whole,
      ap (λ (l : List ℕ). length l) b.whole,
      ap (λ (l : List ℕ). length l) same.1,
    ) in
    let at : p.at ≡ q.at = a.at ∙ ap (λ (n : ℕ). min (first.at + n) last_count) size ∙ sym b.at in (
      sym a.says ∙ ap (λ (reply : List ℕ). said first.xid reply) same.0 ∙ b.says,
      ap (λ (n : ℕ). place_of n p.at p.bytes) (a.xid ∙ sym b.xid) ∙ ap (λ (n : ℕ). place_of q.xid n p.bytes) at
          ∙ ap (λ (l : List ℕ). place_of q.xid q.at l) same.1,
    )
one_reading laws limit said answer other first p q (inl a) (inr b) =
    absurd (laws.rest limit a.reply a.taken p.bytes a.fragments
    (subst (IsRest limit) a.whole (unreplied_is_rest limit other first b.0)))
one_reading laws limit said answer other first p q (inr a) (inl b) =
    absurd (laws.rest limit b.reply b.taken q.bytes b.fragments
    (subst (IsRest limit) b.whole (unreplied_is_rest limit answer first a.0)))
one_reading laws limit said answer other first p q (inr a) (inr b) =
    (one_unreplied laws limit answer other first a.0 b.0, a.1 ∙ sym b.1)

-- ---- in turn

-- a course comes to one outcome
IsOne : Course StreamPlace → Type 0
IsOne course =
    (outcome other : FetchOutcome) (first last last' : StreamPlace) → course outcome first last → course other first last'
    → outcome ≡ other

unless : (cause : Option XfrFault) (course : Course StreamPlace) → IsOne course → IsOne (Unless cause course)
unfolding IsOne
unless None course one = one
unless (Some fault) course one = λ outcome other first last last' a b. a.0 ∙ sym b.0

in_memory : (course : Course StreamPlace) → IsOne course → IsOne (InMemory by_bytes course)
unfolding IsOne
in_memory course one outcome other first last last' (inl a) (inl b) = one outcome other first last last' a b
in_memory course one outcome other first last last' (inl a) (inr b) = absurd b.0
in_memory course one outcome other first last last' (inr a) b = absurd a.0

gives : (draft : Draft) → IsOne (Gives by_bytes draft)
unfolding IsOne
gives draft outcome other first last last' a b = a.0 ∙ sym b.0

by_answer : {V : Type 0} (follows : V → Course StreamPlace) → ((value : V) → IsOne (follows value))
    → (answer : Result V ClientFault) → IsOne (ByAnswer follows answer)
unfolding IsOne
by_answer follows one (Ok value) = one value
by_answer follows one (Err fault) = λ outcome other first last last' a b. a.0 ∙ sym b.0

asks : Records → {V : Type 0} (limit : ℕ) (said : ℕ → List ℕ → Result V ClientFault) (follows : V → Course StreamPlace)
    → ((value : V) → IsOne (follows value)) → IsOne (AsksThen (ReadsReply limit said) follows)
unfolding IsOne
asks laws {V} limit said follows one outcome other first last last' a b =
    let same = one_reading laws limit said a.answer b.answer first a.middle b.middle a.answered b.answered in
    let moved : ByAnswer follows b.answer other a.middle last' =
    subst (λ (p : StreamPlace). ByAnswer follows b.answer other p last') (sym same.1) b.goes_on in
    by_answer follows one a.answer outcome other a.middle last last' a.goes_on
    (subst (λ (r : Result V ClientFault). ByAnswer follows r other a.middle last') (sym same.0) moved)

again : Records → (draft : Draft) → IsOne (AsksAgain by_bytes draft)
again laws draft =
    asks laws reply_max order_of _
    (λ second. unless (against_second draft.order second) _ (in_memory _ (gives draft)))

rows : Records → (draft : Draft) → IsOne (AsksRows by_bytes draft)
rows laws draft = asks laws all_max (rows_of draft) (AsksAgain by_bytes) (again laws)

master : Records → (order : ℕ) → IsOne (AsksMaster by_bytes order)
master laws order =
    asks laws reply_max master_of _
    (λ name. unless (against_master name) _ (in_memory _ (rows laws (empty_draft order name))))

pub one_outcome : Records → FetchedIsOne
unfolding IsOne
one_outcome laws wanted place outcome other a b =
    unless (against_names wanted) _
    (asks laws reply_max order_of _ (λ order. unless (against_order wanted order) _ (master laws order)))
    outcome other place a.0 b.0 a.1 b.1
