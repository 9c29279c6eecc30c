-- How a fetch goes on by what the client answers.
use Rattle.std.proofs.Common.{◌≡◌, ℕ, List, Some, None, Option, Ok, Err, refl, ap, subst, inl}
use Rattle.std.proofs.Common.{inr, Bool, true, cond, eq-eqb}
use Rattle.std.specs.Borrow.{Bor}
use Rattle.std.proofs.lemmas.Bool.{ne_eqb}
use Rattle.std.proofs.Math.Dec.{eqb}
use Rattle.yp_version.specs.Drafts.{Draft}
use Rattle.yp_version.specs.Versions.{MapVersion, unmarked}
use Rattle.yp_version.specs.Rows.{listed}
use Rattle.yp_client.specs.declared.fault.ClientFault.{ClientFault}
use Rattle.yp_client.specs.Limits.{reply_max, all_max}
use Rattle.yp_client.specs.Results.{order_of, master_of}
use Rattle.yp_client.specs.Said.{SaysNumber, SaysBytes}
use Rattle.yp_client.specs.All.{SaysAll}
use Rattle.yp_client.specs.Asked.{order_call, master_call, all_call}
use Rattle.yp_client.specs.States.{ClientState}
use Rattle.yp_client.specs.Calls.{Calls}
use Rattle.yp_transfer.specs.declared.fault.XfrFault.{XfrFault}
use Rattle.yp_transfer.specs.declared.fault.XfrFault.TheVariants.{Skew, NoMemory}
use Rattle.yp_transfer.specs.Faults.{of_client}
use Rattle.yp_transfer.specs.Fetching.{FetchOutcome, Course, Unless, AsksAgain, AsksRows, AsksMaster}
use Rattle.yp_transfer.specs.Fetching.{against_master, against_second}
use Rattle.yp_transfer.specs.inside.Begun.{BeginsDraft}
use Rattle.yp_transfer.specs.Called.{by_calls}

-- ---- what stands against it

pub nothing_against : {State : Type 0} (cause : Option XfrFault) (follows : Course State) (outcome : FetchOutcome)
    (old new : State) → cause ≡ None → follows outcome old new → Unless cause follows outcome old new
nothing_against None follows outcome old new none comes = comes
nothing_against (Some fault) follows outcome old new none comes = absurd cc

pub against : {State : Type 0} (cause : Option XfrFault) (follows : Course State) (fault : XfrFault) (state : State)
    → cause ≡ Some fault → Unless cause follows (Err fault) state state
against None follows fault state is = absurd cc
against (Some other) follows fault state is =
    let same : fault ≡ other = cc in (ap (λ (f : XfrFault). Err f) same, refl)

same_second : (first second : ℕ) → first ≡ second → against_second first second ≡ None
same_second first second same =
    ap (λ (b : Bool). cond b None (Some (Skew first second)))
    (subst (λ (n : ℕ). eqb first n ≡ true) same (eqb-same first))
  where
    eqb-same : (n : ℕ) → eqb n n ≡ true
    eqb-same n = eq-eqb n n refl

other_second : (first second : ℕ) → (first ≡ second → ⊥) → against_second first second ≡ Some (Skew first second)
other_second first second differ =
    ap (λ (b : Bool). cond b None (Some (Skew first second))) (ne_eqb first second differ)

-- ---- the second ORDER

module _ (domain map : List ℕ) (draft : Draft) (second : ℕ) (old new : ClientState)
    (calls : Calls reply_max (order_call domain map) (SaysNumber order_of) (Ok second) old new) where
  pub skewed : (first : ℕ) → first ≡ draft.order → (first ≡ second → ⊥)
      → AsksAgain (by_calls domain map) draft (Err (Skew first second)) old new
  skewed first is differ = record {
    answer = Ok second;
    middle = new;
    answered = calls;
    goes_on = against (against_second draft.order second) _ (Skew first second) new
        (subst (λ (n : ℕ). against_second n second ≡ Some (Skew first second)) is (other_second first second differ));
  }

  pub given : (version : MapVersion) → draft.order ≡ second
      → version ≡ unmarked draft.order draft.master (listed draft.rows)
      → AsksAgain (by_calls domain map) draft (Ok version) old new
  given version same is = record {
    answer = Ok second;
    middle = new;
    answered = calls;
    goes_on = nothing_against (against_second draft.order second) _ (Ok version) new new
        (same_second draft.order second same) (inl (ap (λ (v : MapVersion). Ok v) is, refl));
  }

  pub not_given : draft.order ≡ second → AsksAgain (by_calls domain map) draft (Err NoMemory) old new
  not_given same = record {
    answer = Ok second;
    middle = new;
    answered = calls;
    goes_on = nothing_against (against_second draft.order second) _ (Err NoMemory) new new
        (same_second draft.order second same) (inr (tt, (refl, refl)));
  }

-- ---- ALL

pub rows_refused : (domain map : List ℕ) (draft after : Draft) (why : ClientFault) (fault : XfrFault)
    (old new : ClientState)
    → Calls all_max (all_call domain map) (SaysAll draft after) (Err why) old new → fault ≡ of_client why
    → AsksRows (by_calls domain map) draft (Err fault) old new
rows_refused domain map draft after why fault old new calls is = record {
  answer = Err why;
  middle = new;
  answered = record { done = Err why; after = after; calls = calls; seen = refl };
  goes_on = (ap (λ (f : XfrFault). Err f) is, refl);
}

pub rows_taken : (domain map : List ℕ) (draft after : Draft) (done : Unit {0}) (outcome : FetchOutcome)
    (old middle new : ClientState)
    → Calls all_max (all_call domain map) (SaysAll draft after) (Ok done) old middle
    → AsksAgain (by_calls domain map) after outcome middle new → AsksRows (by_calls domain map) draft outcome old new
rows_taken domain map draft after done outcome old middle new calls more = record {
  answer = Ok after;
  middle = middle;
  answered = record { done = Ok done; after = after; calls = calls; seen = refl };
  goes_on = more;
}

-- ---- MASTER

pub master_refused : (domain map : List ℕ) (order : ℕ) (why : ClientFault) (fault : XfrFault) (old new : ClientState)
    → Calls reply_max (master_call domain map) (SaysBytes master_of) (Err why) old new → fault ≡ of_client why
    → AsksMaster (by_calls domain map) order (Err fault) old new
master_refused domain map order why fault old new calls is = record {
  answer = Err why;
  middle = new;
  answered = record { lent = Err why; calls = calls; seen = refl };
  goes_on = (ap (λ (f : XfrFault). Err f) is, refl);
}

pub not_begun : (domain map : List ℕ) (order : ℕ) (master : Bor (List ℕ)) (fault : XfrFault) (old new : ClientState)
    → Calls reply_max (master_call domain map) (SaysBytes master_of) (Ok master) old new
    → BeginsDraft order master.now (Err fault) → AsksMaster (by_calls domain map) order (Err fault) old new
not_begun domain map order master fault old new calls (inl is) = record {
  answer = Ok master.now;
  middle = new;
  answered = record { lent = Ok master; calls = calls; seen = refl };
  goes_on = against (against_master master.now) _ fault new is;
}
not_begun domain map order master fault old new calls (inr memory) = record {
  answer = Ok master.now;
  middle = new;
  answered = record { lent = Ok master; calls = calls; seen = refl };
  goes_on = nothing_against (against_master master.now) _ (Err fault) new new memory.1
      (inr (tt, (ap (λ (f : XfrFault). Err f) memory.0, refl)));
}

pub is_begun : (domain map : List ℕ) (order : ℕ) (master : Bor (List ℕ)) (draft : Draft) (outcome : FetchOutcome)
    (old middle new : ClientState)
    → Calls reply_max (master_call domain map) (SaysBytes master_of) (Ok master) old middle
    → BeginsDraft order master.now (Ok draft) → AsksRows (by_calls domain map) draft outcome middle new
    → AsksMaster (by_calls domain map) order outcome old new
is_begun domain map order master draft outcome old middle new calls begins more = record {
  answer = Ok master.now;
  middle = middle;
  answered = record { lent = Ok master; calls = calls; seen = refl };
  goes_on = nothing_against (against_master master.now) _ outcome middle new begins.1
      (inl (subst (λ (d : Draft). AsksRows (by_calls domain map) d outcome middle new) begins.0 more));
}
