-- A source that is asked by the calls of a client.
use Rattle.std.specs.Prelude.{ℕ, List, Result, ⊤}
use Rattle.std.specs.Borrow.{Bor}
use Rattle.yp_version.specs.Drafts.{Draft}
use Rattle.yp_client.specs.declared.fault.ClientFault.{ClientFault}
use Rattle.yp_client.specs.Limits.{reply_max, all_max}
use Rattle.yp_client.specs.Results.{Says, order_of, master_of}
use Rattle.yp_client.specs.Said.{SaysNumber, SaysBytes}
use Rattle.yp_client.specs.All.{SaysAll}
use Rattle.yp_client.specs.Asked.{order_call, master_call, all_call}
use Rattle.yp_client.specs.States.{ClientState}
use Rattle.yp_client.specs.Calls.{Calls}
use Rattle.yp_transfer.specs.Fetching.{Wanted, Course, FetchSource, Fetches}

-- MASTER was called, and the name was lent.
pub record CallsMaster (domain map : List ℕ) (answer : Result (List ℕ) ClientFault) (old new : ClientState)
    : Type 0 where
  pub lent : Result (Bor (List ℕ)) ClientFault
  pub calls : Calls reply_max (master_call domain map) (SaysBytes master_of) lent old new
  pub seen : Says (λ master. master.now) answer lent

-- ALL was called, and the rows of its reply went behind those of a draft.
pub record CallsAll (domain map : List ℕ) (draft : Draft) (answer : Result Draft ClientFault) (old new : ClientState)
    : Type 0 where
  pub done : Result (Unit {0}) ClientFault
  pub after : Draft
  pub calls : Calls all_max (all_call domain map) (SaysAll draft after) done old new
  pub seen : Says (λ _. after) answer done

-- a source by the calls for a map of a domain
abbrev pub by_calls : List ℕ → List ℕ → FetchSource ClientState
by_calls domain map = record {
  order = Calls reply_max (order_call domain map) (SaysNumber order_of);
  master = CallsMaster domain map;
  rows = CallsAll domain map;
  limited = ⊤;
}

-- What is wanted is fetched by calls: the four, or those up to the refusal.
abbrev pub FetchesByCalls : Wanted → Course ClientState
FetchesByCalls wanted = Fetches (by_calls wanted.domain wanted.map) wanted
