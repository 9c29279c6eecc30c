-- What the code keeps of a walk.
use Rattle.std.specs.Prelude.{ℕ, ◌+◌, ◌≤◌, List, length, Result, Ok, Err, ⊤}
use Rattle.yp_rpc.specs.Turns.{datagram_max}
use Rattle.yp_xdr.specs.Spelling.{spelling}
use Rattle.yp_messages.specs.Numbers.{name_max, key_max}
use Rattle.yp_messages.specs.Messages.{req_key}
use Rattle.yp_transfer.specs.Fetching.{Wanted, wanted_of}
use Rattle.yp_transfer.specs.declared.walk.stage.WalkRequest.{WalkRequest}
use Rattle.yp_transfer.specs.declared.walk.stage.WalkStage.{WalkStage}
use Rattle.yp_transfer.specs.declared.walk.stage.WalkStage.TheVariants.{Order, Master, First, Next, Again, Ended}
use Rattle.yp_client.specs.declared.fault.ClientFault.{ClientFault}
use Rattle.yp_client.specs.declared.answers.Row.{Row}
use Rattle.yp_transfer.specs.walk.Standings.{WalkState, AsksOrder, AsksMaster, AsksFirst, AsksNext, AsksAgain, HasEnded}

-- what is wanted
abbrev pub wanted_in : WalkRequest → Wanted
wanted_in asked = wanted_of asked.domain.items asked.map.items asked.shown asked.force

-- what is asked next
abbrev pub standing_of : WalkStage → WalkState
standing_of Order = AsksOrder
standing_of (Master order) = AsksMaster order
standing_of (First builder) = AsksFirst builder
standing_of (Next builder key) = AsksNext builder key.items
standing_of (Again builder why) = AsksAgain builder why
standing_of (Ended outcome) = HasEnded outcome

-- The names are within their limit.
pub record HasShortNames (asked : WalkRequest) : Type 0 where
  pub domain : length asked.domain.items ≤ name_max
  pub map : length asked.map.items ≤ name_max

-- The call for the row behind a key fits into a datagram.
pub record NextCallFits (asked : WalkRequest) (key : List ℕ) : Type 0 where
  pub within : length key ≤ key_max
  pub call : 40 + length (spelling req_key (asked.domain.items, (asked.map.items, key))) ≤ datagram_max

abbrev pub IsRoomy : WalkRequest → WalkStage → Type 0
IsRoomy asked (Next builder key) = NextCallFits asked key.items
IsRoomy asked stage = ⊤

-- what a reply to FIRST or NEXT says: a value and its key
abbrev pub found_in : Result Row ClientFault → Result (List ℕ × List ℕ) ClientFault
found_in (Ok row) = Ok (row.value.now, row.key.now)
found_in (Err fault) = Err fault
