-- What `orders` does: the servers of a domain are asked for the orders of its maps, and these are printed.
use Rattle.std.specs.Prelude.{◌≡◌, ◌⊎◌, ℕ, Bool, true, false, List, ◌∷◌, Result, Ok, Err}
use Rattle.yp_io.specs.declared.stream.Peer.{Peer}
use Rattle.yp_client.specs.declared.query.fault.QueryFault.{QueryFault}
use Rattle.yp_client.specs.query.Scenes.{QueryTells}
use Rattle.yp_client.specs.orders.Scenes.{Compares}
use Rattle.yp_client.specs.orders.Complete.{HasSurvey, EachHasOrders, HaveCome}
use Rattle.yp_command.specs.declared.office.status.Status.{Status}
use Rattle.yp_command.specs.declared.office.status.Status.TheVariants.{Done, No, ReadFault, WriteFault, DialFault}
use Rattle.yp_command.specs.declared.office.office.Office.{Office}
use Rattle.yp_command.specs.office.Seeing.{Seeing, WriteFails, DialFails}
use Rattle.yp_program.specs.Asking.{status_of, scene, IsClientAnswer}

-- the status of servers that were compared: whether all have the same orders, or why there is no answer
abbrev pub compared_status : Result Bool QueryFault → Status
compared_status (Ok true) = Done
compared_status (Ok false) = No
compared_status (Err fault) = status_of (Err fault)

-- whom is asked for the orders of a domain: the first server, which names the maps, and the others
pub record Comparison : Type 0 where
  pub first : Peer
  pub others : List Peer
  pub domain : List ℕ

-- The servers were compared, and what that came to is told by this status. The wires that came fix the result, unless
-- memory ran out.
pub record ComparesAs (comparison : Comparison) (status : Status) (old new : QueryTells) : Type 0 where
  pub result : Result Bool QueryFault
  pub compares : Compares comparison.first comparison.others comparison.domain result old new
  pub told : status ≡ compared_status result

-- What `orders` does: it asks each server, on a connection of its own, and prints a line for each map that the first
-- one names, or tells the first refusal. Where the wires give whole replies that answer its calls, and nothing fails,
-- it is answered.
pub record OrdersDoes {S K D C A I T : Type 0} (seen : Seeing S K D C A I T) (comparison : Comparison) (status : Status)
    (old new : Office S K D C A I T) : Type 0 where
  pub compares : ComparesAs comparison status (scene seen old) (scene seen new)
  pub complete : (maps : List (List ℕ)) (stream : List ℕ) (streams : List (List ℕ)) → HasSurvey maps stream
      → EachHasOrders maps streams
      → HaveCome (comparison.first ∷ comparison.others) (stream ∷ streams) (seen.dial.past old.dial)
      (seen.dial.past new.dial)
      → ¬ DialFails seen old new → ¬ WriteFails seen old new → IsClientAnswer status
  pub read_fault : status ≡ ReadFault → DialFails seen old new
  pub write_fault : status ≡ WriteFault → WriteFails seen old new ⊎ DialFails seen old new
  pub dial_fault : status ≡ DialFault → DialFails seen old new
  pub stays : new ≡ record old { wire = record old.wire { sink = new.wire.sink }; dial = new.dial }
  pub letters : seen.dial.letters new.dial ≡ seen.dial.letters old.dial
