-- What `portmap` does: it answers the calls of a port mapper, and tells the mappings that stand at the end.
use Rattle.std.specs.Prelude.{◌≡◌, ◌⊎◌, ℕ, Bool, true, false, List, [], ◌++◌, flat_map, Option}
use Rattle.std.specs.Prelude.{Result, Ok, Err, codes, decimal}
use Rattle.yp_io.specs.declared.stream.Failed.{Failed}
use Rattle.yp_io.specs.declared.stream.Peer.{Peer}
use Rattle.yp_rpc.specs.declared.turns.Ended.{Ended}
use Rattle.yp_rpc.specs.Turns.{Want, Turn, Ways, ways_of, turn_state, TakesTurns}
use Rattle.yp_binding.specs.declared.portmap.mapping.Mapping.{Mapping}
use Rattle.yp_binding.specs.portmap.Replies.{reply as reply_to, after}
use Rattle.yp_command.specs.declared.office.status.Status.{Status}
use Rattle.yp_command.specs.declared.office.status.Status.TheVariants.{Done, WriteFault, NoMemory, InboxFault}
use Rattle.yp_command.specs.declared.office.office.Office.{Office}
use Rattle.yp_command.specs.office.Seeing.{Seeing, output, WriteFails, InboxFails}
use Rattle.yp_command_mail.specs.declared.portmap.Mapper.{Mapper}
use Rattle.yp_command_mail.specs.Telling.{TellsText, box, HasInboxCauses, IsMailing}

-- ---- the turns

-- no letter is sent before a turn, and there is no end before all turns are taken
abbrev pub Goes : Mapper → Want → Mapper → Type 0
Goes old want new = (want ≡ Turn) × (new ≡ old)

-- Each datagram gets the one reply of the port mapper, and leaves the mappings that it leads to.
abbrev pub Hears : Peer → List ℕ → Option (List ℕ) → Mapper → Mapper → Type 0
Hears from mail reply old new =
    (reply ≡ reply_to from old.registry mail) × (new.registry ≡ after from old.registry mail)

abbrev pub Rests : Mapper → Mapper → Type 0
Rests old new = new ≡ old

abbrev pub mapper_ways : Ways Mapper
mapper_ways = ways_of Goes Hears Rests

-- a port mapper of these mappings
abbrev pub mapper_of : List Mapping → Mapper
mapper_of mappings = record { registry = mappings }

-- ---- what is told

-- the line of a mapping
abbrev pub mapping_line : Mapping → List ℕ
mapping_line mapping =
    decimal mapping.prog ++ codes " " ++ decimal mapping.vers ++ codes " " ++ decimal mapping.prot ++ codes " "
    ++ decimal mapping.port ++ codes "\n"

-- the lines of mappings, in their order
abbrev pub mappings_text : List Mapping → List ℕ
mappings_text mappings = flat_map mapping_line mappings

-- the status of turns that ended so, and what is printed
abbrev pub served_status : Result Ended Failed → Status
served_status (Ok end) = Done
served_status (Err why) = InboxFault

abbrev pub served_text : Result Ended Failed → List Mapping → List ℕ
served_text (Ok end) mappings = mappings_text mappings
served_text (Err why) mappings = []

-- ---- what is done

-- the statuses with which `portmap` may end
abbrev pub portmap_may_end : Status → Bool
portmap_may_end Done = true
portmap_may_end WriteFault = true
portmap_may_end NoMemory = true
portmap_may_end InboxFault = true
portmap_may_end _ = false

-- The turns were taken in which the port mapper answers, which begins without mappings.
pub record ServesPorts {S K D C A I T : Type 0} (seen : Seeing S K D C A I T) (turns : ℕ)
    (end : Result Ended Failed) (mappings : List Mapping) (old new : Office S K D C A I T) : Type 0 where
  pub takes : TakesTurns mapper_ways turns end (turn_state (mapper_of []) (box seen old))
      (turn_state (mapper_of mappings) (box seen new))

-- The mappings that stand at the end are told. What happened at the inbox fixes them.
pub record TellsPorts {S K D C A I T : Type 0} (seen : Seeing S K D C A I T) (turns : ℕ) (status : Status)
    (old new : Office S K D C A I T) : Type 0 where
  pub end : Result Ended Failed
  pub mappings : List Mapping
  pub serves : ServesPorts seen turns end mappings old new
  pub tells : TellsText (served_text end mappings) (served_status end) status (output seen old) (output seen new)

-- Memory ran out before the first turn, or behind the last one, and nothing is told.
abbrev pub ForgoesPorts : {S K D C A I T : Type 0} → Seeing S K D C A I T → ℕ → Status
    → (old new : Office S K D C A I T) → Type 0
ForgoesPorts seen turns status old new =
    (status ≡ NoMemory) × (output seen new ≡ output seen old)
    × ((new ≡ old) ⊎ ((end : Ended) × (mappings : List Mapping) × ServesPorts seen turns (Ok end) mappings old new))

-- What `portmap` does: it answers each datagram of its turns, and tells the mappings that stand at the end; or memory
-- runs out. Where nothing fails they are told.
pub record PortmapDoes {S K D C A I T : Type 0} (seen : Seeing S K D C A I T) (turns : ℕ) (status : Status)
    (old new : Office S K D C A I T) : Type 0 where
  pub tells : TellsPorts seen turns status old new ⊎ ForgoesPorts seen turns status old new
  pub complete : ¬ InboxFails seen old new → ¬ WriteFails seen old new → (status ≡ Done) ⊎ (status ≡ NoMemory)
  pub causes : HasInboxCauses seen status old new
  pub stays : IsMailing old new
