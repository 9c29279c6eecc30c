-- What `serve` writes to the notes where it tells what it does.
use Rattle.std.specs.Prelude.{◌≡◌, ℕ, Bool, true, false, List, [], ◌++◌, flat_map, Option, slice_get}
use Rattle.std.specs.Prelude.{codes, decimal}
use Rattle.std.specs.Fmt.{signed_decimal}
use Rattle.std.specs.Option.{option_map_or}
use Rattle.yp_io.specs.declared.stream.Peer.{Peer}
use Rattle.yp_messages.specs.declared.transfer.XfrStat.{XfrStat}
use Rattle.yp_messages.specs.Transfers.{xfr_number}
use Rattle.yp_board.specs.Catalogues.{Name}
use Rattle.yp_client.specs.query.Lines.{stat_name}
use Rattle.yp_host.specs.declared.workers.journal.Event.{Event}
use Rattle.yp_host.specs.declared.workers.journal.Event.TheVariants.{Made, NotMade, Fetched, NotFetched, RefusedMake}
use Rattle.yp_host.specs.declared.workers.journal.Event.TheVariants.{RefusedXfr, Late}
use Rattle.yp_host.specs.declared.workers.outcome.Totals.{Totals}
use Rattle.yp_command.specs.office.Lines.{map_text, peer_text}

-- a line: what happened, or how much more did that no line tells
pub data LogLine : Type 0 where
  Happened : (event : Event) → LogLine
  More : (count : ℕ) → LogLine

-- the map with this number, and a dash where there is none
abbrev pub numbered_text : List Name → ℕ → List ℕ
numbered_text maps number = option_map_or map_text (slice_get maps number) (codes "-")

-- the same of what was asked for, which may be no map at all
abbrev pub asked_text : List Name → Option ℕ → List ℕ
asked_text maps asked = option_map_or (numbered_text maps) asked (codes "-")

-- the number and the name of a status
abbrev pub stat_text : XfrStat → List ℕ
stat_text stat = signed_decimal (xfr_number stat) ++ codes " " ++ stat_name stat

-- a map, the order of its version, and for whom that was made or fetched
abbrev pub shown_text : List Name → ℕ → ℕ → Peer → List ℕ
shown_text maps map order peer =
    numbered_text maps map ++ codes " order " ++ decimal order ++ codes " for " ++ peer_text peer

-- a status, and whom it was told
abbrev pub told_text : XfrStat → Peer → List ℕ
told_text stat peer = codes " " ++ stat_text stat ++ codes " for " ++ peer_text peer

abbrev pub event_text : List Name → Event → List ℕ
event_text maps (Made map order peer) = codes "made " ++ shown_text maps map order peer
event_text maps (NotMade map stat peer) = codes "not made " ++ numbered_text maps map ++ told_text stat peer
event_text maps (Fetched map order peer) = codes "fetched " ++ shown_text maps map order peer
event_text maps (NotFetched map stat peer) = codes "not fetched " ++ numbered_text maps map ++ told_text stat peer
event_text maps (RefusedMake asked stat peer) = codes "refused MAKE " ++ asked_text maps asked ++ told_text stat peer
event_text maps (RefusedXfr asked stat peer) = codes "refused XFR " ++ asked_text maps asked ++ told_text stat peer
event_text maps (Late peer) = codes "late " ++ peer_text peer

abbrev pub line_text : List Name → LogLine → List ℕ
line_text maps (Happened event) = event_text maps event ++ codes "\n"
line_text maps (More count) = codes "and " ++ decimal count ++ codes " more" ++ codes "\n"

-- lines of these maps
abbrev pub lines_text : List Name → List LogLine → List ℕ
lines_text maps lines = flat_map (line_text maps) lines

-- the last line: what all workers counted
abbrev pub totals_text : Totals → List ℕ
totals_text totals =
    codes "made " ++ decimal totals.made ++ codes ", not made by file " ++ decimal totals.files
    ++ codes ", transfers " ++ decimal totals.transfers ++ codes ", reached " ++ decimal totals.outcomes.reached
    ++ codes ", failed by address " ++ decimal totals.outcomes.no_address
    ++ codes ", memory " ++ decimal totals.outcomes.no_memory ++ codes ", file " ++ decimal totals.outcomes.file
    ++ codes ", source " ++ decimal totals.outcomes.source ++ codes "\n"

-- What a server of these maps tells of what it does: lines, and where it served behind them that of its totals. One
-- that is not to tell it tells nothing.
abbrev pub IsLog : Bool → List Name → Option Totals → List ℕ → Type 0
IsLog false maps totals text = text ≡ []
IsLog true maps totals text =
    (lines : List LogLine) × (text ≡ lines_text maps lines ++ option_map_or totals_text totals [])
