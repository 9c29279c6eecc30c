-- The turns of a server give a fetch.
use Rattle.std.specs.Prelude.{◌≡◌, ℕ, ◌≤◌, List, ◌++◌, length}
use Rattle.yp_io.specs.declared.stream.Peer.{Peer}
use Rattle.yp_rpc.specs.inside.Laws.{IsWord}
use Rattle.yp_messages.specs.Numbers.{name_max}
use Rattle.yp_board.specs.Catalogues.{Catalogue}
use Rattle.yp_board.specs.Logs.{Log}
use Rattle.yp_publisher.specs.Rising.{IsRisingLog}
use Rattle.yp_end_to_end.specs.exchange.Runs.{sent_all}
use Rattle.yp_end_to_end.specs.inside.exchange.Runs.{inquiry_of, RepliesOn}
use Rattle.yp_end_to_end.specs.inside.transfer.Replies.{GivesFetch}
use Rattle.yp_end_to_end.specs.inside.transfer.Laws.{Fronts, all_fronts, moments_on}
use Rattle.yp_answer.specs.Served.{AreServed, maps_on}
use Rattle.yp_end_to_end.specs.transfer.Turns.{fetch_calls}

-- Where a server answered them one after the other, on a log that grew and rises, what it sent gives a fetch its
-- replies, on the four fronts of that log on which they were answered.
abbrev pub TurnsGiveFetch : Type 0
TurnsGiveFetch =
    (catalogue : Catalogue) (peer : Peer) (domain map : List ℕ) (xid : ℕ) (replies : List (List ℕ)) (rest : List ℕ)
    (logs : List Log) (before after : Log)
    → AreServed (maps_on catalogue after)
    → IsRisingLog after
    → IsWord xid
    → length domain ≤ name_max
    → length map ≤ name_max
    → RepliesOn (inquiry_of catalogue peer) (fetch_calls domain map xid) replies logs before after
    → (fronts : Fronts) × (fronts.log ≡ after) × (logs ≡ all_fronts fronts)
    × GivesFetch peer domain map (moments_on catalogue fronts) xid (sent_all replies ++ rest)
