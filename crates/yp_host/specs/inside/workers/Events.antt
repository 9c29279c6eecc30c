-- Which event tells what.
use Rattle.std.specs.Prelude.{ℕ, Bool, true, false, List, Option, None, Some, option_and_then, Result, Ok, Err}
use Rattle.yp_io.specs.declared.stream.Peer.{Peer}
use Rattle.yp_messages.specs.declared.transfer.XfrStat.{XfrStat}
use Rattle.yp_messages.specs.declared.transfer.XfrStat.TheVariants.{Succ}
use Rattle.yp_version.specs.Versions.{MapVersion}
use Rattle.yp_board.specs.Catalogues.{Catalogue, find}
use Rattle.yp_board.specs.Logs.{shown}
use Rattle.yp_board.specs.Views.{Seen}
use Rattle.yp_answer.specs.declared.make.MakeJob.{MakeJob}
use Rattle.yp_answer.specs.Make.{make_check}
use Rattle.yp_host.specs.declared.workers.journal.Event.{Event}
use Rattle.yp_host.specs.declared.workers.journal.Event.TheVariants.{Made, NotMade, Fetched, NotFetched, RefusedMake}
use Rattle.yp_host.specs.declared.workers.journal.Event.TheVariants.{RefusedXfr}

-- a map was to be made for a caller: behind SUCC the order of the version that is shown is told, and else the status
abbrev pub made_event : ℕ → XfrStat → Option MapVersion → Peer → Event
made_event map Succ (Some version) peer = Made map version.order peer
made_event map stat version peer = NotMade map stat peer

-- a map was to be fetched for a caller
abbrev pub fetched_event : ℕ → XfrStat → Option MapVersion → Peer → Event
fetched_event map Succ (Some version) peer = Fetched map version.order peer
fetched_event map stat version peer = NotFetched map stat peer

-- a call that asks for a map to be made was answered a status: a map was to be made, or the caller was refused
abbrev pub make_event : Seen → Result MakeJob XfrStat → Option ℕ → XfrStat → Peer → Event
make_event seen (Ok job) map stat peer = made_event job.map stat (shown job.map seen.known) peer
make_event seen (Err why) map stat peer = RefusedMake map stat peer

-- a call that asks for a map to be fetched was answered a status, which is told where the caller was refused
abbrev pub xfr_event : Option ℕ → XfrStat → Peer → Option Event
xfr_event map Succ peer = None
xfr_event map stat peer = Some (RefusedXfr map stat peer)

-- the number of a map that was asked for, where the catalogue has it
abbrev pub asked_map : Catalogue → List ℕ → Option (List ℕ) → Option ℕ
asked_map catalogue domain name = option_and_then (λ map. find domain map catalogue) name

-- what is told of a call by this caller that asks for a map of a domain to be made, or to be fetched, and of the status
-- that it was answered
abbrev pub replied_event : Seen → Peer → Bool → List ℕ → Option (List ℕ) → XfrStat → Option Event
replied_event seen peer true domain name stat =
    Some (make_event seen (make_check seen.catalogue peer domain name) (asked_map seen.catalogue domain name) stat peer)
replied_event seen peer false domain name stat = xfr_event (asked_map seen.catalogue domain name) stat peer
