-- The carrying out of a transfer by a host of one thread: a map is fetched and installed, and the caller is told.
use Rattle.std.specs.Prelude.{◌≡◌, ◌<◌, false, length, None}
use Rattle.yp_io.specs.Counts.{next_count}
use Rattle.yp_io.specs.declared.stream.Peer.{Peer}
use Rattle.yp_answer.specs.Transfer.{Taken}
use Rattle.yp_publisher.specs.Keeping.{Keeping}
use Rattle.yp_transfer.specs.declared.calling_back.Asker.{Asker}
use Rattle.yp_transfer.specs.Requests.{TransferRequest, request_of}
use Rattle.yp_transfer.specs.Transfers.{TransfersFor, transfer_state}
use Rattle.yp_host.specs.Locals.{Local, Telling, IsUsed}

-- what a taken transfer asks for: it isn't forced, and has no mark of its own
abbrev pub request_for : Taken → TransferRequest
request_for taken = request_of taken.map taken.source false None

-- the caller whose transfer it is
abbrev pub asker_of : Taken → Peer → Asker
asker_of taken peer =
    record { addr = peer.addr; prog = taken.prog; port = taken.port; transid = taken.transid }

-- The transfer of one of the maps was carried out, and counted.
pub record MapIsTransferred {D B E : Type 0} (keeping : Keeping D B) (telling : Telling E) (taken : Taken) (peer : Peer)
    (old new : Local D B E) : Type 0 where
  pub inside : taken.map < length old.published.maps
  pub transfers : TransfersFor keeping (telling.hosts old.desk) (request_for taken) (asker_of taken peer)
      (transfer_state (telling.dial old.desk) old.published) (transfer_state (telling.dial new.desk) new.published)
  pub used : IsUsed telling old.desk new.desk
  pub asked : new.asked ≡ old.asked
  pub files : new.files ≡ old.files
  pub counted : new.transfers ≡ next_count old.transfers
