-- What `xfr` does, and what its source showed.
use Rattle.std.specs.Prelude.{◌≡◌, ◌⊎◌, ℕ, List, ◌++◌, Option, Some, None, Ok, IsTrue}
use Rattle.yp_io.specs.declared.stream.Peer.{Peer}
use Rattle.yp_io.specs.Disk.{History, MayLeave}
use Rattle.yp_version.specs.Versions.{MapVersion}
use Rattle.yp_map_file.specs.Commits.{generation_of, winning}
use Rattle.yp_map_file.specs.Stands.{Stored, stands}
use Rattle.yp_board.specs.Catalogues.{Catalogue}
use Rattle.yp_publisher.specs.Standing.{stands_for}
use Rattle.yp_client.specs.query.Complete.{HasCome}
use Rattle.yp_end_to_end.specs.exchange.Runs.{sent_all}
use Rattle.yp_end_to_end.specs.exchange.LogRuns.{replies_of, ServerRun}
use Rattle.yp_transfer.specs.Fetching.{Wanted}
use Rattle.yp_transfer.specs.Fetched.{place_of, Fetched}
use Rattle.yp_end_to_end.specs.transfer.Runs.{AnswersFetch, IsOfSource}
use Rattle.yp_command.specs.declared.office.office.Office.{Office}
use Rattle.yp_command.specs.declared.office.status.Status.{Status}
use Rattle.yp_command.specs.declared.office.status.Status.TheVariants.{Done, NoMemory}
use Rattle.yp_command.specs.office.Seeing.{Seeing, history, WriteFails, DiskFails, DialFails}
use Rattle.yp_command_maps.specs.Build.{tells_stored}
use Rattle.yp_command_maps.specs.Xfr.{Job, FileVersion, IsFileVersion, wanted, marked, against, XfrDoes}

-- A version of which P holds, for what was wanted, is stored, marked as the order says, behind what the file of the map
-- had: a crash leaves that version now, and nothing else. The disk fixes what the file had and the version, but for its
-- mark.
pub record TransferIsStored (P : Wanted → MapVersion → Type 0) (job : Job) (old new : Option History) : Type 0 where
  pub held : FileVersion
  pub is_held : IsFileVersion old held
  pub version : MapVersion
  pub of_source : P (wanted job held) version
  pub stored : (image : List ℕ) → MayLeave new image → stands image ≡ Stored (marked job held version)

-- This is what the file of the map had, as its disk tells.
pub record IsToldHeld (old : Option History) (held : FileVersion) : Type 0 where
  pub told : History
  pub tells : old ≡ Some told
  pub version : stands told.state.reads ≡ stands_for held.version
  pub generation : held.generation ≡ generation_of (winning told.state.reads)

-- What `xfr` does. Where the wire that came gives what a server of this product sent in a run over the calls of the
-- fetch, on a log that rises, and the version is told as stored, it is the one that the server showed at all four of
-- its replies. Where the wire gives replies that say a version against which nothing stands, and nothing fails, it is
-- stored and told.
pub record TransferDoes {S K D C A I T : Type 0} (seen : Seeing S K D C A I T) (job : Job) (status : Status)
    (old new : Office S K D C A I T) : Type 0 where
  pub does : XfrDoes seen job status old new
  pub of_source : (catalogue : Catalogue) (caller : Peer) (run : ServerRun) (rest : List ℕ)
      → AnswersFetch catalogue caller job.store.0 job.store.1 run
      → HasCome job.host.1 (sent_all (replies_of run.turns) ++ rest) (seen.dial.past old.dial) (seen.dial.past new.dial)
      → IsTrue (tells_stored status)
      → TransferIsStored (λ asked version. IsOfSource catalogue asked run.logs version) job (history seen old)
      (history seen new)
  pub complete : (held : FileVersion) (stream : List ℕ) (version : MapVersion) → IsToldHeld (history seen old) held
      → HasCome job.host.1 stream (seen.dial.past old.dial) (seen.dial.past new.dial)
      → Fetched (wanted job held) (place_of 1 0 stream) (Ok version) → against job held version ≡ None
      → ¬ DialFails seen old new → ¬ DiskFails seen old new → ¬ WriteFails seen old new
      → (status ≡ Done) ⊎ (status ≡ NoMemory)
