-- What is fetched from a server that answered the calls of the fetch in a run of its own.
use Rattle.std.specs.Prelude.{◌≡◌, ℕ, List, All}
use Rattle.yp_io.specs.declared.stream.Peer.{Peer}
use Rattle.yp_version.specs.Versions.{MapVersion}
use Rattle.yp_board.specs.Catalogues.{Catalogue}
use Rattle.yp_board.specs.Logs.{Log}
use Rattle.yp_publisher.specs.Rising.{IsRisingLog}
use Rattle.yp_answer.specs.Served.{AreServed, maps_on}
use Rattle.yp_end_to_end.specs.exchange.LogRuns.{records_of, AnsweredOn, ServerRun}
use Rattle.yp_transfer.specs.Fetching.{Wanted}
use Rattle.yp_end_to_end.specs.transfer.Replies.{IsShown, unsecured}
use Rattle.yp_end_to_end.specs.transfer.Turns.{fetch_calls}

-- A run of a server, on a log that grows from one to another and rises, was over the four calls of a fetch, which were
-- answered on these fronts of it.
pub record AnswersFetch (catalogue : Catalogue) (caller : Peer) (domain map : List ℕ) (run : ServerRun) : Type 0 where
  pub served : AreServed (maps_on catalogue run.after)
  pub rises : IsRisingLog run.after
  pub answered : AnsweredOn catalogue caller run.turns run.logs run.before run.after
  pub calls : records_of run.turns ≡ fetch_calls domain map 1

-- A server showed one version of the map on each of these logs, and this version has the same order, master and rows.
-- The first log fixes it.
pub record IsOfSource (catalogue : Catalogue) (wanted : Wanted) (logs : List Log) (version : MapVersion) : Type 0 where
  pub source : MapVersion
  pub shown : All (λ log. IsShown wanted source (maps_on catalogue log)) logs
  pub same : version ≡ unsecured source
