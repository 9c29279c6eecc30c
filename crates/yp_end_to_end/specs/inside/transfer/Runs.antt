-- What a wire, or a run of a server, gives a fetch.
use Rattle.std.specs.Prelude.{◌≡◌, ◌⊎◌, ℕ, ◌≤◌, List, ◌++◌, length, Ok, Err}
use Rattle.yp_io.specs.Counts.{HasRisen}
use Rattle.yp_io.specs.declared.stream.Peer.{Peer}
use Rattle.yp_messages.specs.Numbers.{name_max}
use Rattle.yp_version.specs.Versions.{MapVersion}
use Rattle.yp_board.specs.Catalogues.{Catalogue}
use Rattle.yp_client.specs.query.Complete.{HasCome}
use Rattle.yp_end_to_end.specs.exchange.Runs.{sent_all}
use Rattle.yp_end_to_end.specs.exchange.LogRuns.{replies_of, ServerRun}
use Rattle.yp_transfer.specs.declared.fault.XfrFault.TheVariants.{Rpc, NoMemory}
use Rattle.yp_transfer.specs.Fetching.{Wanted, FetchOutcome}
use Rattle.yp_transfer.specs.Fetched.{place_of, Fetched}
use Rattle.yp_transfer.specs.HostTable.{HostList}
use Rattle.yp_io.specs.Dials.{Dialing}
use Rattle.yp_transfer.specs.Dialing.{FetchesFrom}
use Rattle.yp_end_to_end.specs.transfer.Runs.{AnswersFetch, IsOfSource}

-- What is fetched over a wire that came is what its bytes say, unless the dial failed or memory ran out.
abbrev pub WireIsFetched : Type 0
WireIsFetched =
    (server : Peer) (stream : List ℕ) (hosts : HostList) (name : List ℕ) (wanted : Wanted) (outcome : FetchOutcome)
    (old new : Dialing)
    → HasCome server stream old.past new.past
    → FetchesFrom hosts name wanted outcome old new
    → Fetched wanted (place_of 1 0 stream) outcome ⊎ ((outcome ≡ Err Rpc) × HasRisen old.faults new.faults)
    ⊎ (outcome ≡ Err NoMemory)

-- What is fetched is so, where the wire that came gives what the server sent in such a run.
abbrev pub RunIsFetched : Type 0
RunIsFetched =
    (catalogue : Catalogue) (server caller : Peer) (hosts : HostList) (name : List ℕ) (wanted : Wanted)
    (run : ServerRun) (rest : List ℕ) (version : MapVersion) (old new : Dialing)
    → length wanted.domain ≤ name_max
    → length wanted.map ≤ name_max
    → AnswersFetch catalogue caller wanted.domain wanted.map run
    → HasCome server (sent_all (replies_of run.turns) ++ rest) old.past new.past
    → FetchesFrom hosts name wanted (Ok version) old new
    → IsOfSource catalogue wanted run.logs version
