-- What a server can rely on where a MAKE is left open or answered, and where a transfer is taken.
use Rattle.std.specs.Prelude.{◌≡◌, ◌≢◌, ℕ, true, List, Some, ⊤}
use Rattle.yp_io.specs.declared.stream.Peer.{Peer}
use Rattle.yp_answer.specs.declared.procedure.Path.{Path}
use Rattle.yp_answer.specs.declared.make.MakeJob.{MakeJob}
use Rattle.yp_answer.specs.Maps.{Maps}
use Rattle.yp_io.specs.Peers.{own_host}
use Rattle.yp_version.specs.Versions.{MapVersion}
use Rattle.yp_board.specs.Logs.{shown}
use Rattle.yp_answer.specs.Transfer.{Taken}
use Rattle.yp_answer.specs.Reply.{Response, Silence, Bytes, reply, Takes, Open}
use Rattle.yp_answer.specs.session.Makes.{may_make}

-- its caller is on the server's own host
abbrev pub OpenIsFromOwnHost : Type 0
OpenIsFromOwnHost = (path : Path) (maps : Maps) (peer : Peer) (message : List ℕ) (xid : ℕ) (job : MakeJob)
    → reply path maps peer message ≡ Open xid job → peer.addr ≡ own_host

-- There is a reply, at once or once a map is made, and no transfer is taken.
abbrev pub IsAnsweredAlone : Response → Type 0
IsAnsweredAlone Silence = ⊥
IsAnsweredAlone (Bytes bytes) = ⊤
IsAnsweredAlone (Takes bytes taken) = ⊥
IsAnsweredAlone (Open xid job) = ⊤

-- a call that may have a map made for it is answered so
abbrev pub MakeIsAnswered : Type 0
MakeIsAnswered = (path : Path) (maps : Maps) (peer : Peer) (message : List ℕ) → may_make path peer message ≡ true
    → IsAnsweredAlone (reply path maps peer message)

-- this server isn't the master of what is shown of the map
abbrev pub TakenIsOfAnother : Type 0
TakenIsOfAnother = (path : Path) (maps : Maps) (peer : Peer) (message bytes : List ℕ) (taken : Taken)
    (version : MapVersion) → reply path maps peer message ≡ Takes bytes taken
    → shown taken.map maps.log ≡ Some version → version.master ≢ maps.catalogue.own
