use Rattle.std.proofs.Common.{◌≡◌, List, [], drop}
use denote.Shadow.{shadow}
use denote.Text.{Utf8}
use Rattle.yp_io.specs.declared.stream.Peer.{Peer}
use Rattle.yp_command.specs.Words.{compared, texts}
use Rattle.yp_command.specs.inside.Words.{Holds}
use Rattle.yp_command.proofs.further.peers_and_domain.Given as goal

abbrev pub invariant-loop-i : goal.invariant-loop-i
invariant-loop-i l =
    shadow (Utf8 l.last) × (values : List Peer) × Holds (λ peer. peer) l.peers values
    × (compared l.i values l.last (drop l.i (texts l.words.words.now))
    ≡ compared l.at [] l.domain (drop l.at (texts l.words.words.now)))
