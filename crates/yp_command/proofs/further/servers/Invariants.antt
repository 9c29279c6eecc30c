use Rattle.std.proofs.Common.{◌≡◌, ◌≤◌, List, [], ◌∷◌, drop, map, take}
use Rattle.yp_binding.specs.Kept.{servers_max}
use Rattle.yp_command.specs.Forms.{Host}
use Rattle.yp_command.specs.Words.{servers, host_view, texts}
use Rattle.yp_command.specs.inside.Words.{Holds}
use Rattle.yp_command.proofs.further.servers.Given as goal

abbrev pub invariant-loop-i : goal.invariant-loop-i
invariant-loop-i l =
    (values : List Host) × Holds host_view l.hosts values × (l.count ≤ servers_max)
    × (take l.count l.peers ≡ map (λ host. host.1) values)
    × (servers l.i values (drop l.i (texts l.words.words.now))
    ≡ servers l.at ((l.first.0.now, l.first.1) ∷ []) (drop l.at (texts l.words.words.now)))
