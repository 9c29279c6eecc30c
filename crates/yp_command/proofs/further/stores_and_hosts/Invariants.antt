use Rattle.std.proofs.Common.{◌≡◌, List, [], drop, map}
use Rattle.yp_command.specs.Forms.{Host}
use Rattle.yp_command.specs.Words.{served, host_view, texts}
use Rattle.yp_command.specs.inside.Words.{Holds}
use Rattle.yp_command.proofs.further.stores_and_hosts.Given as goal

abbrev pub invariant-loop-i : goal.invariant-loop-i
invariant-loop-i l =
    (values : List Host) × Holds host_view l.hosts values
    × (served l.i (map (λ store. (store.0.now, store.1.now)) l.stores.items) values (drop l.i (texts l.words.words.now))
    ≡ served l.at [] [] (drop l.at (texts l.words.words.now)))
