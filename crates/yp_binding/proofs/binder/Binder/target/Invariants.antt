use Rattle.std.proofs.Common.{◌≡◌, ◌-◌, length}
use Rattle.std.specs.List.{slice_get}
use Rattle.yp_binding.specs.Rounds.{round_begin, targets_from, targets}
use Rattle.yp_binding.specs.inside.Kept.{bindings_of}
use Rattle.yp_binding.proofs.binder.Binder.target.Given as goal

abbrev pub invariant-loop-domain : goal.invariant-loop-domain
invariant-loop-domain l =
    slice_get (targets (bindings_of l.self-inside)) l.place
    ≡ slice_get
    (targets_from l.self-inside.servers.items (round_begin l.self-inside.history) l.domain
    (length l.self-inside.standings.items - l.domain))
    l.left
