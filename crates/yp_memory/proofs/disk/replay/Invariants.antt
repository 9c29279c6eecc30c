use Rattle.std.proofs.Common.{◌≡◌, drop}
use Rattle.std.specs.List.{fold}
use Rattle.yp_memory.specs.inside.MemSteps.{crash_of, after_crash_step, steps_of}
use Rattle.yp_memory.proofs.disk.replay.Given as goal

abbrev pub invariant-loop-step : goal.invariant-loop-step
invariant-loop-step l =
    fold (after_crash_step l.kept) (crash_of l.crash) (steps_of (drop l.step-index l.steps))
    ≡ fold (after_crash_step l.kept) (record { reads = l.first; image = l.first; bits = l.kept }) (steps_of l.steps)
