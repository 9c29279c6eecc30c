use Rattle.std.proofs.Common.{◌≤◌, length, sym, ◌∙◌, ap, arith}
use Rattle.std.proofs.lemmas.List.{drop_all}
use Rattle.std.specs.List.{fold}
use Rattle.yp_memory.specs.inside.MemSteps.{Replayed, crash_of, after_crash_step, steps_of}
use Rattle.yp_memory.proofs.Crashes.{replay_all}
use Rattle.yp_memory.proofs.disk.replay.Goals as goal

pub returns : goal.returns
returns c =
    let all : length c.args.steps.now ≤ c.loop-step.step-index = omega (arith, c.loop-step-test.false) in
    let none = ap steps_of (drop_all c.loop-step.step-index c.args.steps.now all) in
    let ended = ap (fold (after_crash_step c.args.kept) (crash_of c.loop-step.crash)) none in
    ap (λ (r : Replayed). r.image) (sym ended ∙ c.loop-step.invariant)
    ∙ replay_all c.args.kept c.args.first.now (steps_of c.args.steps.now)
