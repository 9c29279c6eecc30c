use Rattle.std.proofs.Common.{arith, refl, ◌∙◌}
use Rattle.std.proofs.lemmas.Result.{err_from_is_err_and}
use Rattle.yp_map_file.proofs.Surveying.{gone_none, gone_then, gone_wrong, gone_all}
use Rattle.yp_map_file.proofs.survey.pass_all.Goals as goal

pub loop-progress-init : goal.loop-progress-init
loop-progress-init g c = record {
  gone = gone_none (g.D.Disk.history c.args.disk.now) c.args.entry.now c.args.count c.args.start;
  same = refl;
  within = c.requires.within;
  room = c.requires.room;
  never_fell = omega arith;
}

pub returns-in_err-progress-clause-ends : goal.returns-in_err-progress-clause-ends
returns-in_err-progress-clause-ends g c =
    let i = c.loop-progress.invariant in
    let p = err_from_is_err_and c.from_residual.result c.from_residual.ensures.1 in
    rw (p.1, p.2) (gone_wrong (g.D.Disk.history c.args.disk.now) c.args.entry.now c.args.count c.args.start
    c.loop-progress.progress c.in_err-progress.field-0.0 i.gone (rw i.same at c.in_err-progress.ensures.steps))

pub loop-progress-preserved : goal.loop-progress-preserved
loop-progress-preserved g c =
    let i = c.loop-progress.invariant in
    record {
      gone = gone_then (g.D.Disk.history c.args.disk.now) c.args.entry.now c.args.count c.args.start
          c.loop-progress.progress c.in_ok-progress.progress i.gone (rw i.same at c.in_ok-progress.ensures.steps);
      same = c.step.ensures.same ∙ i.same;
      within = c.in_ok-progress.ensures.within;
      room = c.step.ensures.room ∙ i.room;
      never_fell = omega (arith, c.step.ensures.never_falls, i.never_fell);
    }

pub returns-clause-ends : goal.returns-clause-ends
returns-clause-ends g c =
    gone_all (g.D.Disk.history c.args.disk.now) c.args.entry.now c.args.count c.args.start c.loop-progress.progress
    (omega (arith, c.loop-progress-test.false)) c.loop-progress.invariant.gone
