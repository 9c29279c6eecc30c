-- How far the rows of a body were read.
use Rattle.std.proofs.Common.{◌≡◌, ◌≤◌, length, IfSome}
use Rattle.yp_map_file.specs.inside.Surveys.{window_len, body_of}
use Rattle.yp_map_file.proofs.Surveying.{HasGoneOn}
use Rattle.yp_map_file.proofs.survey.pass_all.Given as goal

abbrev pub invariant-loop-progress : goal.invariant-loop-progress
invariant-loop-progress g l = record {
  gone : IfSome (g.D.Disk.history l.fn.disk) (λ h.
      HasGoneOn (body_of l.fn.entry h.state.reads) l.fn.count l.fn.start l.progress);
  same : g.D.Disk.history l.disk ≡ g.D.Disk.history l.fn.disk;
  within : l.progress.at ≤ l.fn.entry.len;
  room : length l.buf ≡ window_len;
  never_fell : g.D.Disk.faults l.fn.disk ≤ g.D.Disk.faults l.disk;
}

abbrev pub decreases-loop-progress : goal.decreases-loop-progress
decreases-loop-progress g l = l.progress.left
