use Rattle.std.proofs.Common.{◌≡◌, [], ◌∷◌, ◌++◌, length, Some, subst, rules}
use Rattle.yp_io.specs.Disk.{LeavesOnly, MayLeaveTorn}
use Rattle.yp_memory.specs.inside.MemDisk.{Platter, Wrote, history_of, played}
use Rattle.yp_memory.specs.inside.MemSteps.{steps_of}
use Rattle.yp_memory.proofs.DiskCalls.{write_leaves}
use Rattle.yp_memory.proofs.disk.MemDiskDisk.write_at.Goals as goal

pub returns-clause-crash : goal.returns-clause-crash
returns-clause-crash c =
    let first = c.self.inside.first.items in
    let old = steps_of c.self.inside.steps.items in
    let new = steps_of c.write_step.new.steps.items in
    let at = c.args.at in
    let piece = c.args.piece.now in
    let last : new ≡ old ++ Wrote at piece ∷ [] = search rules in
    subst (λ (d : Platter). LeavesOnly (Some (history_of d)) (Some (played first new))
    (MayLeaveTorn at (length piece) (Some (history_of d)))) c.self.view_is
    (write_leaves first old new at piece last)
