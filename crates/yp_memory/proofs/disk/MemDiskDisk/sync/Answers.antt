use Rattle.std.proofs.Common.{◌≡◌, [], ◌∷◌, ◌++◌, Some, subst, rules}
use Rattle.yp_io.specs.Disk.{LeavesOnly, MayLeave}
use Rattle.yp_memory.specs.inside.MemDisk.{Platter, Synced, history_of, played}
use Rattle.yp_memory.specs.inside.MemSteps.{steps_of}
use Rattle.yp_memory.proofs.DiskCalls.{sync_leaves, sync_durable}
use Rattle.yp_memory.proofs.disk.MemDiskDisk.sync.Goals as goal

pub returns-clause-crash : goal.returns-clause-crash
returns-clause-crash c =
    let first = c.self.inside.first.items in
    let old = steps_of c.self.inside.steps.items in
    let new = steps_of c.sync_step.new.steps.items in
    let last : new ≡ old ++ Synced ∷ [] = search rules in
    subst (λ (d : Platter). LeavesOnly (Some (history_of d)) (Some (played first new))
    (MayLeave (Some (history_of d)))) c.self.view_is (sync_leaves first old new last)

pub returns-clause-durable : goal.returns-clause-durable
returns-clause-durable c =
    let first = c.self.inside.first.items in
    let old = steps_of c.self.inside.steps.items in
    let new = steps_of c.sync_step.new.steps.items in
    let last : new ≡ old ++ Synced ∷ [] = search rules in
    sync_durable first old new last
