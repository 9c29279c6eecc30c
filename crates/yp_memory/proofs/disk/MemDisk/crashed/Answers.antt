use Rattle.std.proofs.Common.{sym, ◌∙◌, subst}
use Rattle.yp_io.specs.Disk.{IsImage}
use Rattle.yp_memory.specs.inside.MemDisk.{Platter, history_of, played, crashed}
use Rattle.yp_memory.specs.inside.MemDiskLaws.{crashed_image}
use Rattle.yp_memory.specs.inside.MemSteps.{steps_of}
use Rattle.yp_memory.proofs.disk.MemDisk.crashed.Goals as goal

pub returns-in-Ok-clause-image : goal.returns-in-Ok-clause-image
returns-in-Ok-clause-image c =
    let first = c.self.inside.first.items in
    let steps = steps_of c.self.inside.steps.items in
    let is = c.in-Ok.ensures
    ∙ (λ i. crashed c.args.kept (c.deref.ensures.value i) (steps_of (c.deref-2.ensures.value i))) in
    let image = subst (IsImage (played first steps).state) (sym is) (crashed_image c.args.kept first steps) in
    subst (λ (d : Platter). IsImage (history_of d).state c.in-Ok.bytes.items) c.self.view_is image
