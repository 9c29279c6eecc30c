use Rattle.yp_map_file.specs.inside.Slots.{IsAsBeforeOr}
use Rattle.yp_map_file.proofs.Committing.{on_err, bounded, now, part_more, part_last, or_version, makes_all}
use Rattle.yp_map_file.proofs.slot.Slot.commit.Goals as goal

pub returns-in_err-close_cell-clause-any_moment : goal.returns-in_err-close_cell-clause-any_moment
returns-in_err-close_cell-clause-any_moment g c = λ version is.
    let L = g.met.D.Disk in
    let H = g.D.Disk.history in
    let all = part_more H L.goes_on L.splits L.counts_now L.reads_image c.args.self.now.disk c.lay.new.self.disk
    c.close_cell.new.self.disk c.lay.ensures.any_moment c.close_cell.ensures.any_moment in
    or_version H L.goes_on L.splits L.counts_now L.reads_image version c.args.self.now.disk c.close_cell.new.self.disk
    all

pub returns-in_err-close_cell-clause-failed : goal.returns-in_err-close_cell-clause-failed
returns-in_err-close_cell-clause-failed g c = on_err c.from_residual-in_err-close_cell.result (λ version is image left.
    let L = g.met.D.Disk in
    let H = g.D.Disk.history in
    let all = part_more H L.goes_on L.splits L.counts_now L.reads_image c.args.self.now.disk c.lay.new.self.disk
    c.close_cell.new.self.disk c.lay.ensures.any_moment c.close_cell.ensures.any_moment in
    now H L.goes_on L.splits L.counts_now L.reads_image c.args.self.now.disk c.close_cell.new.self.disk
    (IsAsBeforeOr version (H c.args.self.now.disk))
    (or_version H L.goes_on L.splits L.counts_now L.reads_image version c.args.self.now.disk c.close_cell.new.self.disk
    all) image left)

pub returns-in_err-fill-clause-any_moment : goal.returns-in_err-fill-clause-any_moment
returns-in_err-fill-clause-any_moment g c = λ version is.
    let L = g.met.D.Disk in
    let H = g.D.Disk.history in
    let two = part_more H L.goes_on L.splits L.counts_now L.reads_image c.args.self.now.disk c.lay.new.self.disk
    c.close_cell.new.self.disk c.lay.ensures.any_moment c.close_cell.ensures.any_moment in
    let all = part_more H L.goes_on L.splits L.counts_now L.reads_image c.args.self.now.disk c.close_cell.new.self.disk
    c.fill.new.self.disk two c.fill.ensures.any_moment in
    or_version H L.goes_on L.splits L.counts_now L.reads_image version c.args.self.now.disk c.fill.new.self.disk all

pub returns-in_err-fill-clause-failed : goal.returns-in_err-fill-clause-failed
returns-in_err-fill-clause-failed g c = on_err c.from_residual-in_err-fill.result (λ version is image left.
    let L = g.met.D.Disk in
    let H = g.D.Disk.history in
    let two = part_more H L.goes_on L.splits L.counts_now L.reads_image c.args.self.now.disk c.lay.new.self.disk
    c.close_cell.new.self.disk c.lay.ensures.any_moment c.close_cell.ensures.any_moment in
    let all = part_more H L.goes_on L.splits L.counts_now L.reads_image c.args.self.now.disk c.close_cell.new.self.disk
    c.fill.new.self.disk two c.fill.ensures.any_moment in
    now H L.goes_on L.splits L.counts_now L.reads_image c.args.self.now.disk c.fill.new.self.disk
    (IsAsBeforeOr version (H c.args.self.now.disk))
    (or_version H L.goes_on L.splits L.counts_now L.reads_image version c.args.self.now.disk c.fill.new.self.disk all)
    image left)

pub returns-in_err-open_cell-clause-any_moment : goal.returns-in_err-open_cell-clause-any_moment
returns-in_err-open_cell-clause-any_moment g c = λ version is.
    let L = g.met.D.Disk in
    let H = g.D.Disk.history in
    let two = part_more H L.goes_on L.splits L.counts_now L.reads_image c.args.self.now.disk c.lay.new.self.disk
    c.close_cell.new.self.disk c.lay.ensures.any_moment c.close_cell.ensures.any_moment in
    let three = part_more H L.goes_on L.splits L.counts_now L.reads_image c.args.self.now.disk
    c.close_cell.new.self.disk c.fill.new.self.disk two c.fill.ensures.any_moment in
    part_last H L.goes_on L.splits L.counts_now L.reads_image version c.args.self.now.disk c.fill.new.self.disk
    c.open_cell.new.self.disk three c.open_cell.ensures.any_moment (c.in_ok-fill.ensures.version version is)

pub returns-in_err-open_cell-clause-failed : goal.returns-in_err-open_cell-clause-failed
returns-in_err-open_cell-clause-failed g c = on_err c.from_residual-in_err-open_cell.result (λ version is image left.
    let L = g.met.D.Disk in
    let H = g.D.Disk.history in
    let two = part_more H L.goes_on L.splits L.counts_now L.reads_image c.args.self.now.disk c.lay.new.self.disk
    c.close_cell.new.self.disk c.lay.ensures.any_moment c.close_cell.ensures.any_moment in
    let three = part_more H L.goes_on L.splits L.counts_now L.reads_image c.args.self.now.disk
    c.close_cell.new.self.disk c.fill.new.self.disk two c.fill.ensures.any_moment in
    now H L.goes_on L.splits L.counts_now L.reads_image c.args.self.now.disk c.open_cell.new.self.disk
    (IsAsBeforeOr version (H c.args.self.now.disk))
    (part_last H L.goes_on L.splits L.counts_now L.reads_image version c.args.self.now.disk c.fill.new.self.disk
    c.open_cell.new.self.disk three c.open_cell.ensures.any_moment (c.in_ok-fill.ensures.version version is))
    image left)

pub returns-clause-committed : goal.returns-clause-committed
returns-clause-committed g c =
    let H = g.D.Disk.history in
    makes_all c.args.body.now (H c.args.self.now.disk) (H c.lay.new.self.disk) (H c.close_cell.new.self.disk)
    (H c.fill.new.self.disk) (H c.open_cell.new.self.disk)
    c.in_ok-lay.ensures.laid c.in_ok-close_cell.ensures.closed c.in_ok-fill.ensures.filled
    c.in_ok-open_cell.ensures.opened

pub returns-clause-any_moment : goal.returns-clause-any_moment
returns-clause-any_moment g c = λ version is.
    let L = g.met.D.Disk in
    let H = g.D.Disk.history in
    let two = part_more H L.goes_on L.splits L.counts_now L.reads_image c.args.self.now.disk c.lay.new.self.disk
    c.close_cell.new.self.disk c.lay.ensures.any_moment c.close_cell.ensures.any_moment in
    let three = part_more H L.goes_on L.splits L.counts_now L.reads_image c.args.self.now.disk
    c.close_cell.new.self.disk c.fill.new.self.disk two c.fill.ensures.any_moment in
    part_last H L.goes_on L.splits L.counts_now L.reads_image version c.args.self.now.disk c.fill.new.self.disk
    c.open_cell.new.self.disk three c.open_cell.ensures.any_moment (c.in_ok-fill.ensures.version version is)

pub returns-in_err-close_cell-clause-bound : goal.returns-in_err-close_cell-clause-bound
returns-in_err-close_cell-clause-bound g c =
    bounded c.requires.body.0 (g.D.Disk.history c.args.self.now.disk) (g.D.Disk.history c.close_cell.new.self.disk)
    c.lay.ensures.sound (returns-in_err-close_cell-clause-any_moment g c c.requires.body.0 c.requires.body.1)

pub returns-in_err-fill-clause-bound : goal.returns-in_err-fill-clause-bound
returns-in_err-fill-clause-bound g c =
    bounded c.requires.body.0 (g.D.Disk.history c.args.self.now.disk) (g.D.Disk.history c.fill.new.self.disk)
    c.lay.ensures.sound (returns-in_err-fill-clause-any_moment g c c.requires.body.0 c.requires.body.1)

pub returns-in_err-open_cell-clause-bound : goal.returns-in_err-open_cell-clause-bound
returns-in_err-open_cell-clause-bound g c =
    bounded c.requires.body.0 (g.D.Disk.history c.args.self.now.disk) (g.D.Disk.history c.open_cell.new.self.disk)
    c.lay.ensures.sound (returns-in_err-open_cell-clause-any_moment g c c.requires.body.0 c.requires.body.1)

pub returns-clause-bound : goal.returns-clause-bound
returns-clause-bound g c =
    bounded c.requires.body.0 (g.D.Disk.history c.args.self.now.disk) (g.D.Disk.history c.open_cell.new.self.disk)
    c.lay.ensures.sound (returns-clause-any_moment g c c.requires.body.0 c.requires.body.1)

pub returns-in_err-lay-clause-bound : goal.returns-in_err-lay-clause-bound
returns-in_err-lay-clause-bound g c =
    let L = g.met.D.Disk in
    let H = g.D.Disk.history in
    bounded c.requires.body.0 (H c.args.self.now.disk) (H c.lay.new.self.disk) c.lay.ensures.sound
    (or_version H L.goes_on L.splits L.counts_now L.reads_image c.requires.body.0 c.args.self.now.disk
    c.lay.new.self.disk c.lay.ensures.any_moment)
