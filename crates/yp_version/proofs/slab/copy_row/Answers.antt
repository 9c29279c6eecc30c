use Rattle.std.proofs.Common.{◌≡◌, ap, ◌∙◌, arith}
use Rattle.yp_version.specs.Rows.{row_len}
use Rattle.yp_version.specs.inside.Slabs.{row_from}
use Rattle.yp_version.proofs.Packing.{row_within}
use Rattle.yp_version.proofs.slab.copy_row.Goals as goal

pub slice_bounds-row-end : goal.slice_bounds-row-end
slice_bounds-row-end c =
    let within = row_within c.args.others.now c.args.from c.requires in
    let size : c.row_len.result ≡ row_len (row_from c.args.others.now c.args.from) = c.row_len.ensures.value ∙ ap row_len c.row_from.ensures in
    omega arith
