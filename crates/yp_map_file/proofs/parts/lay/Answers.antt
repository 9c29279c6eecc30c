use Rattle.std.proofs.lemmas.Result.{on_ok_weaker}
use Rattle.yp_io.specs.Disk.{MayLeaveTorn}
use Rattle.yp_map_file.specs.Slots.{IsAsBefore}
use Rattle.yp_map_file.proofs.Moments.{weaker, nothing, then}
use Rattle.yp_map_file.proofs.Steps.{at_rest, lay_torn, lay_torn_gate, lay_done, laid_laid}
use Rattle.yp_map_file.proofs.parts.lay.Goals as goal

pub returns-then-known-clause-laid : goal.returns-then-known-clause-laid
returns-then-known-clause-laid g c =
    laid_laid c.args.known.now (g.D.Disk.history c.args.disk.now) c.if-known.true c.requires

pub returns-then-known-clause-crash : goal.returns-then-known-clause-crash
returns-then-known-clause-crash g c =
    nothing g.D.Disk.history c.args.disk.now (IsAsBefore (g.D.Disk.history c.args.disk.now))
    g.met.D.Disk.stays g.met.D.Disk.only_now
    (at_rest c.args.known.now (g.D.Disk.history c.args.disk.now) c.requires)

pub returns-in_err-write_and_sync-clause-crash : goal.returns-in_err-write_and_sync-clause-crash
returns-in_err-write_and_sync-clause-crash g c =
    let old = g.D.Disk.history c.args.disk.now in
    weaker old (g.D.Disk.history c.write_and_sync.new.disk) (MayLeaveTorn 0 63 old) (IsAsBefore old)
    (lay_torn c.args.known.now old c.if-known.false c.requires) c.write_and_sync.ensures.crash

pub returns-clause-settled : goal.returns-clause-settled
returns-clause-settled g c =
    on_ok_weaker c.write_and_sync-2.result
    (λ done. (lay_done c.args.known.now (g.D.Disk.history c.args.disk.now)
    (g.D.Disk.history c.write_and_sync.new.disk)
    _ c.if-known.false c.requires c.in_ok-write_and_sync.ensures.ok done).0) c.write_and_sync-2.ensures.ok

pub returns-clause-laid : goal.returns-clause-laid
returns-clause-laid g c =
    on_ok_weaker c.write_and_sync-2.result
    (λ done. (lay_done c.args.known.now (g.D.Disk.history c.args.disk.now)
    (g.D.Disk.history c.write_and_sync.new.disk)
    _ c.if-known.false c.requires c.in_ok-write_and_sync.ensures.ok done).1) c.write_and_sync-2.ensures.ok

pub returns-clause-crash : goal.returns-clause-crash
returns-clause-crash g c =
    let old = g.D.Disk.history c.args.disk.now in
    let middle = g.D.Disk.history c.write_and_sync.new.disk in
    let new = g.D.Disk.history c.write_and_sync-2.new.disk in
    let P = IsAsBefore old in
    then g.D.Disk.history c.args.disk.now c.write_and_sync.new.disk c.write_and_sync-2.new.disk P g.met.D.Disk.goes_on
    g.met.D.Disk.splits
    (weaker old middle (MayLeaveTorn 0 63 old) P (lay_torn c.args.known.now old c.if-known.false c.requires)
    c.write_and_sync.ensures.crash)
    (weaker middle new (MayLeaveTorn 63 1 middle) P
    (lay_torn_gate c.args.known.now old middle c.if-known.false c.requires c.in_ok-write_and_sync.ensures.ok)
    c.write_and_sync-2.ensures.crash)
