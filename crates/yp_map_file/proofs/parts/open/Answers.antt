use Rattle.std.proofs.Common.{subst, ℕ}
use Rattle.yp_io.specs.Disk.{MayLeaveTorn}
use Rattle.yp_map_file.specs.inside.Slots.{IsAsBeforeOrOpened}
use Rattle.yp_map_file.proofs.Moments.{weaker}
use Rattle.yp_map_file.proofs.Filling.{open_torn, open_done}
use Rattle.yp_map_file.proofs.parts.open.Goals as goal

pub returns-in_err-write_and_sync-clause-crash : goal.returns-in_err-write_and_sync-clause-crash
returns-in_err-write_and_sync-clause-crash g c =
    let old = g.D.Disk.history c.args.disk.now in
    weaker old (g.D.Disk.history c.write_and_sync.new.disk) (MayLeaveTorn c.place.result 1 old) (IsAsBeforeOrOpened old)
    (λ image left. open_torn c.args.known.now old c.args.next c.requires.long c.requires.closed c.requires.settled
    c.requires.filled image (subst (λ (n : ℕ). MayLeaveTorn n 1 old image) c.place.ensures.value left))
    c.write_and_sync.ensures.crash

pub returns-clause-settled : goal.returns-clause-settled
returns-clause-settled g c =
    (open_done c.args.known.now (g.D.Disk.history c.args.disk.now) (g.D.Disk.history c.write_and_sync.new.disk)
    c.args.next c.place.result c.place.ensures.value c.requires.long c.requires.closed c.requires.settled
    c.requires.filled c.in_ok-write_and_sync.ensures.ok).0

pub returns-clause-opened : goal.returns-clause-opened
returns-clause-opened g c =
    (open_done c.args.known.now (g.D.Disk.history c.args.disk.now) (g.D.Disk.history c.write_and_sync.new.disk)
    c.args.next c.place.result c.place.ensures.value c.requires.long c.requires.closed c.requires.settled
    c.requires.filled c.in_ok-write_and_sync.ensures.ok).1

pub returns-clause-crash : goal.returns-clause-crash
returns-clause-crash g c =
    let old = g.D.Disk.history c.args.disk.now in
    weaker old (g.D.Disk.history c.write_and_sync.new.disk) (MayLeaveTorn c.place.result 1 old) (IsAsBeforeOrOpened old)
    (λ image left. open_torn c.args.known.now old c.args.next c.requires.long c.requires.closed c.requires.settled
    c.requires.filled image (subst (λ (n : ℕ). MayLeaveTorn n 1 old image) c.place.ensures.value left))
    c.write_and_sync.ensures.crash
