use Rattle.std.proofs.lemmas.Result.{on_ok_weaker}
use Rattle.std.proofs.Common.{subst, ℕ}
use Rattle.yp_io.specs.Disk.{MayLeaveTorn}
use Rattle.yp_map_file.specs.Slots.{IsAsBefore}
use Rattle.yp_map_file.proofs.Moments.{weaker, nothing}
use Rattle.yp_map_file.proofs.Steps.{at_rest, close_torn, close_done, closed_closed}
use Rattle.yp_map_file.proofs.parts.close.Goals as goal

pub returns-then-not-known-clause-closed : goal.returns-then-not-known-clause-closed
returns-then-not-known-clause-closed g c =
    closed_closed c.args.known.now (g.D.Disk.history c.args.disk.now)
    c.requires.long c.if-not-known.true c.requires.settled

pub returns-then-not-known-clause-crash : goal.returns-then-not-known-clause-crash
returns-then-not-known-clause-crash g c =
    nothing g.D.Disk.history c.args.disk.now (IsAsBefore (g.D.Disk.history c.args.disk.now))
    g.met.D.Disk.stays g.met.D.Disk.only_now
    (at_rest c.args.known.now (g.D.Disk.history c.args.disk.now) c.requires.settled)

pub returns-clause-settled : goal.returns-clause-settled
returns-clause-settled g c =
    on_ok_weaker c.write_and_sync.result
    (λ done. (close_done c.args.known.now (g.D.Disk.history c.args.disk.now)
    _ c.place.result c.place.ensures.value c.requires.long c.if-not-known.false c.requires.settled done).0)
    c.write_and_sync.ensures.ok

pub returns-clause-closed : goal.returns-clause-closed
returns-clause-closed g c =
    on_ok_weaker c.write_and_sync.result
    (λ done. (close_done c.args.known.now (g.D.Disk.history c.args.disk.now)
    _ c.place.result c.place.ensures.value c.requires.long c.if-not-known.false c.requires.settled done).1)
    c.write_and_sync.ensures.ok

pub returns-clause-crash : goal.returns-clause-crash
returns-clause-crash g c =
    let old = g.D.Disk.history c.args.disk.now in
    weaker old (g.D.Disk.history c.write_and_sync.new.disk) (MayLeaveTorn c.place.result 1 old) (IsAsBefore old)
    (λ image left. close_torn c.args.known.now old c.requires.long c.if-not-known.false c.requires.settled image
    (subst (λ (n : ℕ). MayLeaveTorn n 1 old image) c.place.ensures.value left)) c.write_and_sync.ensures.crash
