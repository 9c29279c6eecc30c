use Rattle.std.proofs.Common.{◌≡◌, ◌<◌, ◌≤◌, [], length, take, refl, arith}
use Rattle.std.proofs.lemmas.List.{length-take, length-take-le, take-append-le}
use Rattle.std.proofs.lemmas.Result.{err_from_is_err_and}
use Rattle.yp_rpc.proofs.Giving.{taken_whole, ended_in_fragment, failed_in_fragment, more_given, cause_earlier, nil_is}
use Rattle.yp_rpc.proofs.record.reader.read_piece.Goals as goal

pub returns-then-part-clause-end : goal.returns-then-part-clause-end
returns-then-part-clause-end g c = λ front start given none.
    taken_whole _ _ front start _ _ c.loop-part-test.true c.if-part.true (c.loop-part.invariant.given front start given)

pub returns-in_err-part-clause-cause : goal.returns-in_err-part-clause-cause
returns-in_err-part-clause-cause g c = λ front start given.
    let p = err_from_is_err_and c.from_residual.result c.from_residual.ensures.1 in
    rw (p.1, p.2) (cause_earlier _ _ (g.S.Source.faults c.args.source.now) (g.S.Source.faults c.loop-part.source)
    (g.S.Source.faults c.begin_fragment.new.source) start _ _ c.loop-part.invariant.never_fell
    (c.in_err-part.ensures.cause front start (c.loop-part.invariant.given front start given)))

pub returns-in_err-count-clause-cause : goal.returns-in_err-count-clause-cause
returns-in_err-count-clause-cause g c = λ front start given.
    let p = err_from_is_err_and c.from_residual-in_err-count.result c.from_residual-in_err-count.ensures.1 in
    rw (p.1, p.2) (failed_in_fragment _ _ (g.S.Source.faults c.args.source.now)
    (g.S.Source.faults c.read.new.self) front start _ _ _ (omega arith)
    (c.loop-part.invariant.given front start given) c.in_err-count.ensures.bytes
    (omega (arith, c.loop-part.invariant.never_fell, c.in_err-count.ensures.cause.risen)))

pub returns-then-count-eq0-clause-cause : goal.returns-then-count-eq0-clause-cause
returns-then-count-eq0-clause-cause g c = λ front start given.
    let none : take c.in_ok-count.count c.read.new.buf ≡ [] =
    nil_is _ (omega (arith, length-take c.in_ok-count.count c.read.new.buf, c.if-count-eq0.true)) in
    let some : 0 < length c.read.new.buf =
    omega (arith, c.read.auto.buf, length-take c.min-room.result c.args.buf.now, c.min-room.ensures, c.requires) in
    ended_in_fragment _ _ (g.S.Source.faults c.args.source.now) (g.S.Source.faults c.read.new.self) front start _ _ _
    (omega arith) (c.loop-part.invariant.given front start given)
    (rw none at c.in_ok-count.ensures.bytes.0) (c.in_ok-count.ensures.bytes.1 c.if-count-eq0.true some)

pub returns-clause-more : goal.returns-clause-more
returns-clause-more g c = λ front start given some.
    let fits : c.in_ok-count.count ≤ length c.read.new.buf = c.in_ok-count.ensures.within in
    let few : c.in_ok-count.count ≤ c.loop-part.part.left =
    omega (arith, c.read.auto.buf, length-take c.min-room.result c.args.buf.now, c.min-room.ensures) in
    rw take-append-le
    (more_given _ c.in_ok-count.count front (take c.in_ok-count.count c.read.new.buf) start _ _ _ _
    (c.loop-part.invariant.given front start given) (omega arith) few
    (length-take-le c.in_ok-count.count c.read.new.buf fits) c.in_ok-count.ensures.bytes.0 refl)
