use Rattle.std.proofs.Common.{◌≡◌, length, take, drop, arith}
use Rattle.std.proofs.lemmas.List.{length-append, length-drop, length-take-le}
use Rattle.std.proofs.lemmas.Result.{err_from_is_err_and}
use Rattle.yp_rpc.proofs.Fragments.{failed_body, torn_body}
use Rattle.yp_rpc.proofs.record.reader.read_fragment.Goals as goal

pub returns-in_err-fragment-clause-cause : goal.returns-in_err-fragment-clause-cause
returns-in_err-fragment-clause-cause g c =
    let p = err_from_is_err_and c.from_residual.result c.from_residual.ensures.1 in
    rw (p.1, p.2) (c.in_err-fragment.ensures.cause _ _)

pub returns-in_err-fill-clause-cause : goal.returns-in_err-fill-clause-cause
returns-in_err-fill-clause-cause g c =
    let room = c.args.room.now in
    let len = c.in-Some.fragment.len in
    let found = rw c.in-Some.is at c.in_ok-fragment.ensures in
    let same : length c.fill.new.buf ≡ length (take len room) = c.fill.auto.buf in
    let whole : length (take len room) ≡ len = length-take-le len room c.if-fragment-room.false in
    let part = c.in_err-fill.ensures.part in
    let p = err_from_is_err_and c.from_residual-in_err-fill.result c.from_residual-in_err-fill.ensures.1 in
    rw (p.1, p.2) (failed_body c.in-Some.fragment.last len _ c.args.empty c.args.place _ _ _ part.0 _ _ _
    found.short (omega (arith, length-append c.fill.new.buf (drop len room), length-drop len room))
    (omega (arith, part.1))
    found.head part.2 c.in_ok-fragment.ensures.counted c.in_err-fill.ensures.cause.risen)

pub returns-then-branch-fragment-clause-cause : goal.returns-then-branch-fragment-clause-cause
returns-then-branch-fragment-clause-cause g c =
    let room = c.args.room.now in
    let len = c.in-Some.fragment.len in
    let found = rw c.in-Some.is at c.in_ok-fragment.ensures in
    let part : length c.fill.new.buf ≡ length (take len room) = c.fill.auto.buf in
    let whole : length (take len room) ≡ len = length-take-le len room c.if-fragment-room.false in
    torn_body c.in-Some.fragment.last len c.in_ok-fill.field-0 _ c.args.empty c.args.place c.fill.new.buf _ _ _
    found.short (omega (arith, length-append c.fill.new.buf (drop len room), length-drop len room))
    c.if-branch-fragment.true c.in_ok-fill.ensures.within
    found.head c.in_ok-fill.ensures.bytes (c.in_ok-fill.ensures.end (omega arith))
