use Rattle.std.proofs.Common.{◌+◌, ap, arith}
use Rattle.std.proofs.lemmas.List.{length-take-le}
use Rattle.std.proofs.lemmas.Result.{err_from_is_err_and}
use Rattle.yp_rpc.proofs.Stream.{within-behind, ReadsBehind}
use Rattle.yp_rpc.proofs.Fragments.{HasFilled-more, TakesRecord-last, HasCause-more, HasCause-end, none_at_all}
use Rattle.yp_rpc.proofs.record.reader.read_record.Goals as goal

pub returns-in_err-fragment-clause-cause : goal.returns-in_err-fragment-clause-cause
returns-in_err-fragment-clause-cause g c =
    let behind : ReadsBehind c.fragments.len c.fragments.buf c.read_fragment.new.room =
    record { within = c.fragments.invariant.fits; as_long = c.read_fragment.auto.room } in
    let p = err_from_is_err_and c.from_residual.result c.from_residual.ensures.1 in
    rw (p.1, p.2) (HasCause-more _ _ _ _ _ _ _ _ _ _ _ _ _ behind c.fragments.invariant.begun
    c.fragments.invariant.never_fell c.in_err-fragment.ensures.cause)

pub returns-then-empty-eq0-clause-none : goal.returns-then-empty-eq0-clause-none
returns-then-empty-eq0-clause-none g c =
    let found = rw c.in_default.is at c.in_ok-fragment.ensures in
    none_at_all _ _ _ _ _ _ _ (rw c.if-empty-eq0.true at c.fragments.invariant.begun)
    (omega (arith, length-take-le c.fragments.len c.fragments.buf c.fragments.invariant.fits)) found.none

pub returns-in_default-clause-cause : goal.returns-in_default-clause-cause
returns-in_default-clause-cause g c =
    let behind : ReadsBehind c.fragments.len c.fragments.buf c.read_fragment.new.room =
    record { within = c.fragments.invariant.fits; as_long = c.read_fragment.auto.room } in
    let found = rw c.in_default.is at c.in_ok-fragment.ensures in
    HasCause-end _ _ _ _ _ _ _ _ _ behind c.fragments.invariant.begun (omega (arith, c.else-len-eq0.either)) found.none

pub returns-then-fragment-clause-taken : goal.returns-then-fragment-clause-taken
returns-then-fragment-clause-taken g c =
    let behind : ReadsBehind c.fragments.len c.fragments.buf c.read_fragment.new.room =
    record { within = c.fragments.invariant.fits; as_long = c.read_fragment.auto.room } in
    let found = rw c.in-Some.is at c.in_ok-fragment.ensures in
    let taken = rw c.if-fragment.true at found.taken in
    TakesRecord-last _ _ _ _ _ _ _ _ _ _ _ behind found.within c.fragments.invariant.begun taken found.few found.short
    c.saturating_add-end.ensures

pub fragments-preserved : goal.fragments-preserved
fragments-preserved g c =
    let behind : ReadsBehind c.fragments.len c.fragments.buf c.read_fragment.new.room =
    record { within = c.fragments.invariant.fits; as_long = c.read_fragment.auto.room } in
    let found = rw c.in-Some.is at c.in_ok-fragment.ensures in
    let taken = rw c.if-fragment.false at found.taken in
    let begun = HasFilled-more c.fragments.buf c.read_fragment.new.room c.fragments.len c.in-Some.fragment.len
    c.fragments.empty _ c.args.place _ _ _ _ _ behind found.within c.fragments.invariant.begun taken found.few
    found.short (ap (λ n. c.fragments.empty + n) c.from-empty.ensures) c.saturating_add-end.ensures in
    record {
      fits = within-behind _ _ _ _ _ c.fragments.invariant.fits found.within;
      few = omega (arith, begun.counted, begun.within.empty);
      begun = begun;
      never_fell = omega arith;
    }
