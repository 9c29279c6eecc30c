use Rattle.std.proofs.Common.{◌≡◌, ℕ, ◌+◌, ◌-◌, ◌<◌, ◌≤◌, inl, inr, ap, refl, arith}
use Rattle.std.proofs.lemmas.Result.{err_from_is_err_and}
use Rattle.yp_rpc.specs.Records.{empty_max}
use Rattle.yp_rpc.proofs.Giving.{no_head, ended_before_head, head_given, named_within}
use Rattle.yp_rpc.proofs.record.reader.begin_fragment.Goals as goal

pub returns-in_err-head-clause-cause : goal.returns-in_err-head-clause-cause
returns-in_err-head-clause-cause g c = λ front start given.
    let p = err_from_is_err_and c.from_residual.result c.from_residual.ensures.1 in
    rw (p.1, p.2) (no_head _ _ (g.S.Source.faults c.args.source.now) (g.S.Source.faults c.args.source.now)
    (g.S.Source.faults c.read_head.new.source) front start _ _ _ _ c.requires.none_left c.requires.more given
    (omega arith) (c.in_err-head.ensures.cause _ _))

pub returns-in_default-clause-cause : goal.returns-in_default-clause-cause
returns-in_default-clause-cause g c = λ front start given.
    let found = rw c.in_default.is at c.in_ok-head.ensures in
    ended_before_head _ _ (g.S.Source.faults c.args.source.now)
    (g.S.Source.faults c.read_head.new.source) front start _ _ _ c.requires.none_left c.requires.more given
    found.none

pub returns-then-len-saturating_sub-clause-cause : goal.returns-then-len-saturating_sub-clause-cause
returns-then-len-saturating_sub-clause-cause g c = λ front start given.
    let found = rw c.in-Some.is at c.in_ok-head.ensures in
    let past : c.args.limit - c.args.part.named < c.in-Some.head.len = omega (arith, c.saturating_sub.ensures) in
    no_head _ _ (g.S.Source.faults c.args.source.now) (g.S.Source.faults c.args.source.now)
    (g.S.Source.faults c.read_head.new.source) front start _ _ _ _ c.requires.none_left c.requires.more given
    (omega arith)
    (refl, c.in-Some.head.last, c.in-Some.head.len, found.short, inl past, found.head)

pub returns-then-part-ge-EMPTY_MAX-clause-cause : goal.returns-then-part-ge-EMPTY_MAX-clause-cause
returns-then-part-ge-EMPTY_MAX-clause-cause g c = λ front start given.
    let found = rw c.in-Some.is at c.in_ok-head.ensures in
    let none : c.in-Some.head.len ≡ 0 = omega arith in
    let many : empty_max ≤ c.args.part.empty = omega arith in
    no_head _ _ (g.S.Source.faults c.args.source.now) (g.S.Source.faults c.args.source.now)
    (g.S.Source.faults c.read_head.new.source) front start _ _ _ _ c.requires.none_left c.requires.more given
    (omega arith)
    (refl, c.in-Some.head.last, c.in-Some.head.len, found.short, inr (none, many), found.head)

pub returns-clause-given : goal.returns-clause-given
returns-clause-given g c = λ front start given.
    let found = rw c.in-Some.is at c.in_ok-head.ensures in
    let few : c.in-Some.head.len ≡ 0 → c.args.part.empty < empty_max =
    λ none. elim c.else-len-eq0.either [ inl few ↦ few.1 | inr some ↦ absurd (some none) ] in
    head_given _ front start _ _ _ _ c.in-Some.head.last c.in-Some.head.len c.requires.none_left c.requires.more given
    found.head found.short
    (let room : c.in-Some.head.len ≤ c.args.limit - c.args.part.named =
    omega (arith, c.saturating_sub.ensures) in
    let within : c.args.part.named ≤ c.args.limit = named_within _ front start _ _ given in omega arith) few refl
    (ap (λ (n : ℕ). c.args.part.empty + n) c.from.ensures) refl refl c.saturating_add.ensures
