use Rattle.std.proofs.Common.{◌<◌, ◌≤◌, [], List, ℕ, length, get_or, take, refl, sym, subst, arith, inl, inr}
use Rattle.std.proofs.lemmas.List.{length-map}
use Rattle.yp_netgroup.specs.inside.reverse.Links.{bytes_in}
use Rattle.yp_netgroup.specs.inside.reverse.Refused.{IsReverseCause, IsPut, IsReverseRefusal, IsSoFar}
use Rattle.yp_netgroup.proofs.reverse.Meeting.{bytes, name-at}
use Rattle.yp_netgroup.proofs.reverse.Drafting.{so_far-put, so_far-refused, keys_below, keys_cases, keys_more, take_whole}
use Rattle.yp_netgroup.proofs.reverse.Handing.{err_same}
use Rattle.yp_netgroup.proofs.reverse.rows.put_rows.Goals as goal

pub loop-key-init : goal.loop-key-init
loop-key-init g c = λ rows field start kept begun. begun

pub loop-key-preserved : goal.loop-key-preserved
loop-key-preserved g c = λ rows field start kept begun.
    let lent = c.args.keys.now in
    let keys = bytes_in lent in
    let i = c.loop-key.key-index in
    let within : i < length keys = omega (arith, c.loop-key-test.true, length-map lent bytes) in
    let put = subst (λ (key : List ℕ). IsPut rows field key c.loop-key.builder c.put_row.new.builder)
    (name-at lent lent i _ refl c.loop-key-test.true) (c.in_ok-put_row.ensures.ok rows field kept) in
    subst (IsSoFar rows field start c.put_row.new.builder) (sym (keys_more keys i within c.requires.rising))
    (so_far-put rows field start c.loop-key.builder (take i keys) (get_or keys i []) (c.loop-key.invariant rows field start kept begun)
    (keys_below keys i within c.requires.rising) c.put_row.new.builder put)

pub returns-in_err-put_row-clause-err : goal.returns-in_err-put_row-clause-err
returns-in_err-put_row-clause-err g c =
    err_same c.from_residual.result c.in_err-put_row.field-0.0 _ c.from_residual.ensures.1
    (λ rows field start kept begun all.
    let lent = c.args.keys.now in
    let keys = bytes_in lent in
    let i = c.loop-key.key-index in
    let fault = c.in_err-put_row.field-0.0 in
    let within : i < length keys = omega (arith, c.loop-key-test.true, length-map lent bytes) in
    elim (c.in_err-put_row.ensures.err rows field kept) [
      | inl e ↦ subst (IsReverseCause rows field start) (sym e) tt
      | inr refusal ↦
          so_far-refused rows field start c.loop-key.builder (take i keys) (get_or keys i [])
          (c.loop-key.invariant rows field start kept begun) (keys_below keys i within c.requires.rising) fault
          (subst (λ (key : List ℕ). IsReverseRefusal rows field key c.loop-key.builder fault) (name-at lent lent i _ refl c.loop-key-test.true) refusal)
          (λ other group listed. keys_cases keys i within c.requires.rising other (all other group listed))
    ])

pub returns-clause-ok : goal.returns-clause-ok
returns-clause-ok g c = λ rows field start kept begun.
    let keys = bytes_in c.args.keys.now in
    let i = c.loop-key.key-index in
    let over : length keys ≤ i = omega (arith, c.loop-key-test.false, length-map c.args.keys.now bytes) in
    subst (IsSoFar rows field start c.loop-key.builder) (take_whole keys i over) (c.loop-key.invariant rows field start kept begun)
