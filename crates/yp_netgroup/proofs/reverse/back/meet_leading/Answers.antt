use Rattle.std.proofs.Common.{◌≡◌, ◌<◌, ◌≤◌, ◌+◌, ◌∙◌, refl, sym, ap, subst, bytes_eq, get_or, arith, length, []}
use Rattle.std.proofs.lemmas.List.{length-map}
use Rattle.indexmap.specs.IndexSet.{insert_all}
use Rattle.yp_netgroup.specs.inside.reverse.Links.{bytes_in, under}
use Rattle.yp_netgroup.specs.inside.reverse.Back.{IsMetBack}
use Rattle.yp_netgroup.proofs.reverse.Meeting.{bytes, name-at, met-first, met-next, met-whole}
use Rattle.yp_netgroup.proofs.reverse.back.meet_leading.Goals as goal

pub loop-next-init : goal.loop-next-init
loop-next-init c =
    let led = under c.args.named.now in
    let starts = under c.args.listed.now c.args.key.now in
    let met : bytes_in c.meet_under.new.seen.keys ≡ insert_all bytes_eq [] starts =
    c.in_ok-meet_under.ensures ∙ ap (λ before. insert_all bytes_eq before starts) c.requires in
    subst (λ names. IsMetBack led starts names 0) (sym met) (met-first led starts)

pub loop-next-preserved : goal.loop-next-preserved
loop-next-preserved c =
    let led = under c.args.named.now in
    let starts = under c.args.listed.now c.args.key.now in
    let met = bytes_in c.loop-next.seen.keys in
    let name = get_or met c.loop-next.next [] in
    let within : c.loop-next.next < length c.loop-next.seen.keys = omega (arith, c.len.ensures.len, c.loop-next-test.true) in
    let there : c.loop-next.next < length met = omega (arith, within, length-map c.loop-next.seen.keys bytes) in
    let new : bytes_in c.meet_under-in-loop-next.new.seen.keys ≡ insert_all bytes_eq met (led name) =
    c.in_ok-meet_under-2.ensures ∙ ap (λ name. insert_all bytes_eq met (led name))
    (name-at c.loop-next.seen.keys c.as_slice.result.now c.loop-next.next _ c.as_slice.ensures.keys within) in
    subst (λ names. IsMetBack led starts names (c.loop-next.next + 1)) (sym new)
    (met-next led starts met c.loop-next.next name c.loop-next.invariant there refl)

pub returns : goal.returns
returns c = λ name.
    let over : length (bytes_in c.loop-next.seen.keys) ≤ c.loop-next.next =
    omega (arith, c.len.ensures.len, c.loop-next-test.false, length-map c.loop-next.seen.keys bytes) in (
      c.loop-next.invariant.reached name,
      met-whole (under c.args.named.now) (under c.args.listed.now c.args.key.now) (bytes_in c.loop-next.seen.keys) c.loop-next.next over
          c.loop-next.invariant name,
    )
