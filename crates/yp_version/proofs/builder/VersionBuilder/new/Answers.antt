use Rattle.std.proofs.Common.{◌≡◌, ◌+◌, ◌≤◌, List, ℕ, length, ap, ◌∙◌, sym, subst, arith, rules}
use Rattle.yp_version.specs.Limits.{master_max}
use Rattle.yp_version.specs.Rows.{padded}
use Rattle.yp_version.specs.inside.Slabs.{Packed}
use Rattle.yp_version.proofs.Drafted.{new_kept, padded_within}
use Rattle.yp_version.proofs.Lengths.{length_front}
use Rattle.yp_version.proofs.builder.VersionBuilder.new.Goals as goal

pub new-requires-2 : goal.new-requires-2
new-requires-2 g c =
    let head = ap length c.in_ok-head.ensures in
    let len = length_front 1 c.number-order.result c.args.master.now 0 in
    let few = padded_within (length c.args.master.now) in
    let short = c.requires in
    omega arith

pub invariant_of-result : goal.invariant_of-result
invariant_of-result g c =
    let items : c.in_ok-master.master.items ≡ c.args.master.now = search rules in
    new_kept _ c.number-order.ensures.range (subst (λ (bytes : List ℕ). length bytes ≤ master_max) (sym items) c.requires)
    (ap (λ (p : Packed). p.rows) c.in_ok-slab.ensures)
    (ap (λ (p : Packed). length p.head) c.in_ok-slab.ensures ∙ ap length c.in_ok-head.ensures ∙ length_front 1 c.number-order.result c.args.master.now 0
    ∙ ap (λ bytes. 16 + padded (length bytes)) (sym items)) tt
