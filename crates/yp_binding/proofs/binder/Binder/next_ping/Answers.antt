use Rattle.std.proofs.Common.{ℕ, ◌+◌, Some, Option, sym, ap, ◌∙◌, arith}
use Rattle.std.specs.Prelude.{option_map}
use Rattle.std.specs.List.{slice_get}
use Rattle.yp_binding.specs.declared.binder.Ping.{Ping}
use Rattle.yp_binding.specs.declared.event.Binding.{Binding}
use Rattle.yp_binding.specs.Rounds.{Bindings, targets, first_number, ping_at, next_ping_of}
use Rattle.yp_binding.specs.inside.Kept.{bindings_of}
use Rattle.yp_binding.proofs.Pings.{next_by, targets_bound}
use Rattle.yp_binding.proofs.Keeping.{pings, fewer}
use Rattle.yp_binding.proofs.binder.Binder.next_ping.Goals as goal

pub returns-in_default-clause-ping : goal.returns-in_default-clause-ping
returns-in_default-clause-ping c =
    let pinged = c.self.inside.pinged in
    let number = first_number c.self.inside.history in
    let none = c.in_default.ensures.target
    ∙ ap (λ (bindings : Bindings). slice_get (targets bindings) pinged) (sym c.self.view_is) in
    ap (λ (o : Option Binding). option_map (ping_at (number + pinged)) o) none
    ∙ sym (next_by (bindings_of c.self.inside) pinged c.self.invariant.are_out) ∙ ap next_ping_of c.self.view_is

pub overflow_add-self : goal.overflow_add-self
overflow_add-self c =
    let kept = c.self.invariant in
    let few = targets_bound (bindings_of c.self.inside) kept.few_servers kept.few in
    omega (arith, few, kept.within)

pub invariant_of-self : goal.invariant_of-self
invariant_of-self c =
    let pinged = c.self.inside.pinged in
    let there = c.in-Some.ensures.target
    ∙ ap (λ (bindings : Bindings). slice_get (targets bindings) pinged) (sym c.self.view_is) in
    rw c.add.ensures (pings (bindings_of c.self.inside) _ _ _ _ c.in-Some.target c.self.invariant there)

pub returns-clause-ping : goal.returns-clause-ping
returns-clause-ping c =
    let pinged = c.self.inside.pinged in
    let number = first_number c.self.inside.history in
    let to = c.in-Some.target in
    let there = c.in-Some.ensures.target
    ∙ ap (λ (bindings : Bindings). slice_get (targets bindings) pinged) (sym c.self.view_is) in
    let P : ℕ → Option Ping = λ xid. Some (record { xid = xid; server = to.server; domain = to.domain }) in
    ap P c.self.invariant.next
    ∙ ap (λ (o : Option Binding). option_map (ping_at (number + pinged)) o) there
    ∙ sym (next_by (bindings_of c.self.inside) pinged c.self.invariant.are_out) ∙ ap next_ping_of c.self.view_is

pub returns-clause-fewer : goal.returns-clause-fewer
returns-clause-fewer c =
    let pinged = c.self.inside.pinged in
    let there = c.in-Some.ensures.target
    ∙ ap (λ (bindings : Bindings). slice_get (targets bindings) pinged) (sym c.self.view_is) in
    rw (c.add.ensures, ← c.self.view_is)
    (fewer (bindings_of c.self.inside) _ _ _ _ c.in-Some.target c.self.invariant there)
