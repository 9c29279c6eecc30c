use Rattle.std.proofs.Common.{ℕ, ◌+◌, ◌-◌, ◌%◌, ◌^◌, sym, ap, ◌∙◌}
use Rattle.std.specs.Prelude.{option_map}
use Rattle.std.specs.List.{slice_get}
use Rattle.yp_binding.specs.Rounds.{Bindings, targets, ping_with, target_of}
use Rattle.yp_binding.specs.inside.Kept.{bindings_of}
use Rattle.yp_binding.proofs.Pings.{pinged_out, pinged_not}
use Rattle.yp_binding.proofs.binder.Binder.pinged_with.Goals as goal

abbrev place_from : ℕ → ℕ → ℕ
place_from xid first = (xid + (2 ^ 32 - first)) % 2 ^ 32

pub returns-then-place-self-clause-ping : goal.returns-then-place-self-clause-ping
returns-then-place-self-clause-ping c =
    let kept = c.self.invariant in
    let xid = c.args.xid in
    let place = place_from xid c.self.inside.first_xid in
    c.target.ensures.target
    ∙ ap (λ (bindings : Bindings). slice_get (targets bindings) place) (sym c.self.view_is)
    ∙ pinged_out (bindings_of c.self.inside) xid place c.self.inside.pinged c.ranges.xid.fits kept.are_out kept.within
    (ap (place_from xid) kept.first) c.if-place-self.true
    ∙ ap (λ (bindings : Bindings). option_map target_of (ping_with bindings xid)) c.self.view_is

pub returns-else-place-self-clause-ping : goal.returns-else-place-self-clause-ping
returns-else-place-self-clause-ping c =
    let kept = c.self.invariant in
    let xid = c.args.xid in
    let place = place_from xid c.self.inside.first_xid in
    pinged_not (bindings_of c.self.inside) xid place c.self.inside.pinged c.ranges.xid.fits kept.are_out kept.within
    (ap (place_from xid) kept.first) c.if-place-self.false
    ∙ ap (λ (bindings : Bindings). option_map target_of (ping_with bindings xid)) c.self.view_is
