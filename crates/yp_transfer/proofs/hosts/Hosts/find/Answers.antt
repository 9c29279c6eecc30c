use Rattle.std.proofs.Common.{◌∙◌, sym, ap, refl, List, map, arith}
use Rattle.yp_transfer.specs.declared.hosts.Host.{Host}
use Rattle.yp_transfer.specs.HostTable.{host_view, find}
use Rattle.yp_transfer.proofs.Finding.{is_found, is_not_found, found_at_start, found_at_end, same_test}
use Rattle.yp_transfer.proofs.hosts.Hosts.find.Goals as goal

pub loop-host-init : goal.loop-host-init
loop-host-init c = refl

pub loop-host-preserved : goal.loop-host-preserved
loop-host-preserved c =
    sym (is_not_found c.args.name.now c.deref-host-items.result.now c.loop-host.host-index c.host-item.result
    (omega (arith, c.loop-host-test.true)) c.host-item.is
    (same_test c.args.name.now _ _ _ c.as_slice.ensures.value (sym c.eq.ensures ∙ c.if-eq.false)))
    ∙ c.loop-host.invariant

pub returns-then-eq : goal.returns-then-eq
returns-then-eq c =
    sym (is_found c.args.name.now c.deref-host-items.result.now c.loop-host.host-index c.host-item.result
    (omega (arith, c.loop-host-test.true)) c.host-item.is
    (same_test c.args.name.now _ _ _ c.as_slice.ensures.value (sym c.eq.ensures ∙ c.if-eq.true)))
    ∙ c.loop-host.invariant
    ∙ found_at_start c.args.name.now c.deref-host-items.result.now
    ∙ ap (λ (hosts : List Host). find c.args.name.now (map host_view hosts)) c.deref-host-items.ensures.value
    ∙ ap (find c.args.name.now) c.self.view_is

pub returns : goal.returns
returns c =
    sym (found_at_end c.args.name.now c.deref-host-items.result.now c.loop-host.host-index (omega (arith, c.loop-host-test.false)))
    ∙ c.loop-host.invariant
    ∙ found_at_start c.args.name.now c.deref-host-items.result.now
    ∙ ap (λ (hosts : List Host). find c.args.name.now (map host_view hosts)) c.deref-host-items.ensures.value
    ∙ ap (find c.args.name.now) c.self.view_is
