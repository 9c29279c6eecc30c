use Rattle.std.proofs.Common.{◌<◌, List, length, Option, sym, ap, ◌∙◌, arith}
use Rattle.std.specs.List.{slice_get}
use Rattle.yp_io.specs.declared.stream.Peer.{Peer}
use Rattle.yp_binding.specs.Rounds.{Bindings, targets, targets_of, round_begin}
use Rattle.yp_binding.specs.inside.Kept.{bindings_of}
use Rattle.yp_binding.proofs.Keeping.{asked_at}
use Rattle.yp_binding.proofs.Pings.{targets_all, target_front, target_behind}
use Rattle.yp_binding.proofs.binder.Binder.target.Goals as goal

pub loop-domain-init : goal.loop-domain-init
loop-domain-init c =
    targets_all (bindings_of c.self.inside) (length c.self.inside.standings.items) c.args.place c.self.invariant.count

pub returns-then-left-count-clause-target : goal.returns-then-left-count-clause-target
returns-then-left-count-clause-target c =
    let servers = c.self.inside.servers.items in
    let standings = c.self.inside.standings.items in
    let begin = round_begin c.self.inside.history in
    let domain = c.loop-domain.domain in
    let left = c.loop-domain.left in
    let lt : domain < length standings = omega (arith, c.loop-domain-test.true) in
    let asked = asked_at (bindings_of c.self.inside) standings _ _ _ domain c.index.result.now c.self.invariant lt
    c.index.ensures in
    let count = c.target_count-count.ensures domain
    ∙ ap (λ (xs : List Peer). length (targets_of xs domain c.index.result.now.asked)) c.deref.ensures.value
    ∙ ap (λ (o : Option Peer). length (targets_of servers domain o)) asked in
    let there = sym (c.target_server.ensures domain)
    ∙ ap (λ (xs : List Peer). slice_get (targets_of xs domain c.index.result.now.asked) left)
    c.deref-then-left-count.ensures.value
    ∙ ap (λ (o : Option Peer). slice_get (targets_of servers domain o) left) asked in
    there
    ∙ sym (target_front servers begin domain (length standings) left lt (omega (arith, count, c.if-left-count.true)))
    ∙ sym c.loop-domain.invariant
    ∙ ap (λ (bindings : Bindings). slice_get (targets bindings) c.args.place) c.self.view_is

pub loop-domain-preserved : goal.loop-domain-preserved
loop-domain-preserved c =
    let servers = c.self.inside.servers.items in
    let standings = c.self.inside.standings.items in
    let begin = round_begin c.self.inside.history in
    let domain = c.loop-domain.domain in
    let left = c.loop-domain.left in
    let lt : domain < length standings = omega (arith, c.loop-domain-test.true) in
    let asked = asked_at (bindings_of c.self.inside) standings _ _ _ domain c.index.result.now c.self.invariant lt
    c.index.ensures in
    let count = c.target_count-count.ensures domain
    ∙ ap (λ (xs : List Peer). length (targets_of xs domain c.index.result.now.asked)) c.deref.ensures.value
    ∙ ap (λ (o : Option Peer). length (targets_of servers domain o)) asked in
    rw count
    (c.loop-domain.invariant
    ∙ target_behind servers begin domain (length standings) left lt (omega (arith, count, c.if-left-count.false)))
