use Rattle.std.proofs.Common.{◌++◌, List, map, sym, ap, ◌∙◌}
use Rattle.yp_push.specs.inside.turns.Kept.{slave_view}
use Rattle.yp_push.specs.turns.Pushers.{Slave}
use Rattle.yp_push.proofs.turns.Listing.{passes_own, one_more}
use Rattle.yp_push.proofs.turns.slaves.slaves_of.Goals as goal

pub loop-i-preserved-then-eq : goal.loop-i-preserved-then-eq
loop-i-preserved-then-eq c =
    let own = c.args.own.now in
    let hosts = c.args.hosts.now in
    ap (λ (l : List Slave). map slave_view c.loop-i.slaves.items ++ l)
    (sym (passes_own own hosts c.args.servers.now.rows c.loop-i.i _ c.in-Some.ensures.row
    (sym c.eq.ensures ∙ c.if-eq.true)))
    ∙ c.loop-i.invariant

pub loop-i-preserved : goal.loop-i-preserved
loop-i-preserved c =
    one_more c.args.own.now c.args.hosts.now c.args.servers.now.rows c.loop-i.i _
    (map slave_view c.loop-i.slaves.items) (map slave_view c.add_slave.new.slaves.items) c.in-Some.ensures.row
    (sym c.eq.ensures ∙ c.if-eq.false) c.in-Ok.ensures
    ∙ c.loop-i.invariant
