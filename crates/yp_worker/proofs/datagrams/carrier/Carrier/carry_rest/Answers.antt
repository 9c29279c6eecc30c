use Rattle.yp_answer.specs.session.Hosts.{conduct_of}
use Rattle.yp_rpc.specs.inside.Turns.{box_by}
use Rattle.yp_worker.proofs.datagrams.Carrying.{none_on, on_then, rest_of}
use Rattle.yp_worker.proofs.datagrams.carrier.Carrier.carry_rest.Goals as goal

pub loop-init : goal.loop-init
loop-init g c =
    let conduct = conduct_of g.H.View.seen g.H.Host.told g.H.Host.counts g.H.View.stepped g.H.Host.made g.H.Host.carried in
    record { next = tt; finite = tt; carries = none_on conduct g.H.CatchUp.counted (box_by g.I.Inbox) g.I.Inbox.faults c.args.self.now }

pub loop-preserved : goal.loop-preserved
loop-preserved g c =
    let conduct = conduct_of g.H.View.seen g.H.Host.told g.H.Host.counts g.H.View.stepped g.H.Host.made g.H.Host.carried in
    record {
      next = tt;
      finite = tt;
      carries = on_then conduct g.H.CatchUp.counted (box_by g.I.Inbox) g.I.Inbox.faults c.args.self.now c.loop.self c.carry_oldest.new.self
          c.loop.invariant.carries c.carry_oldest.ensures.carries;
    }

pub returns-then-not-carry_oldest : goal.returns-then-not-carry_oldest
returns-then-not-carry_oldest g c =
    let conduct = conduct_of g.H.View.seen g.H.Host.told g.H.Host.counts g.H.View.stepped g.H.Host.made g.H.Host.carried in
    rest_of conduct g.H.CatchUp.counted (box_by g.I.Inbox) g.I.Inbox.faults c.args.self.now c.loop.self c.carry_oldest.new.self
    c.loop.invariant.carries c.carry_oldest.ensures.carries (c.carry_oldest.ensures.all c.if-not-carry_oldest.true)
