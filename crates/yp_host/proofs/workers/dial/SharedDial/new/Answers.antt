use Rattle.std.proofs.Common.{ap}
use Rattle.yp_host.specs.workers.Wires.{BeginsWithOrder, IsGood}
use Rattle.yp_host.proofs.workers.Dialing.{covers_none}
use Rattle.yp_host.proofs.workers.Sourcing.{sources_none}
use Rattle.yp_host.proofs.workers.Noting.{all_none}
use Rattle.yp_host.specs.inside.workers.CallBacks.{HeldCallBacks}
use Rattle.yp_host.specs.inside.workers.Uses.{dial_told}
use Rattle.yp_host.proofs.workers.Using.{unused}
use Rattle.yp_host.proofs.workers.dial.SharedDial.new.Goals as goal

pub invariant_of-result : goal.invariant_of-result
invariant_of-result g c = (
  c.requires.hosts,
  rw (c.requires.none.0, c.requires.before.0) (covers_none BeginsWithOrder g.S.Supplies.wires),
  rw (c.requires.none.1, c.requires.before.0, c.requires.before.1) (sources_none g.S.Supplies.wires g.S.Supplies.dial_faults),
  rw (c.requires.none.2, c.requires.before.0) (covers_none IsGood g.S.Supplies.wires),
  rw (c.requires.none.3, c.requires.before.0) (all_none g.S.Supplies.wires),
  rw (ap (λ (h : HeldCallBacks). h.took) c.requires.call_backs.0, c.requires.before.0, c.requires.before.1, c.requires.before.2)
      (unused g.S.Supplies.hosts g.S.Site.catalogue.maps
      (dial_told g.S.Supplies.wires g.S.Supplies.letters g.S.Supplies.dial_faults)),
  ap (λ (h : HeldCallBacks). h.queue) c.requires.call_backs.0,
  ap (λ (h : HeldCallBacks). h.left) c.requires.call_backs.0,
  c.requires.call_backs.1,
)
