use Rattle.std.proofs.Common.{false, subst}
use Rattle.yp_io.specs.Dials.{dialing_of}
use Rattle.yp_transfer.specs.inside.Dials.{dial_by}
use Rattle.yp_board.specs.Catalogues.{name_view}
use Rattle.yp_transfer.specs.HostTable.{HostList}
use Rattle.yp_transfer.specs.Fetching.{wanted_of}
use Rattle.yp_transfer.specs.Dialing.{FetchesFrom}
use Rattle.yp_host.specs.inside.workers.Uses.{dial_told}
use Rattle.yp_host.proofs.workers.Using.{used_fetch}
use Rattle.yp_host.proofs.workers.Reaching.{fetched_orders}
use Rattle.yp_host.proofs.workers.Sourcing.{fetched_sources, fetched_versions}
use Rattle.yp_host.proofs.workers.Noting.{all_noted}
use Rattle.yp_host.proofs.workers.Aging.{fetched_aged}
use Rattle.yp_host.proofs.workers.dial.SharedDial.fetch.Goals as goal

pub invariant_of-self : goal.invariant_of-self
invariant_of-self g c =
    let task = c.args.task.now in
    let dialing = dialing_of g.A.Dial.past g.A.Dial.faults in
    let tells = dial_by g.A.Dial in
    let wanted = wanted_of c.deref.result.now c.deref-2.result.now task.shown false in
    let fetched = c.fetch_from-fetched.result in
    let old = dialing c.self.inside.dialer.dial in
    let new = dialing c.fetch_from-fetched.new.dial in
    let fetches = c.fetch_from-fetched.ensures.fetches in (
      c.self.invariant.0,
      rw (c.add.ensures.total, c.orders_in.ensures) (fetched_orders g.S.Supplies.wires c.self.inside.orders.total
          wanted fetched old new c.self.invariant.1 c.self.inside.dialer.hosts task.source.now fetches),
      rw (c.add-2.ensures.total, c.sources_in.ensures) (fetched_sources c.fetched_is_one.ensures g.S.Supplies.wires
          g.S.Supplies.dial_faults c.self.inside.sources.total wanted fetched old new c.self.invariant.2
          c.self.inside.dialer.hosts task.source.now (rw c.deref.ensures.value c.requires.domain.0)
          (rw c.deref-2.ensures.value c.requires.map.0) c.requires.named c.in_ok-find.field-0 c.in_ok-find.ensures
          fetches),
      rw c.charge_version.ensures.total (fetched_versions g.S.Supplies.wires c.self.inside.versions.total wanted
          fetched old new c.self.invariant.3 c.self.inside.dialer.hosts task.source.now fetches),
      all_noted g.S.Supplies.wires wanted old new c.self.inside.dialer.hosts task.source.now
          c.self.inside.versions.total fetched c.self.inside.fetches c.note.new.fetches fetches
          c.self.invariant.3 c.self.invariant.4 c.note.ensures.added c.note.ensures.same,
      used_fetch g.S.Supplies.hosts g.S.Site.catalogue.maps task.source.now (name_view task.name.now) task.shown
          fetched c.self.inside.call_backs.took
          (dial_told g.S.Supplies.wires g.S.Supplies.letters g.S.Supplies.dial_faults)
          (tells c.self.inside.dialer.dial) (tells c.fetch_from-fetched.new.dial) c.self.invariant.5 (
            c.requires.served,
            subst (λ (h : HostList). FetchesFrom h task.source.now
                (wanted_of task.name.now.domain.items task.name.now.map.items task.shown false) fetched old new)
                c.self.invariant.0
                (rw (← c.deref.ensures.value, ← c.deref-2.ensures.value) fetches),
            c.fetch_from-fetched.ensures.letters,
          ),
      c.self.invariant.6,
      c.self.invariant.7,
      c.self.invariant.8,
    )

pub returns-clause-aged : goal.returns-clause-aged
returns-clause-aged g c =
    let task = c.args.task.now in
    fetched_aged c.deref.result.now c.deref-2.result.now task.shown c.fetch_from-fetched.result _ _
    c.self.inside.dialer.hosts task.source.now c.fetch_from-fetched.ensures.fetches
