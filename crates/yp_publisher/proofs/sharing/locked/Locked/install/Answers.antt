use Rattle.std.proofs.Common.{◌<◌, length, ◌∙◌, ap}
use Rattle.yp_board.specs.Catalogues.{Catalogue}
use Rattle.yp_publisher.specs.Keeping.{keeping_of}
use Rattle.yp_publisher.proofs.sharing.Failing.{covers_after}
use Rattle.yp_publisher.proofs.sharing.Leading.{led_after}
use Rattle.yp_publisher.proofs.sharing.Sourcing.{sourced_after}
use Rattle.yp_publisher.proofs.sharing.Tracing.{traced_after}
use Rattle.yp_publisher.proofs.sharing.locked.Locked.install.Goals as goal

pub invariant_of-self : goal.invariant_of-self
invariant_of-self g c =
    let step = c.open_and_offer-installed in
    let maps = c.catalog-catalog.ensures.maps in
    let within : c.args.offer.map < length c.self.inside.publisher.maps =
    rw (maps, c.self.invariant.0) c.requires.map in (
      step.ensures.catalogue ∙ c.self.invariant.0,
      rw (c.add.ensures.total, c.failures_of.ensures) (covers_after
          (keeping_of g.D.Disk.history g.D.Disk.faults g.B.Show.log) c.args.offer.map g.S.Accounts.disk_faults
          c.self.inside.failures.total c.args.offer.version c.args.offer.origin c.self.inside.publisher
          step.new.publisher step.result within step.ensures.installed step.ensures.refused c.self.invariant.1),
      led_after (keeping_of g.D.Disk.history g.D.Disk.faults g.B.Show.log) g.S.Accounts.first c.args.offer.map
          c.args.offer.version c.args.offer.origin c.self.inside.publisher step.new.publisher step.result within
          step.ensures.installed step.ensures.refused c.self.invariant.2,
      rw (c.add-2.ensures.total, c.made_by.ensures, c.transfer.ensures.amount_given, c.fetched_in.ensures) (sourced_after
          (keeping_of g.D.Disk.history g.D.Disk.faults g.B.Show.log) g.S.Accounts.built g.S.Accounts.first
          c.args.offer.map c.args.offer.version c.args.offer.origin g.S.Site.catalogue.own c.self.inside.made.total
          c.self.inside.versions.amount c.self.inside.publisher step.new.publisher step.result within
          (ap (λ (served : Catalogue). served.own) c.self.invariant.0) (rw c.self.view_is c.requires.built) step.ensures.installed
          step.ensures.refused c.self.invariant.3),
      traced_after (keeping_of g.D.Disk.history g.D.Disk.faults g.B.Show.log) g.S.Accounts.built c.self.inside.fetches
          c.with_known.result g.S.Accounts.first g.S.Accounts.histories c.args.offer.map c.args.offer.version
          c.args.offer.origin g.S.Site.catalogue.own c.args.offer.known c.self.inside.publisher step.new.publisher
          step.result within
          c.catalog-catalog.ensures.shown c.catalog-catalog.ensures.standing
          (ap (λ (served : Catalogue). served.own) c.self.invariant.0)
          (rw c.self.view_is c.requires.built) c.requires.known c.with_known.ensures.this c.with_known.ensures.that
          step.ensures.installed step.ensures.refused c.self.invariant.4,
      rw c.transfer.ensures.parts_given c.self.invariant.5,
    )
