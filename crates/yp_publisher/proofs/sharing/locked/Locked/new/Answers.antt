use Rattle.yp_publisher.specs.Keeping.{keeping_of}
use Rattle.yp_publisher.proofs.sharing.Failing.{covers_none}
use Rattle.yp_publisher.proofs.sharing.Leading.{led_at_first}
use Rattle.yp_publisher.proofs.sharing.Sourcing.{sourced_at_first}
use Rattle.yp_publisher.proofs.sharing.Tracing.{traced_at_first}
use Rattle.yp_publisher.proofs.sharing.locked.Locked.new.Goals as goal

pub invariant_of-result : goal.invariant_of-result
invariant_of-result g c = (
  c.requires.site,
  rw c.requires.none.0 (covers_none g.D.Disk.history g.D.Disk.faults g.S.Accounts.disk_faults c.args.publisher.maps
      c.requires.before),
  led_at_first (keeping_of g.D.Disk.history g.D.Disk.faults g.B.Show.log) g.S.Accounts.first c.args.publisher
      c.requires.first,
  sourced_at_first (keeping_of g.D.Disk.history g.D.Disk.faults g.B.Show.log) g.S.Accounts.built g.S.Accounts.first
      c.args.publisher c.args.made.total c.args.versions.amount c.requires.first c.requires.none.1,
  traced_at_first (keeping_of g.D.Disk.history g.D.Disk.faults g.B.Show.log) g.S.Accounts.built c.args.fetches
      g.S.Accounts.first g.S.Accounts.histories c.args.publisher c.catalog-catalog.ensures.shown c.catalog-catalog.ensures.standing
      c.requires.first c.requires.histories,
  c.requires.part,
)
