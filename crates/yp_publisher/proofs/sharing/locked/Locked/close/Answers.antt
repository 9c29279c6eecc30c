use Rattle.std.proofs.Common.{ℕ, ◌≤◌, ap, subst, arith}
use Rattle.yp_publisher.specs.Keeping.{keeping_of}
use Rattle.yp_publisher.specs.inside.sharing.Debits.{Debit}
use Rattle.yp_publisher.proofs.sharing.Failing.{covers_fewer}
use Rattle.yp_publisher.proofs.sharing.Leading.{rises}
use Rattle.yp_publisher.proofs.sharing.Sourcing.{sourced_at_last}
use Rattle.yp_publisher.proofs.sharing.Tracing.{traced_at_last}
use Rattle.yp_publisher.proofs.sharing.locked.Locked.close.Goals as goal

pub returns-clause-covered : goal.returns-clause-covered
returns-clause-covered g c =
    let is = ap (λ (d : Debit). d.failures) c.charge.view_is in
    covers_fewer g.D.Disk.history g.D.Disk.faults g.S.Accounts.disk_faults c.args.charge.now.failures
    c.self.inside.failures.total c.self.inside.publisher.maps
    (subst (λ (n : ℕ). n ≤ c.self.inside.failures.total) is c.audit.ensures.bound) c.self.invariant.1

pub returns-clause-rises : goal.returns-clause-rises
returns-clause-rises g c =
    rises c.log_rises.ensures (keeping_of g.D.Disk.history g.D.Disk.faults g.B.Show.log) g.S.Accounts.first
    c.self.inside.publisher c.self.invariant.2

pub returns-clause-sourced : goal.returns-clause-sourced
returns-clause-sourced g c =
    let is = ap (λ (d : Debit). d.made) c.charge.view_is in
    let bound = subst (λ (n : ℕ). n ≤ c.self.inside.made.total) is c.audit-2.ensures.bound in
    λ made le. sourced_at_last (keeping_of g.D.Disk.history g.D.Disk.faults g.B.Show.log) g.S.Accounts.built
    g.S.Accounts.first c.self.inside.publisher c.self.inside.made.total made c.self.inside.versions.amount
    (omega (arith, le, bound)) c.self.invariant.3

pub returns-clause-traced : goal.returns-clause-traced
returns-clause-traced g c =
    traced_at_last (keeping_of g.D.Disk.history g.D.Disk.faults g.B.Show.log) g.S.Accounts.built c.self.inside.fetches
    g.S.Accounts.first g.S.Accounts.histories c.self.inside.publisher c.self.invariant.4
