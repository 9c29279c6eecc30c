use Rattle.std.proofs.Common.{inr, Err, ap, subst, rules}
use Rattle.std.proofs.lemmas.Result.{err_from_is_err_and}
use Rattle.yp_version.specs.Versions.{MapVersion}
use Rattle.yp_publisher.specs.Installs.{offer, IsInstalled, IsUnsure, IsUnshown, LeavesEither, Refuses}
use Rattle.yp_publisher.specs.Keeping.{keeping_of}
use Rattle.yp_publisher.specs.Rising.{Stores, publisher_state}
use Rattle.yp_publisher.specs.Standing.{At}
use Rattle.yp_publisher.proofs.Changing.{leaves_late, no_cause_late}
use Rattle.yp_publisher.proofs.Refusals.{newer_shown}
use Rattle.yp_publisher.proofs.publisher.Publisher.install.Goals as goal

pub returns-in_err-generation-clause-refused : goal.returns-in_err-generation-clause-refused
returns-in_err-generation-clause-refused g c =
    let p = err_from_is_err_and c.from_residual-in_err-generation.result c.from_residual-in_err-generation.ensures.1 in
    let K = keeping_of g.D.Disk.history g.D.Disk.faults g.B.Show.log in
    let o = offer c.args.version c.args.origin c.args.force in
    let n = c.args.map in
    let old = c.args.self.now in
    let new = c.store.new.self in
    let why = c.in_err-generation.field-0.0 in
    let none = c.in_ok-check.ensures.unopposed in
    let same = c.in_ok-spelled.ensures.stored in
    let left = c.in_err-generation.ensures in
    let refused : Refuses K n o why old new = record {
      upheld = c.store.ensures.upheld;
      cause = no_cause_late n o why old left.fault none;
      left = leaves_late K n o why old new left.fault none (λ e. left.cause (ap Err e))
          (λ e. subst (λ (v : MapVersion). At n old.maps new.maps (IsUnsure v)) same (left.disk_fault (ap Err e)))
          (λ e. subst (λ (v : MapVersion). At n old.maps new.maps (IsUnshown v)) same (left.no_memory (ap Err e)))
          left.not_shown;
      meanwhile = subst (λ (v : MapVersion). At n old.maps new.maps (LeavesEither K.history v))
          same c.store.ensures.any_moment;
      rising = λ free. inr (
        newer_shown old.catalogue.own o old.maps n (K.log old.board) none c.in_ok-check.ensures.upheld.shows free,
        subst (λ (v : MapVersion). Stores n v (publisher_state K.log old) (publisher_state K.log new)) same c.store.ensures.stores,
      );
    } in
    rw (p.1, p.2) refused

pub returns-clause-installed : goal.returns-clause-installed
returns-clause-installed g c =
    let K = keeping_of g.D.Disk.history g.D.Disk.faults g.B.Show.log in
    let o = offer c.args.version c.args.origin c.args.force in
    let n = c.args.map in
    let old = c.args.self.now in
    let new = c.store.new.self in
    let none = c.in_ok-check.ensures.unopposed in
    let same = c.in_ok-spelled.ensures.stored in
    record {
      upheld = c.store.ensures.upheld;
      unopposed = none;
      installed = subst (λ (v : MapVersion). At n old.maps new.maps (IsInstalled v))
          same c.in_ok-generation.ensures.installed;
      log = search rules;
      meanwhile = subst (λ (v : MapVersion). At n old.maps new.maps (LeavesEither K.history v))
          same c.store.ensures.any_moment;
      rising = λ free. inr (
        newer_shown old.catalogue.own o old.maps n (K.log old.board) none c.in_ok-check.ensures.upheld.shows free,
        subst (λ (v : MapVersion). Stores n v (publisher_state K.log old) (publisher_state K.log new)) same c.store.ensures.stores,
      );
    }
