use Rattle.std.proofs.Common.{◌≡◌, Some, ap, sym, ◌∙◌, subst, rules}
use Rattle.std.proofs.lemmas.Result.{err_from_is_err_and}
use Rattle.yp_publisher.specs.Standing.{StoredMap, Level}
use Rattle.yp_publisher.specs.Installs.{IsInstallCause, offer}
use Rattle.yp_publisher.proofs.Refusals.{none_level, refusal_from}
use Rattle.yp_publisher.proofs.stored.StoredMap.refuse.Goals as goal

pub returns-in_err-refuse_after-clause-refused : goal.returns-in_err-refuse_after-clause-refused
returns-in_err-refuse_after-clause-refused g c =
    let p = err_from_is_err_and c.from_residual.result c.from_residual.ensures.1 in
    let level : c.args.self.now.standing ≡ Level = sym (ap (λ (k : StoredMap g.row.D.Denot). k.standing) c.self.view_is)
    ∙ none_level c.self.inside.failed (search rules) in
    let shown : c.args.self.now.version ≡ Some c.deref.result.now = search rules in
    let o = offer c.args.version.now c.args.origin c.args.force in
    let e = refusal_from c.args.own.now o c.args.self.now c.deref.result.now level shown
    c.in_err-refuse_after.ensures.cause in
    rw (p.1, p.2) (subst (IsInstallCause c.in_err-refuse_after.field-0.0) (sym e) c.in_err-refuse_after.ensures.refused)
