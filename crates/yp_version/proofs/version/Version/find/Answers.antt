use Rattle.std.proofs.Common.{subst, ap, ◌∙◌, MatchOption, arith}
use Rattle.yp_version.specs.inside.Places.{StandsAt, IsAbsent}
use Rattle.yp_version.specs.Tables.{last_below}
use Rattle.yp_version.specs.inside.Tables.{has_key}
use Rattle.yp_version.specs.Versions.{MapVersion}
use Rattle.yp_version.proofs.Search.{found_at}
use Rattle.yp_version.proofs.version.Version.find.Goals as goal

pub returns-else-buckets-eq0-clause-found : goal.returns-else-buckets-eq0-clause-found
returns-else-buckets-eq0-clause-found c =
    let rows = c.self.inside.slab.rows in
    let kept = c.self.invariant.table (omega (arith, c.buckets.ensures, c.if-buckets-eq0.false)) in
    subst (λ (version : MapVersion). MatchOption c.find-else-buckets-eq0.result (IsAbsent c.args.key.now version.rows) (StandsAt c.args.key.now version.rows)) c.self.view_is
    (found_at rows c.args.key.now c.find-else-buckets-eq0.result c.self.invariant.version.rising (c.find-else-buckets-eq0.ensures ∙ ap (last_below (has_key c.args.key.now rows)) kept.1))
