use Rattle.std.proofs.Common.{◌≡◌, true, None, is_some, length, ap, ◌∙◌, sym, arith, rules}
use Rattle.yp_version.specs.Drafts.{Draft}
use Rattle.yp_version.specs.Rows.{value_of}
use Rattle.yp_version.specs.inside.Tables.{has_key}
use Rattle.yp_version.proofs.Chains.{all_fail}
use Rattle.yp_version.proofs.Search.{holds_by, found_some}
use Rattle.yp_version.proofs.builder.VersionBuilder.holds.Goals as goal

pub returns-in_default : goal.returns-in_default
returns-in_default c =
    holds_by c.args.key.now c.self.inside.slab.rows 0 c.holds_from.result (λ j low. absurd (omega (arith, low))) c.holds_from.ensures.yes c.holds_from.ensures.no
    ∙ ap (λ (d : Draft). is_some (value_of c.args.key.now d.rows)) c.self.view_is

pub returns-then-is_some : goal.returns-then-is_some
returns-then-is_some c =
    let found : is_some c.find.result ≡ true = search rules in
    sym (found_some c.args.key.now c.self.inside.slab.rows (length c.in-Some.table.before.items) c.find.result c.find.ensures found)
    ∙ ap (λ (d : Draft). is_some (value_of c.args.key.now d.rows)) c.self.view_is

pub returns : goal.returns
returns c =
    let none : c.find.result ≡ None = search rules in
    let first : c.len.result ≡ length c.in-Some.table.before.items = c.len.ensures in
    holds_by c.args.key.now c.self.inside.slab.rows c.len.result c.holds_from-2.result
    (λ j low. all_fail (has_key c.args.key.now c.self.inside.slab.rows) (length c.in-Some.table.before.items) (sym c.find.ensures ∙ none) j (omega (arith, low, first)))
    c.holds_from-2.ensures.yes c.holds_from-2.ensures.no
    ∙ ap (λ (d : Draft). is_some (value_of c.args.key.now d.rows)) c.self.view_is
