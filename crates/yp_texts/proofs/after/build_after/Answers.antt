use Rattle.std.proofs.Common.{◌≡◌, option_map, rules, subst, sym}
use Rattle.yp_texts.specs.After.{secured, HasLaterOrder}
use Rattle.yp_texts.proofs.Orders.{built_over}
use Rattle.yp_texts.proofs.after.build_after.Goals as goal

pub returns-clause-over : goal.returns-clause-over
returns-clause-over g c =
    let last = option_map (λ version. version.now) c.args.last in
    let is : c.marked.result ≡ secured c.args.flag last c.in_ok-version.version = search rules in
    subst (HasLaterOrder last) (sym is) (built_over c.args.source.reading c.args.source.text.items last c.args.maker.now.moment c.args.maker.now.name.now c.args.flag
    c.in_ok-version.version (search rules))
