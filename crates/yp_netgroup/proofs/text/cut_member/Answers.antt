use Rattle.std.proofs.Common.{◌≡◌, ◌-◌, length, take, drop, sym, ap, ◌∙◌, arith, length-drop}
use Rattle.std.proofs.lemmas.List.{take_all}
use Rattle.std.specs.Prelude.{option_map}
use Rattle.yp_netgroup.specs.Parts.{cut_triple, cut_member}
use Rattle.yp_netgroup.specs.inside.Member.{cut_of}
use Rattle.yp_netgroup.proofs.Spelled.{none-cut, some-cut, shorter-cut, opened-cut, named-cut}
use Rattle.yp_netgroup.proofs.text.cut_member.Goals as goal

opened : (c : goal.After-cut_triple) → option_map cut_of c.cut_triple.result ≡ cut_member c.args.text.now
opened c =
    let text = c.without_front_blanks-text.result.now in
    let rest : take (length text - 1) (drop 1 text) ≡ drop 1 text = take_all _ _ (omega (arith, length-drop 1 text)) in
    opened-cut c.args.text.now text _ c.without_front_blanks-text.ensures
    (sym c.is_opened.ensures.opened ∙ c.if-is_opened.true) (c.cut_triple.ensures ∙ ap cut_triple rest)

named : (c : goal.After-cut_name) → option_map cut_of c.cut_name.result ≡ cut_member c.args.text.now
named c =
    named-cut c.args.text.now c.without_front_blanks-text.result.now _ c.without_front_blanks-text.ensures
    (sym c.is_opened.ensures.opened ∙ c.if-is_opened.false) c.cut_name.ensures

pub returns-then-is_opened-clause-none : goal.returns-then-is_opened-clause-none
returns-then-is_opened-clause-none c = none-cut _ _ (opened c)

pub returns-then-is_opened-clause-parts : goal.returns-then-is_opened-clause-parts
returns-then-is_opened-clause-parts c = some-cut _ _ (opened c)

pub returns-then-is_opened-clause-shorter : goal.returns-then-is_opened-clause-shorter
returns-then-is_opened-clause-shorter c = shorter-cut _ _ (opened c)

pub returns-else-is_opened-clause-none : goal.returns-else-is_opened-clause-none
returns-else-is_opened-clause-none c = none-cut _ _ (named c)

pub returns-else-is_opened-clause-parts : goal.returns-else-is_opened-clause-parts
returns-else-is_opened-clause-parts c = some-cut _ _ (named c)

pub returns-else-is_opened-clause-shorter : goal.returns-else-is_opened-clause-shorter
returns-else-is_opened-clause-shorter c = shorter-cut _ _ (named c)
