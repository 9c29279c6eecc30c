use Rattle.std.proofs.Common.{◌≡◌, false, not, sym, ap, ◌∙◌, rules, tests}
use Rattle.std.specs.List.{list_any}
use Rattle.std.proofs.lemmas.Iterator.{YieldsList-from_slice}
use Rattle.std.proofs.lemmas.Iterator.Search.{any_from_yields_List}
use Rattle.yp_version.specs.Blanks.{is_blank}
use Rattle.yp_texts.specs.Lines.{is_line_feed}
use Rattle.yp_texts.proofs.dumps.is_fit_key.Goals as goal

pub returns-then-not-any : goal.returns-then-not-any
returns-then-not-any c =
    let key = c.args.key.now in
    let blank = any_from_yields_List is_blank _ _ c.any.result c.any.ensures.ran (YieldsList-from_slice key cc)
    (λ x b q k. search (rules, tests)) in
    let feed = any_from_yields_List is_line_feed _ _ c.any-then-not-any.result c.any-then-not-any.ensures.ran
    (YieldsList-from_slice key cc) (λ x b q k. search (rules, tests)) in
    let none : list_any is_blank key ≡ false = sym blank ∙ c.if-not-any.true in
    rw none (ap not feed)
