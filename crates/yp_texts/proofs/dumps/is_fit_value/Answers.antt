use Rattle.std.proofs.Common.{not, ap, rules, tests}
use Rattle.std.proofs.lemmas.Iterator.{YieldsList-from_slice}
use Rattle.std.proofs.lemmas.Iterator.Search.{any_from_yields_List}
use Rattle.yp_texts.specs.Lines.{is_line_feed}
use Rattle.yp_texts.proofs.dumps.is_fit_value.Goals as goal

pub returns : goal.returns
returns c = ap not
    (any_from_yields_List is_line_feed _ _ c.any.result c.any.ensures.ran (YieldsList-from_slice c.args.value.now cc)
    (λ x b q k. search (rules, tests)))
