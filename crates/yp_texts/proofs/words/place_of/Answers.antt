use Rattle.std.proofs.Common.{◌∙◌}
use Rattle.yp_texts.proofs.Places.{place-found}
use Rattle.yp_texts.proofs.words.place_of.Goals as goal

pub returns-clause-place : goal.returns-clause-place
returns-clause-place c = c.unwrap_or.ensures ∙ place-found _ c.args.text.now c.memchr.result c.memchr.ensures
