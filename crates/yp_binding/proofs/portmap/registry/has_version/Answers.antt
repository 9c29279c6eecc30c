use Rattle.std.proofs.Common.{rules, tests}
use Rattle.std.proofs.lemmas.Iterator.{YieldsList-from_slice}
use Rattle.std.proofs.lemmas.Iterator.Search.{any_from_yields_List}
use Rattle.yp_binding.specs.portmap.Registry.{is_of}
use Rattle.yp_binding.proofs.portmap.registry.has_version.Goals as goal

pub returns : goal.returns
returns c =
    any_from_yields_List (is_of c.args.asked.now) _ _ c.any.result c.any.ensures.ran
    (YieldsList-from_slice c.args.mappings.now cc) (λ x b q k. search (rules, tests))
