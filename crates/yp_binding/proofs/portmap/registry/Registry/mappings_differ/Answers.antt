use Rattle.std.proofs.Common.{List, subst}
use Rattle.yp_binding.specs.declared.portmap.mapping.Mapping.{Mapping}
use Rattle.yp_binding.specs.portmap.Registry.{Differ}
use Rattle.yp_binding.proofs.portmap.registry.Registry.mappings_differ.Goals as goal

pub returns : goal.returns
returns c = subst (λ (l : List Mapping). Differ l) c.self.view_is c.self.invariant.2
