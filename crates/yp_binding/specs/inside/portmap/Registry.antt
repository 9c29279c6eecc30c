-- A mapping has no limits.
use Rattle.std.specs.Prelude.{⊤}
use Rattle.yp_binding.specs.declared.portmap.mapping.Mapping.{Mapping}

-- The numbers of a mapping have no limits in XDR.
abbrev pub AnyMapping : Mapping → Type 0
AnyMapping mapping = ⊤
