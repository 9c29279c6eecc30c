use Rattle.std.proofs.Common.{◌≡◌, ◌+◌, ◌*◌, ◌++◌, take, map}
use Rattle.std.specs.Prelude.{flat_map}
use Rattle.yp_xdr.specs.Spelling.{present, spelling}
use Rattle.yp_binding.specs.portmap.Registry.{mapping_kind, mapping_view}
use Rattle.yp_binding.proofs.portmap.registry.put_mappings.Given as goal

abbrev pub invariant-loop-mapping : goal.invariant-loop-mapping
invariant-loop-mapping l = record {
  put : take l.end l.buf ≡ take l.at l.initial.buf
      ++ flat_map (present (spelling mapping_kind)) (map mapping_view (take l.mapping-index l.mappings));
  within : l.end ≡ l.at + 20 * l.mapping-index;
}
