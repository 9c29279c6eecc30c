use Rattle.yp_version.proofs.Packing.{packed_kept, packed_view}
use Rattle.yp_version.proofs.slab.Slab.of_parts.Goals as goal

pub invariant_of-result : goal.invariant_of-result
invariant_of-result c =
    let packed = c.requires.0 in
    let lies = c.requires.1 in
    packed_kept (record { bytes = c.args.bytes; head_len = c.args.head_len; places = c.args.places })
    packed.head packed.rows lies.within lies.bytes c.requires.2 lies.places lies.small

pub returns : goal.returns
returns c = λ packed lies head.
    packed_view (record { bytes = c.args.bytes; head_len = c.args.head_len; places = c.args.places })
    packed.head packed.rows lies.within lies.bytes head lies.places
