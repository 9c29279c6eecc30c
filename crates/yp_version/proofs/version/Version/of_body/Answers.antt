use Rattle.std.proofs.Common.{◌≡◌, ◌+◌, ap, sym, refl, ◌∙◌, length}
use Rattle.yp_version.specs.Rows.{padded}
use Rattle.yp_version.specs.Versions.{MapVersion}
use Rattle.yp_version.specs.declared.version.Version.TheInside.{Inside}
use Rattle.yp_version.proofs.Stored.{stored_slab, stored_head, stored_lies, stored_kept, stored_view, slab_is}
use Rattle.yp_version.proofs.version.Version.of_body.Goals as goal

pub of_parts-slab-requires : goal.of_parts-slab-requires
of_parts-slab-requires g c =
    let version : MapVersion = record { order = c.args.order; master = c.args.master.items; secure = c.args.secure; rows = c.requires.0 } in
    let len : 16 + c.padded-head_len.result ≡ 16 + padded (length version.master) =
    ap (λ n. 16 + n) (c.padded-head_len.ensures.value ∙ ap padded (c.len.ensures ∙ c.args.master.ok.0)) in
    (stored_slab version, stored_lies c.args.stored.bytes.items c.args.stored.places.items version c.requires.1, len ∙ sym (stored_head version))

pub invariant_of-result : goal.invariant_of-result
invariant_of-result g c =
    let version : MapVersion = record { order = c.args.order; master = c.args.master.items; secure = c.args.secure; rows = c.requires.0 } in
    let len : 16 + c.padded-head_len.result ≡ 16 + padded (length version.master) =
    ap (λ n. 16 + n) (c.padded-head_len.ensures.value ∙ ap padded (c.len.ensures ∙ c.args.master.ok.0)) in
    let slab = slab_is c.args.stored.bytes.items c.args.stored.places.items (16 + c.padded-head_len.result) c.of_parts-slab.result version c.of_parts-slab.ensures len c.requires.1 in
    let inside : Inside = record { order = c.args.order; master = c.args.master; secure = c.args.secure; slab = c.of_parts-slab.result; table = c.without_buckets.result } in
    rw c.number.ensures.number (stored_kept inside version c.requires.1.body.within (stored_view inside version refl slab) slab (c.without_buckets.ensures c.of_parts-slab.result.rows))

pub returns : goal.returns
returns g c = λ rows stored.
    let version : MapVersion = record { order = c.args.order; master = c.args.master.items; secure = c.args.secure; rows = rows } in
    let len : 16 + c.padded-head_len.result ≡ 16 + padded (length version.master) =
    ap (λ n. 16 + n) (c.padded-head_len.ensures.value ∙ ap padded (c.len.ensures ∙ c.args.master.ok.0)) in
    let slab = slab_is c.args.stored.bytes.items c.args.stored.places.items (16 + c.padded-head_len.result) c.of_parts-slab.result version c.of_parts-slab.ensures len stored in
    rw c.number.ensures.number (stored_view (record { order = c.args.order; master = c.args.master; secure = c.args.secure; slab = c.of_parts-slab.result; table = c.without_buckets.result })
    version refl slab)
