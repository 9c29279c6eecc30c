use Rattle.std.proofs.Common.{◌≡◌, length, ap, ◌∙◌, sym, arith}
use Rattle.std.specs.Vec.{with_items}
use Rattle.std.proofs.lemmas.List.{with_items_is}
use Rattle.yp_xdr.specs.inside.Writing.{written}
use Rattle.yp_version.specs.inside.Slabs.{Packed}
use Rattle.yp_version.proofs.Packing.{headed_kept, headed_view}
use Rattle.yp_version.proofs.slab.Slab.set_head.Goals as goal

pub invariant_of-self : goal.invariant_of-self
invariant_of-self c =
    let size = c.overwrite.auto.bytes in
    let len = c.deref_mut.ensures.len in
    let bytes : (with_items c.self.inside.bytes c.overwrite.new.bytes).items ≡ written c.self.inside.bytes.items 0 c.args.head.now =
    with_items_is c.self.inside.bytes c.overwrite.new.bytes (omega arith)
    ∙ c.overwrite.ensures ∙ ap (λ l. written l 0 c.args.head.now) c.deref_mut.ensures.value in
    headed_kept c.self.inside (with_items c.self.inside.bytes c.overwrite.new.bytes) c.args.head.now c.self.invariant
    (c.requires ∙ ap (λ (p : Packed). length p.head) (sym c.self.view_is)) bytes

pub returns : goal.returns
returns c =
    let size = c.overwrite.auto.bytes in
    let len = c.deref_mut.ensures.len in
    let bytes : (with_items c.self.inside.bytes c.overwrite.new.bytes).items ≡ written c.self.inside.bytes.items 0 c.args.head.now =
    with_items_is c.self.inside.bytes c.overwrite.new.bytes (omega arith)
    ∙ c.overwrite.ensures ∙ ap (λ l. written l 0 c.args.head.now) c.deref_mut.ensures.value in
    headed_view c.self.inside (with_items c.self.inside.bytes c.overwrite.new.bytes) c.args.head.now c.self.invariant
    (c.requires ∙ ap (λ (p : Packed). length p.head) (sym c.self.view_is)) bytes
    ∙ ap (λ (p : Packed). record p { head = c.args.head.now }) c.self.view_is
