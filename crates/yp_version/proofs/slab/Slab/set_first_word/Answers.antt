use Rattle.std.proofs.Common.{◌≡◌, ◌++◌, ◌≤◌, length, drop, ap, ◌∙◌, sym, subst, arith}
use Rattle.std.specs.Vec.{with_items}
use Rattle.std.proofs.lemmas.List.{with_items_is}
use Rattle.yp_xdr.specs.Kind.{U32}
use Rattle.yp_xdr.specs.Spelling.{spelling}
use Rattle.yp_xdr.specs.inside.Writing.{written}
use Rattle.yp_version.specs.inside.Slabs.{Packed}
use Rattle.yp_version.proofs.Packing.{worded_kept, worded_view}
use Rattle.yp_version.proofs.slab.Slab.set_first_word.Goals as goal

pub invariant_of-self : goal.invariant_of-self
invariant_of-self c =
    let size = c.set_u32.auto.buf in
    let len = c.deref_mut.ensures.len in
    let bytes : (with_items c.self.inside.bytes c.set_u32.new.buf).items ≡ written c.self.inside.bytes.items 0 (spelling U32 c.args.word) =
    with_items_is c.self.inside.bytes c.set_u32.new.buf (omega arith)
    ∙ c.set_u32.ensures.bytes_there ∙ ap (λ l. written l 0 (spelling U32 c.args.word)) c.deref_mut.ensures.value in
    worded_kept c.self.inside (with_items c.self.inside.bytes c.set_u32.new.buf) c.args.word c.self.invariant
    (subst (λ (p : Packed). 4 ≤ length p.head) (sym c.self.view_is) c.requires) bytes

pub returns : goal.returns
returns c =
    let size = c.set_u32.auto.buf in
    let len = c.deref_mut.ensures.len in
    let bytes : (with_items c.self.inside.bytes c.set_u32.new.buf).items ≡ written c.self.inside.bytes.items 0 (spelling U32 c.args.word) =
    with_items_is c.self.inside.bytes c.set_u32.new.buf (omega arith)
    ∙ c.set_u32.ensures.bytes_there ∙ ap (λ l. written l 0 (spelling U32 c.args.word)) c.deref_mut.ensures.value in
    worded_view c.self.inside (with_items c.self.inside.bytes c.set_u32.new.buf) c.args.word c.self.invariant
    (subst (λ (p : Packed). 4 ≤ length p.head) (sym c.self.view_is) c.requires) bytes
    ∙ ap (λ (p : Packed). record p { head = spelling U32 c.args.word ++ drop 4 p.head }) c.self.view_is
