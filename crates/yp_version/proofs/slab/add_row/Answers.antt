use Rattle.std.proofs.Common.{◌≡◌, ◌++◌, length, replicate, ap, ◌∙◌, arith, rules}
use Rattle.std.proofs.lemmas.List.{with_items_is}
use Rattle.yp_xdr.specs.inside.Writing.{written}
use Rattle.yp_version.specs.inside.Bodies.{row_bytes}
use Rattle.yp_version.specs.Rows.{row_len}
use Rattle.yp_version.proofs.Packing.{row_there}
use Rattle.yp_version.proofs.slab.add_row.Goals as goal

pub returns-clause-ok : goal.returns-clause-ok
returns-clause-ok c =
    let size = c.set_row.auto.buf in
    let len = c.deref_mut.ensures.len in
    let start : c.len-start.result ≡ length c.args.bytes.now.items = search rules in
    let grown : c.deref_mut.result.now ≡ c.args.bytes.now.items ++ replicate (row_len (c.args.key.now, c.args.value.now)) 0 =
    c.deref_mut.ensures.value ∙ c.in_ok-grow.ensures.ok ∙ ap (λ n. c.args.bytes.now.items ++ replicate n 0) c.row_len.ensures.value in
    with_items_is c.grow.new.bytes c.set_row.new.buf (omega arith)
    ∙ c.set_row.ensures ∙ ap (λ n. written c.deref_mut.result.now n (row_bytes (c.args.key.now, c.args.value.now))) start
    ∙ row_there c.args.bytes.now.items c.deref_mut.result.now (c.args.key.now, c.args.value.now) grown
