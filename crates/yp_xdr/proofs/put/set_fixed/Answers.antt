use Rattle.std.proofs.Common.{◌≡◌, ℕ, ◌+◌, ◌≤◌, length, ◌∙◌, arith}
use Rattle.yp_xdr.specs.Spelling.{padding_len, fixed}
use Rattle.yp_xdr.proofs.Parts.{some_word, sets_padded}
use Rattle.yp_xdr.proofs.Items.{length-fixed}
use Rattle.yp_xdr.proofs.put.set_fixed.Goals as goal

pub returns : goal.returns
unfolding fixed
returns c =
    let n : ℕ = length c.args.bytes.now in
    let p : ℕ = padding_len n in
    let size : c.fixed_len.result ≡ n + p = c.fixed_len.ensures.value ∙ length-fixed c.args.bytes.now in
    let some : 4 ≤ n + p = some_word n c.is_empty.result c.is_empty.ensures c.if-is_empty.false in
    let fits : c.args.at + c.fixed_len.result ≤ length c.args.buf.now =
    omega (arith, size, length-fixed c.args.bytes.now, c.requires) in
    sets_padded c.args.buf.now c.set_bytes.new.buf c.set_bytes-2.new.buf c.args.at (c.args.at + c.fixed_len.result)
    p c.args.bytes.now (omega (arith, size)) (omega arith) some fits c.set_bytes.ensures.bytes_there
    c.set_bytes-2.ensures.bytes_there
