-- How long a reply is at most.
use Rattle.std.proofs.Common.{◌≡◌, ℕ, ◌+◌, ◌<◌, List, ◌++◌, length, arith}
use Rattle.std.proofs.lemmas.List.{length-append, length-replicate}
use Rattle.yp_xdr.specs.Kind.{Kind, Value}
use Rattle.yp_xdr.specs.Spelling.{word, padding_len, padding, opaque, fixed, spelling}
use Rattle.yp_rpc.specs.declared.reply.ReplyHead.TheVariants.{Success}
use Rattle.yp_rpc.specs.Reply.{reply_head}
use Rattle.yp_version.specs.Rows.{padded}
use Rattle.yp_answer.specs.Reply.{success}

-- bytes with their length and padding
pub opaque_short : (content : List ℕ) → length (opaque content) < length content + 8
unfolding opaque fixed
opaque_short content =
    let n = length content in
    let pad : length (padding n) ≡ padding_len n = length-replicate (padding_len n) 0 in
    omega (arith, length-append (word n) (content ++ padding n), length-append content (padding n))

-- the length word, and the bytes with their padding
pub length-opaque : (content : List ℕ) → length (opaque content) ≡ 4 + padded (length content)
unfolding opaque fixed
length-opaque content =
    let n = length content in
    let pad : length (padding n) ≡ padding_len n = length-replicate (padding_len n) 0 in
    omega (arith, length-append (word n) (content ++ padding n), length-append content (padding n))

-- a reply with results is their bytes and 24 more
pub length-success : (xid : ℕ) (kind : Kind) (value : Value kind) → length (success xid kind value) ≡ 24 + length (spelling kind value)
length-success xid kind value = length-append (reply_head xid Success) (spelling kind value)
