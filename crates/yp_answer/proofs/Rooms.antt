-- What is short enough for its room.
use Rattle.std.proofs.Common.{◌≡◌, ℕ, ◌+◌, ◌<◌, ◌≤◌, false, List, ◌++◌, length, arith}
use Rattle.std.proofs.lemmas.Bool.{ltb-false}
use Rattle.std.proofs.lemmas.List.{length-append, length-replicate}
use Rattle.yp_xdr.specs.Spelling.{word, padding_len, padding, opaque, fixed, spelling}
use Rattle.yp_rpc.specs.declared.reply.ReplyHead.{ReplyHead}
use Rattle.yp_rpc.specs.declared.reply.ReplyHead.TheVariants.{Success, ProgUnavail, ProgMismatch, ProcUnavail, GarbageArgs, SystemErr, RpcMismatch, AuthError}
use Rattle.yp_rpc.specs.Reply.{reply_head}
use Rattle.yp_messages.specs.declared.results.AllItem.TheVariants.{More, End}
use Rattle.yp_messages.specs.declared.results.RespMaster.{RespMaster}
use Rattle.yp_messages.specs.Messages.{resp_master}
use Rattle.yp_messages.specs.inside.Messages.{resp_master_view}
use Rattle.yp_messages.specs.declared.results.AllItem.{AllItem}
use Rattle.yp_messages.specs.inside.Messages.{AllItemIsWithin}
use Rattle.yp_messages.specs.Statuses.{stat, stat_number}
use Rattle.yp_answer.specs.declared.look_up.Valued.{Valued}
use Rattle.yp_answer.specs.inside.Items.{item_bytes, spelled_item, valued_bytes}
use Rattle.yp_answer.specs.declared.procedure.Path.{Path}
use Rattle.yp_answer.specs.declared.procedure.Path.TheVariants.{Stream, Datagram}
use Rattle.yp_rpc.specs.Turns.{datagram_max}
use Rattle.yp_answer.specs.Numbers.{record_max}
use Rattle.yp_answer.specs.inside.Numbers.{room_of}
use Rattle.yp_answer.specs.Reply.{exceeds}

-- bytes with their length and padding
pub opaque_short : (content : List ℕ) → length (opaque content) < length content + 8
unfolding opaque fixed
opaque_short content =
    let n = length content in
    let pad : length (padding n) ≡ padding_len n = length-replicate (padding_len n) 0 in
    omega (arith, length-append (word n) (content ++ padding n), length-append content (padding n))

-- what a path can carry fits its room
pub fits_on : (path : Path) (len room : ℕ) → exceeds path len ≡ false → len ≤ record_max → room_of path ≤ room → len ≤ room
fits_on Stream len room e few h = omega arith
fits_on Datagram len room e few h = omega (arith, ltb-false datagram_max len e)

-- each path has the room of a datagram
pub least_room : (path : Path) → datagram_max ≤ room_of path
least_room Stream = omega arith
least_room Datagram = omega arith

-- a head has some bytes
pub head_some : (xid : ℕ) (head : ReplyHead) → 0 < length (reply_head xid head)
head_some xid Success = omega arith
head_some xid ProgUnavail = omega arith
head_some xid (ProgMismatch low high) = omega arith
head_some xid ProcUnavail = omega arith
head_some xid GarbageArgs = omega arith
head_some xid SystemErr = omega arith
head_some xid (RpcMismatch low high) = omega arith
head_some xid (AuthError stat) = omega arith

-- a status and a value that is spelled
pub valued_len : (found : Valued) → length (valued_bytes found) ≡ 4 + length found.val.now
valued_len found = length-append (spelling stat (stat_number found.stat)) found.val.now

-- one item of ALL that is no row
pub item_short : (item : AllItem) → AllItemIsWithin item → length (item_bytes item) ≤ 131096
item_short (More row) h =
    omega (arith, length-append (opaque row.val.now) (opaque row.key.now), opaque_short row.val.now, opaque_short row.key.now, h.val, h.key)
item_short End h = omega arith

-- it takes some
pub item_some : (item : AllItem) → 0 < length (item_bytes item)
item_some (More row) = omega arith
item_some End = omega arith

-- a row of it, as its key and its value are spelled
pub spelled_len : (key val : List ℕ) → length (spelled_item (key, val)) ≡ 8 + length val + length key
spelled_len key val = omega (arith, length-append val key)

-- a status and the name of a master
pub master_short : (answer : RespMaster) → length answer.peer.now ≤ 64 → length (spelling resp_master (resp_master_view answer)) < 76
master_short answer few = omega (arith, opaque_short answer.peer.now)
