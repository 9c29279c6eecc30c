use Rattle.std.proofs.Common.{◌≡◌, ◌++◌, length, ap, ◌∙◌, append_assoc, arith, sym}
use Rattle.yp_xdr.specs.Kind.{U32}
use Rattle.yp_xdr.specs.Spelling.{opaque, spelling}
use Rattle.yp_version.specs.Limits.{master_max}
use Rattle.yp_version.specs.Bodies.{front_bytes}
use Rattle.yp_version.proofs.Lengths.{length_opaque, length_front}
use Rattle.yp_version.proofs.Packing.{written_all}
use Rattle.yp_version.proofs.head.set_front.Goals as goal

pub set_opaque-at-requires-clause-room : goal.set_opaque-at-requires-clause-room
set_opaque-at-requires-clause-room c =
    let room = c.requires.room in
    let a = c.set_u32-at.ensures.place in
    let b = c.set_u32-at-2.ensures.place in
    let kept = c.set_u32-at.auto.buf in
    let kept2 = c.set_u32-at-2.auto.buf in
    let master = length_opaque master_max c.args.master.now in
    omega arith

pub set_u32-requires : goal.set_u32-requires
set_u32-requires c =
    let room = c.requires.room in
    let a = c.set_u32-at.ensures.place in
    let b = c.set_u32-at-2.ensures.place in
    let d = c.set_opaque-at.ensures.place in
    let kept = c.set_u32-at.auto.buf in
    let kept2 = c.set_u32-at-2.auto.buf in
    let kept3 = c.set_opaque-at.auto.buf in
    let master = length_opaque master_max c.args.master.now in
    omega arith

pub returns : goal.returns
unfolding front_bytes
returns c =
    let w1 = spelling U32 1 in
    let w2 = spelling U32 c.args.order in
    let m = opaque c.args.master.now in
    let w3 = spelling U32 c.args.count in
    let three = c.set_opaque-at.ensures.with_more w3 c.set_u32.new.buf c.set_u32.ensures.bytes_there in
    let two = c.set_u32-at-2.ensures.with_more (m ++ w3) c.set_u32.new.buf three in
    let one = c.set_u32-at.ensures.with_more (w2 ++ (m ++ w3)) c.set_u32.new.buf two in
    let room = c.requires.room in
    let len = length_front 1 c.args.order c.args.master.now c.args.count in
    let all : w1 ++ (w2 ++ (m ++ w3)) ≡ front_bytes 1 c.args.order c.args.master.now c.args.count = sym (append_assoc (w1 ++ w2) m w3) in
    one ∙ written_all c.args.head.now (w1 ++ (w2 ++ (m ++ w3))) (let e = ap length all in omega arith) ∙ all
