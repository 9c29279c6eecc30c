use Rattle.std.proofs.Common.{ℕ, ◌+◌, ◌≤◌, List, ◌++◌, length, Ok, refl, subst, append_assoc, arith}
use Rattle.yp_xdr.specs.Spelling.{spelling, opaque, fixed}
use Rattle.yp_xdr.specs.inside.Writing.{Writes}
use Rattle.yp_rpc.specs.Call.{front_kind, procedure_kind}
use Rattle.yp_rpc.specs.Called.{front, heading}
use Rattle.yp_rpc.specs.inside.Called.{called}
use Rattle.yp_binding.specs.portmap.Registry.{mapping_kind, mapping_view}
use Rattle.yp_binding.proofs.portmap.Putting.{writes_from_sets}
use Rattle.yp_binding.proofs.portmap.asking.put_call.Goals as goal

pub returns-then-buf-lt-CALL_LEN : goal.returns-then-buf-lt-CALL_LEN
unfolding opaque fixed
returns-then-buf-lt-CALL_LEN c =
    record { place = tt; bytes_there = tt; no_room = omega (arith, c.if-buf-lt-CALL_LEN.true); unchanged = refl }

pub unreachable-requires : goal.unreachable-requires
unfolding opaque fixed
unreachable-requires c = omega (arith, c.in-Err.ensures.written.no_room, c.if-buf-lt-CALL_LEN.false)

pub returns : goal.returns
unfolding opaque fixed
returns c =
    let old = c.args.buf.now in
    let half = c.write_call.new.buf in
    let new = c.set.new.buf in
    let end = c.set.result in
    let head = called c.args.xid 100000 2 c.args.procedure in
    let asked = spelling mapping_kind (mapping_view c.args.asked) in
    let room : 0 + length (head ++ asked) ≤ length old = omega (arith, c.if-buf-lt-CALL_LEN.false) in
    let within : end ≤ length half =
    omega (arith, c.set.ensures.place, c.in-Ok.ensures.len, c.write_call.auto.buf, c.if-buf-lt-CALL_LEN.false) in
    let put = writes_from_sets asked c.in-Ok.at end half new c.set.ensures within in
    subst (λ (bytes : List ℕ). Writes bytes 0 (Ok end) old new)
    (append_assoc (spelling front_kind (front c.args.xid)) (spelling procedure_kind (heading 100000 2 c.args.procedure)) asked)
    (c.writers_join.ensures head asked 0 c.in-Ok.at (Ok end) old half new room c.in-Ok.ensures.written put)
