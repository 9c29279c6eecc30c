use Rattle.std.proofs.Common.{◌≡◌, ◌+◌, ◌-◌, [], ◌++◌, List, ℕ, length, take, drop, arith, sym, ap, ◌∙◌}
use Rattle.std.proofs.lemmas.List.{with_items_is, length-take-le}
use borrow.Rule.Slice.PartMut.{put_mid}
use Rattle.yp_rpc.specs.Records.{head, fragment}
use Rattle.yp_rpc.specs.Waiting.{Waiting}
use Rattle.yp_rpc.proofs.Stream.{length-write}
use Rattle.yp_rpc.proofs.Holding.{batch_closed}
use Rattle.yp_rpc.proofs.record.batch.Batch.close.Goals as goal

pub returns : goal.returns
returns c =
    let b = c.self.inside in
    let k = b.start + 4 - b.start in
    let now = c.deref_mut.result.now in
    let place : length c.args.self.now.whole ≡ b.start =
    ap (λ (w : Waiting). length w.whole) (sym c.self.view_is)
    ∙ length-take-le b.start b.bytes.items (omega arith) in
    let ys = c.copy_from_slice.new.self in
    let same : now ≡ b.bytes.items = c.deref_mut.ensures.value in
    let size : length now ≡ length b.bytes.items = ap length same in
    let is : ys ≡ head c.args.last b.len = c.copy_from_slice.ensures.after ∙ c.to_bytes.ensures in
    let len : length ys ≡ 4 = ap length is in
    let view : List ℕ → Waiting = λ items. record { whole = items; piece = [] } in
    ap (λ items. view (take (b.start + (4 + b.len)) items))
    (with_items_is b.bytes (put_mid b.start k now ys)
    (length-write b.start k now ys (omega arith) (omega arith) ∙ size ∙ sym b.bytes.ok.0))
    ∙ ap view (batch_closed c.args.last b.start b.len k now ys (omega arith) (omega arith) is)
    ∙ ap (λ items. view (take b.start items ++ fragment c.args.last (take b.len (drop (b.start + 4) items)))) same
    ∙ ap (λ (held : Waiting). view (held.whole ++ fragment c.args.last held.piece)) c.self.view_is
