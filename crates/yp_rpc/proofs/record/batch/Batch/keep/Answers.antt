use Rattle.std.proofs.Common.{◌≡◌, ◌+◌, ◌-◌, ◌≤◌, List, ℕ, length, take, drop, arith, sym, ap, ◌∙◌}
use Rattle.std.proofs.lemmas.List.{with_items_is, length-take-le}
use borrow.Rule.Slice.PartMut.{put_mid}
use Rattle.yp_rpc.proofs.Stream.{length-write}
use Rattle.yp_rpc.specs.Waiting.{Waiting}
use Rattle.yp_rpc.proofs.Holding.{batch_kept, kept}
use Rattle.yp_rpc.proofs.record.batch.Batch.keep.Goals as goal

pub returns-clause-kept : goal.returns-clause-kept
returns-clause-kept c =
    let b = c.self.inside in
    let at = b.start + 4 + b.len in
    let count = c.min-count.result in
    let now = c.deref_mut.result.now in
    let place : length c.args.self.now.whole ≡ b.start =
    ap (λ (w : Waiting). length w.whole) (sym c.self.view_is)
    ∙ length-take-le b.start b.bytes.items (omega arith) in
    let ys = c.copy_from_slice.new.self in
    let same : now ≡ b.bytes.items = c.deref_mut.ensures.value in
    let size : length now ≡ length b.bytes.items = ap length same in
    let len : length ys ≡ count =
    ap length c.copy_from_slice.ensures.after ∙ length-take-le count c.args.piece.now (omega arith) in
    let room : at + count ≤ length now = omega arith in
    let view : List ℕ → Waiting =
    λ items. record { whole = take b.start items; piece = take (b.len + count) (drop (b.start + 4) items) } in
    let before : List ℕ → Waiting =
    λ items. record { whole = take b.start items; piece = take b.len (drop (b.start + 4) items) } in
    ap view (with_items_is b.bytes (put_mid at (at + count - at) now ys)
    (length-write at (at + count - at) now ys (omega arith) (omega arith) ∙ size ∙ sym b.bytes.ok.0))
    ∙ batch_kept b.start b.len (at + count - at) count now ys (omega arith) len
    ∙ ap (λ items. kept (before items) ys) same
    ∙ ap (λ held. kept held ys) c.self.view_is
    ∙ ap (kept c.args.self.now) c.copy_from_slice.ensures.after
