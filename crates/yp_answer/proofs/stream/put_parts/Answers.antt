use Rattle.std.proofs.Common.{◌≡◌, ℕ, ◌+◌, ◌-◌, ◌<◌, ◌++◌, List, [], length, take, drop, sym, ap, ◌∙◌, subst, arith, inl, inr}
use Rattle.std.proofs.lemmas.Bool.{cases_lt}
use Rattle.std.proofs.lemmas.List.{nil_from_length}
use Rattle.yp_rpc.specs.Reply.{reply_head}
use Rattle.yp_rpc.specs.declared.reply.ReplyHead.TheVariants.{Success}
use Rattle.yp_rpc.specs.Records.{joined}
use Rattle.yp_answer.specs.inside.Streams.{GivesParts, item_parts, parts, between}
use Rattle.yp_answer.specs.inside.Items.{items_view}
use Rattle.yp_answer.proofs.Parts.{gives_first, gives_later, left_len}
use Rattle.yp_answer.proofs.stream.put_parts.Goals as goal

pub overflow_add-result : goal.overflow_add-result
overflow_add-result c =
    elim (cases_lt 0 c.put_items-end.result.1) [
      | inl lt ↦ omega (arith, c.put_items-end.ensures.few lt)
      | inr le ↦ omega (arith, le)
    ]

pub returns-then-given-eq0-clause-gives : goal.returns-then-given-eq0-clause-gives
returns-then-given-eq0-clause-gives c =
    let xid = c.args.xid in
    let source = items_view c.args.items.now in
    let next = c.put_items-end.result.1 in
    let bytes = take c.put_items-end.result.0 c.put_items-end.new.buf in
    let new = drop (next + 1) (parts xid source) in
    let is : bytes ≡ reply_head xid Success ++ joined (between 0 next (item_parts source)) =
    c.put_items-end.ensures.put ∙ ap (λ (head : List ℕ). head ++ joined (between 0 next (item_parts source))) c.put_head-at.ensures.head in
    subst (λ (n : ℕ). GivesParts bytes (drop n (parts xid source)) new) (sym c.if-given-eq0.true) (gives_first xid source next bytes is)

pub overflow_add-result-2 : goal.overflow_add-result-2
overflow_add-result-2 c =
    elim (cases_lt (c.args.given - 1) c.put_items-end-2.result.1) [
      | inl lt ↦ omega (arith, c.put_items-end-2.ensures.few lt)
      | inr le ↦ omega (arith, le, c.if-given-eq0.false)
    ]

pub returns-clause-gives : goal.returns-clause-gives
returns-clause-gives c =
    let some : 0 < c.args.given = omega (arith, c.if-given-eq0.false) in
    gives_later c.args.xid (items_view c.args.items.now) c.args.given c.put_items-end-2.result.1
    (take c.put_items-end-2.result.0 c.put_items-end-2.new.buf) some c.put_items-end-2.ensures.forward c.put_items-end-2.ensures.put

pub returns-clause-end : goal.returns-clause-end
returns-clause-end c =
    let given = c.args.given in
    let source = items_view c.args.items.now in
    let some : 0 < given = omega (arith, c.if-given-eq0.false) in
    let left = drop given (parts c.args.xid source) in
    let count : length left ≡ length (item_parts source) - (given - 1) = left_len c.args.xid source given some in
    let stops : c.put_items-end-2.result.0 ≡ 0 → left ≡ [] = λ none.
    elim (cases_lt (given - 1) (length (item_parts source))) [
      | inl lt ↦ absurd (omega (arith, none, c.put_items-end-2.ensures.some lt (omega (arith, c.requires))))
      | inr le ↦ nil_from_length left (omega (arith, count, le))
    ] in
    let ends : left ≡ [] → c.put_items-end-2.result.0 ≡ 0 = λ empty.
    c.put_items-end-2.ensures.none (omega (arith, count, ap length empty)) in
    (stops, ends)
