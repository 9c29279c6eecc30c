use Rattle.std.proofs.Common.{◌≡◌, ◌<◌, ◌≤◌, length, slice_get, Some, sym, arith, inl, inr}
use Rattle.std.proofs.lemmas.Bool.{cases_lt}
use Rattle.std.proofs.lemmas.Option.{slice_get_within}
use Rattle.yp_answer.specs.inside.Streams.{item_parts, rows_in}
use Rattle.yp_answer.specs.inside.Items.{items_view, item_bytes}
use Rattle.yp_answer.proofs.Rooms.{item_short, item_some}
use Rattle.yp_answer.proofs.Puts.{puts_more}
use Rattle.yp_answer.proofs.Itemized.{no_part_there}
use Rattle.yp_answer.proofs.stream.put_items.Goals as goal

pub loop-item-preserved : goal.loop-item-preserved
loop-item-preserved c =
    let parts = item_parts (items_view c.args.items.now) in
    let so_far = c.loop-item.invariant in
    let item = c.in-Some.item in
    let next = c.loop-item.next in
    let there : slice_get parts next ≡ Some (item_bytes item) = sym (c.in-Some.ensures.item c.in-Some.ensures.behind) in
    record {
      puts = puts_more parts (item_bytes item) c.args.first next c.args.at c.loop-item.end c.set-end.result c.args.buf.now c.loop-item.buf c.set-end.new.buf
          so_far.puts there (item_some item) (omega (arith, c.len.ensures, c.if-buf-end.false, so_far.puts.within)) c.set-end.auto.buf c.set-end.ensures;
      few = λ lt. omega (arith, c.in-Some.ensures.few);
      some = λ lt room. omega (arith, so_far.some lt room, c.set-end.ensures.place);
    }

pub returns-then-buf-end-clause-some : goal.returns-then-buf-end-clause-some
returns-then-buf-end-clause-some c = λ some room.
    let so_far = c.loop-item.invariant.puts in
    elim (cases_lt c.args.first c.loop-item.next) [
      | inl lt ↦ so_far.moved lt
      | inr le ↦
          let none : c.loop-item.end ≡ c.args.at = so_far.starts (omega (arith, so_far.forward)) in
          absurd (omega (arith, none, room, c.if-buf-end.true, c.len.ensures, c.loop-item.auto.buf, item_short c.in-Some.item c.in-Some.ensures.within))
    ]

pub returns-then-buf-end-clause-none : goal.returns-then-buf-end-clause-none
returns-then-buf-end-clause-none c = λ past.
    let parts = item_parts (items_view c.args.items.now) in
    let there : slice_get parts c.loop-item.next ≡ Some (item_bytes c.in-Some.item) = sym (c.in-Some.ensures.item c.in-Some.ensures.behind) in
    let within = slice_get_within parts c.loop-item.next (item_bytes c.in-Some.item) there in
    absurd (omega (arith, past, within, c.loop-item.invariant.puts.forward))

pub returns-in_default-clause-some : goal.returns-in_default-clause-some
returns-in_default-clause-some c = λ some room.
    let items = items_view c.args.items.now in
    let so_far = c.loop-item.invariant in
    elim (cases_lt c.args.first (rows_in items)) [
      | inl lt ↦ so_far.some lt room
      | inr le ↦
          let behind : rows_in items ≤ c.loop-item.next = omega (arith, le, so_far.puts.forward) in
          let ended = no_part_there (item_parts items) c.loop-item.next (sym (c.in_default.ensures.item behind)) in
          so_far.puts.moved (omega (arith, some, ended))
    ]

pub returns-in_default-clause-none : goal.returns-in_default-clause-none
returns-in_default-clause-none c = λ past.
    let so_far = c.loop-item.invariant.puts in
    elim (cases_lt c.args.first c.loop-item.next) [
      | inl lt ↦ absurd (omega (arith, past, so_far.inside lt))
      | inr le ↦ so_far.starts (omega (arith, so_far.forward))
    ]

pub returns-then-buf-end-clause-put : goal.returns-then-buf-end-clause-put
returns-then-buf-end-clause-put c = c.loop-item.invariant.puts.put

pub returns-in_default-clause-put : goal.returns-in_default-clause-put
returns-in_default-clause-put c = c.loop-item.invariant.puts.put
