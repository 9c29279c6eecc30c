use Rattle.std.proofs.Common.{◌≡◌, slice_get, Some, sym, arith, inl, inr}
use Rattle.std.proofs.lemmas.Bool.{cases_lt}
use Rattle.yp_answer.specs.inside.Streams.{row_parts}
use Rattle.yp_answer.specs.inside.Items.{spelled_item}
use Rattle.yp_answer.proofs.Itemized.{spelled_part, spelled_within, no_row_spelled}
use Rattle.yp_answer.proofs.Puts.{puts_none, puts_more}
use Rattle.yp_answer.proofs.Rooms.{spelled_len}
use Rattle.yp_answer.proofs.stream.put_rows.Goals as goal

pub loop-key-init : goal.loop-key-init
loop-key-init c = record {
  puts = puts_none (row_parts c.args.rows.now) c.args.first c.args.at c.args.buf.now c.requires.place;
  few = λ lt. absurd (omega (arith, lt));
}

pub loop-key-preserved : goal.loop-key-preserved
loop-key-preserved c =
    let rows = c.args.rows.now in
    let so_far = c.loop-key.invariant.puts in
    let next = c.loop-key.next in
    let key = c.in-Some.key.now in
    let val = c.in-Some.val.now in
    let there : slice_get (row_parts rows) next ≡ Some (spelled_item (key, val)) = sym (spelled_part rows next key val c.in-Some.ensures.row) in
    record {
      puts = puts_more (row_parts rows) (spelled_item (key, val)) c.args.first next c.args.at c.loop-key.end c.set_row-end.result c.args.buf.now c.loop-key.buf c.set_row-end.new.buf
          so_far there (omega arith) (omega (arith, spelled_len key val, c.if-buf-end.false, so_far.within)) c.set_row-end.auto.buf c.set_row-end.ensures;
      few = λ lt. omega (arith, spelled_within rows next (key, val) c.in-Some.ensures.row);
    }

pub returns-then-buf-end-clause-some : goal.returns-then-buf-end-clause-some
returns-then-buf-end-clause-some c = λ some room.
    let so_far = c.loop-key.invariant.puts in
    elim (cases_lt c.args.first c.loop-key.next) [
      | inl lt ↦ so_far.moved lt
      | inr le ↦
          absurd (omega (arith, so_far.starts (omega (arith, so_far.forward)), room, c.if-buf-end.true, c.loop-key.auto.buf, c.in-Some.ensures.key_len, c.in-Some.ensures.value_len))
    ]

pub returns-in_default-clause-some : goal.returns-in_default-clause-some
returns-in_default-clause-some c = λ some room.
    let ended = no_row_spelled c.args.rows.now c.loop-key.next c.in_default.ensures.row in
    c.loop-key.invariant.puts.moved (omega (arith, some, ended))
