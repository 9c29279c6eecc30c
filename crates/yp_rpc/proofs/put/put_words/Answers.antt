use Rattle.std.proofs.Common.{take, refl, arith}
use Rattle.std.proofs.lemmas.List.{length-take}
use Rattle.yp_rpc.proofs.Words.{length-words, sets_none, words_set, words_done}
use Rattle.yp_rpc.proofs.put.put_words.Goals as goal

pub returns-then-buf-numbers : goal.returns-then-buf-numbers
returns-then-buf-numbers c =
    record { place = tt; bytes_there = tt; no_room = omega (arith, length-words c.args.numbers.now); unchanged = refl }

pub loop-number-init : goal.loop-number-init
loop-number-init c = sets_none c.args.buf.now

pub set_u32-at-requires : goal.set_u32-at-requires
set_u32-at-requires c =
    omega (
      arith,
      c.loop-number.invariant.place,
      length-words
          (take c.loop-number.number-index c.args.numbers.now),
      length-take c.loop-number.number-index c.args.numbers.now,
    )

pub loop-number-preserved : goal.loop-number-preserved
loop-number-preserved c =
    words_set c.args.buf.now c.loop-number.buf c.set_u32-at.new.buf c.args.numbers.now c.loop-number.number-index
    c.loop-number.at c.set_u32-at.result (omega arith) c.loop-number.invariant c.set_u32-at.ensures

pub returns : goal.returns
returns c = words_done c.args.buf.now c.loop-number.buf c.args.numbers.now c.loop-number.number-index c.loop-number.at
    (omega arith) (omega arith) c.loop-number.invariant
