-- How far `put_words` has come.
use Rattle.std.proofs.Common.{take}
use Rattle.yp_xdr.specs.inside.Writing.{Sets}
use Rattle.yp_rpc.specs.Reply.{words}
use Rattle.yp_rpc.proofs.put.put_words.Given as goal

abbrev pub invariant-loop-number : goal.invariant-loop-number
invariant-loop-number l = Sets (words (take l.number-index l.numbers)) 0 l.at l.initial.buf l.buf
