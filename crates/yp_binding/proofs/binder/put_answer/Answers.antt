use Rattle.std.proofs.Common.{◌≡◌, ℕ, ◌+◌, ◌≤◌, List, ◌++◌, length, arith}
use Rattle.std.proofs.lemmas.List.{length-append, length-replicate}
use Rattle.yp_xdr.specs.Spelling.{padding_len, padding, fixed, spelling, word}
use Rattle.yp_messages.specs.declared.binding.BindResp.{BindResp}
use Rattle.yp_messages.specs.declared.binding.BindResp.TheVariants.{Bound, Unbound}
use Rattle.yp_messages.specs.Bindings.{bind_resp}
use Rattle.yp_messages.specs.inside.Bindings.{bind_resp_view, BindRespIsWithin}
use Rattle.yp_binding.proofs.binder.put_answer.Goals as goal

-- bytes and their padding
fixed_short : (content : List ℕ) → length (fixed content) ≤ length content + 3
unfolding fixed
fixed_short content =
    let n = length content in
    let pad : length (padding n) ≡ padding_len n = length-replicate (padding_len n) 0 in
    omega (arith, length-append content (padding n))

answer_short : (answer : BindResp) → BindRespIsWithin answer
    → length (spelling bind_resp (bind_resp_view answer)) ≤ 16
answer_short (Bound addr port) within =
    let a = fixed addr.now in
    let b = fixed port.now in
    omega (
      arith,
      within.0,
      within.1,
      fixed_short addr.now,
      fixed_short port.now,
      length-append a b,
      length-append (word 1) (a ++ b),
    )
answer_short (Unbound error) within = omega arith

pub set-requires-clause-room : goal.set-requires-clause-room
set-requires-clause-room c =
    omega (
      arith,
      answer_short c.args.answer.now c.requires.within,
      c.put_head-at.ensures.short,
      c.put_head-at.auto.buf,
      c.requires.room,
    )
