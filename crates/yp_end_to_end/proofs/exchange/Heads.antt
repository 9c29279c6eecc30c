-- The head of a reply with results is read again, and a client goes on to the results.
use Rattle.std.proofs.Common.{◌≡◌, ℕ, pos, cond, List, [], ◌++◌, Result, Ok, Err, refl, ap, ◌∙◌, arith, rules, eq-eqb}
use Rattle.yp_xdr.specs.declared.fault.XdrFault.{XdrFault}
use Rattle.yp_xdr.specs.Kind.{Kind, Value}
use Rattle.yp_xdr.specs.Spelling.{spelling, opaque, fixed}
use Rattle.yp_xdr.specs.inside.Spelling.{Spells}
use Rattle.yp_xdr.specs.Reading.{Remaining}
use Rattle.yp_xdr.specs.inside.Laws.{WrittenIsReadAgain}
use Rattle.yp_rpc.specs.declared.reply.ReplyHead.{ReplyHead}
use Rattle.yp_rpc.specs.declared.reply.ReplyHead.TheVariants.{Success}
use Rattle.yp_rpc.specs.Read.{reply_kind, accepted_kind, reply_at}
use Rattle.yp_rpc.specs.Reply.{reply_head}
use Rattle.yp_rpc.specs.inside.Laws.{IsWord}
use Rattle.yp_client.specs.declared.fault.ClientFault.{ClientFault}
use Rattle.yp_client.specs.declared.fault.ClientFault.TheVariants.{BadXid}
use Rattle.yp_client.specs.Results.{◌>>=◌, of_reply, by_head, by_xid, results_of}
use Rattle.yp_answer.specs.Reply.{success}

-- an accepted call
front_spelled : (xid : ℕ) → IsWord xid → Spells reply_kind (xid, (pos 1, pos 0)) (spelling reply_kind (xid, (pos 1, pos 0)))
front_spelled xid h = record { fits = (h, ((search rules, refl), (search rules, refl))); spelled = refl }

-- the head is read, and what is behind it is left
success_again : WrittenIsReadAgain → (xid : ℕ) (more : List ℕ) → IsWord xid
    → reply_at (record { at = 0; bytes = reply_head xid Success ++ more }) ≡ Ok ((xid, Success), record { at = 24; bytes = more })
unfolding opaque fixed
success_again law xid more x =
    let stat : Value accepted_kind = ((0, []), pos 0) in
    let two = spelling accepted_kind stat in
    let first = law reply_kind (xid, (pos 1, pos 0)) (spelling reply_kind (xid, (pos 1, pos 0))) (two ++ more) 0 (front_spelled xid x) in
    let second = law accepted_kind stat two more 12 (record { fits = ((omega arith, (omega arith, omega arith)), (search rules, refl)); spelled = refl }) in
    rw (first, second) refl

-- what a client makes of a head that was read
abbrev by_read : ℕ → (ℕ × ReplyHead) × Remaining → Result Remaining ClientFault
by_read xid read = by_xid xid read.0.0 read.0.1 read.1

-- the results are what is behind the head
pub results_again : WrittenIsReadAgain → (kind : Kind) (xid : ℕ) (value : Value kind) → IsWord xid
    → results_of xid (success xid kind value) ≡ Ok (record { at = 24; bytes = spelling kind value })
results_again law kind xid value x =
    let left : Remaining = record { at = 24; bytes = spelling kind value } in
    ap (λ (read : Result ((ℕ × ReplyHead) × Remaining) XdrFault). of_reply read >>= by_read xid) (success_again law xid (spelling kind value) x)
    ∙ ap (λ b. cond b (by_head Success left) (Err (BadXid xid xid))) (eq-eqb xid xid refl)
