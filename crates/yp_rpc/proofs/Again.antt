-- Heads that were written are read again.
use Rattle.std.proofs.Common.{ℕ, pos, [], ◌++◌, length, refl, arith, rules}
use Rattle.yp_xdr.specs.Kind.{U32, Value}
use Rattle.yp_xdr.specs.Spelling.{spelling, opaque, fixed}
use Rattle.yp_xdr.specs.inside.Spelling.{Spells}
use Rattle.yp_xdr.specs.inside.Laws.{WrittenIsReadAgain}
use Rattle.yp_rpc.specs.declared.reply.ReplyHead.TheVariants.{Success, ProgUnavail, ProgMismatch, ProcUnavail}
use Rattle.yp_rpc.specs.declared.reply.ReplyHead.TheVariants.{GarbageArgs, SystemErr, RpcMismatch, AuthError}
use Rattle.yp_rpc.specs.Call.{front_kind, procedure_kind}
use Rattle.yp_rpc.specs.Called.{front, heading}
use Rattle.yp_rpc.specs.Read.{reply_kind, accepted_kind, denied_kind, versions_kind}
use Rattle.yp_rpc.specs.inside.Laws.{IsWord, ReplyIsReadAgain, CallIsHeardAgain}

front_spelled : (xid : ℕ) → IsWord xid → Spells front_kind (front xid) (spelling front_kind (front xid))
front_spelled xid h = record { fits = (h, (omega arith, omega arith)); spelled = refl }

heading_spelled : (prog vers procedure : ℕ) → IsWord prog → IsWord vers → IsWord procedure
    → Spells procedure_kind (heading prog vers procedure) (spelling procedure_kind (heading prog vers procedure))
heading_spelled prog vers procedure p v n =
    record {
      fits =
          (p, (v, (n, ((omega arith, (omega arith, omega arith)), (omega arith, (omega arith, omega arith))))));
      spelled =
          refl;
    }

pub call_again : WrittenIsReadAgain → CallIsHeardAgain
unfolding opaque fixed
call_again law xid prog vers procedure more x p v n =
    let one = spelling front_kind (front xid) in
    let two = spelling procedure_kind (heading prog vers procedure) in
    let first = law front_kind (front xid) one (two ++ more) 0 (front_spelled xid x) in
    let second = law procedure_kind (heading prog vers procedure) two more (length one)
    (heading_spelled prog vers procedure p v n) in
    rw (first, second) refl

-- the front of a reply to a call that was accepted, and of one to a call that was denied
accepted_front : (xid : ℕ) → IsWord xid
    → Spells reply_kind (xid, (pos 1, pos 0)) (spelling reply_kind (xid, (pos 1, pos 0)))
accepted_front xid h = record { fits = (h, ((search rules, refl), (search rules, refl))); spelled = refl }

denied_front : (xid : ℕ) → IsWord xid
    → Spells reply_kind (xid, (pos 1, pos 1)) (spelling reply_kind (xid, (pos 1, pos 1)))
denied_front xid h = record { fits = (h, ((search rules, refl), (search rules, refl))); spelled = refl }

versions_spelled : (low high : ℕ) → IsWord low → IsWord high
    → Spells versions_kind (low, high) (spelling versions_kind (low, high))
versions_spelled low high l h = record { fits = (l, h); spelled = refl }

pub reply_again : WrittenIsReadAgain → ReplyIsReadAgain
unfolding opaque fixed
reply_again law xid Success more x w =
    let stat : Value accepted_kind = ((0, []), pos 0) in
    let two = spelling accepted_kind stat in
    let first = law reply_kind (xid, (pos 1, pos 0)) (spelling reply_kind (xid, (pos 1, pos 0))) (two ++ more) 0
    (accepted_front xid x) in
    let second = law accepted_kind stat two more 12
    (record { fits = ((omega arith, (omega arith, omega arith)), (search rules, refl)); spelled = refl }) in
    rw (first, second) refl
reply_again law xid ProgUnavail more x w =
    let stat : Value accepted_kind = ((0, []), pos 1) in
    let two = spelling accepted_kind stat in
    let first = law reply_kind (xid, (pos 1, pos 0)) (spelling reply_kind (xid, (pos 1, pos 0))) (two ++ more) 0
    (accepted_front xid x) in
    let second = law accepted_kind stat two more 12
    (record { fits = ((omega arith, (omega arith, omega arith)), (search rules, refl)); spelled = refl }) in
    rw (first, second) refl
reply_again law xid (ProgMismatch low high) more x w =
    let stat : Value accepted_kind = ((0, []), pos 2) in
    let two = spelling accepted_kind stat in
    let three = spelling versions_kind (low, high) in
    let first = law reply_kind (xid, (pos 1, pos 0)) (spelling reply_kind (xid, (pos 1, pos 0)))
    (two ++ (three ++ more)) 0 (accepted_front xid x) in
    let second = law accepted_kind stat two (three ++ more) 12
    (record { fits = ((omega arith, (omega arith, omega arith)), (search rules, refl)); spelled = refl }) in
    let third = law versions_kind (low, high) three more 24 (versions_spelled low high w.0 w.1) in
    rw (first, second, third) refl
reply_again law xid ProcUnavail more x w =
    let stat : Value accepted_kind = ((0, []), pos 3) in
    let two = spelling accepted_kind stat in
    let first = law reply_kind (xid, (pos 1, pos 0)) (spelling reply_kind (xid, (pos 1, pos 0))) (two ++ more) 0
    (accepted_front xid x) in
    let second = law accepted_kind stat two more 12
    (record { fits = ((omega arith, (omega arith, omega arith)), (search rules, refl)); spelled = refl }) in
    rw (first, second) refl
reply_again law xid GarbageArgs more x w =
    let stat : Value accepted_kind = ((0, []), pos 4) in
    let two = spelling accepted_kind stat in
    let first = law reply_kind (xid, (pos 1, pos 0)) (spelling reply_kind (xid, (pos 1, pos 0))) (two ++ more) 0
    (accepted_front xid x) in
    let second = law accepted_kind stat two more 12
    (record { fits = ((omega arith, (omega arith, omega arith)), (search rules, refl)); spelled = refl }) in
    rw (first, second) refl
reply_again law xid SystemErr more x w =
    let stat : Value accepted_kind = ((0, []), pos 5) in
    let two = spelling accepted_kind stat in
    let first = law reply_kind (xid, (pos 1, pos 0)) (spelling reply_kind (xid, (pos 1, pos 0))) (two ++ more) 0
    (accepted_front xid x) in
    let second = law accepted_kind stat two more 12
    (record { fits = ((omega arith, (omega arith, omega arith)), (search rules, refl)); spelled = refl }) in
    rw (first, second) refl
reply_again law xid (RpcMismatch low high) more x w =
    let two = spelling denied_kind (pos 0) in
    let three = spelling versions_kind (low, high) in
    let first = law reply_kind (xid, (pos 1, pos 1)) (spelling reply_kind (xid, (pos 1, pos 1)))
    (two ++ (three ++ more)) 0 (denied_front xid x) in
    let second = law denied_kind (pos 0) two (three ++ more) 12
    (record { fits = (search rules, refl); spelled = refl }) in
    let third = law versions_kind (low, high) three more 16 (versions_spelled low high w.0 w.1) in
    rw (first, second, third) refl
reply_again law xid (AuthError stat) more x w =
    let two = spelling denied_kind (pos 1) in
    let three = spelling U32 stat in
    let first = law reply_kind (xid, (pos 1, pos 1)) (spelling reply_kind (xid, (pos 1, pos 1)))
    (two ++ (three ++ more)) 0 (denied_front xid x) in
    let second = law denied_kind (pos 1) two (three ++ more) 12
    (record { fits = (search rules, refl); spelled = refl }) in
    let third = law U32 stat three more 16 (record { fits = w; spelled = refl }) in
    rw (first, second, third) refl
