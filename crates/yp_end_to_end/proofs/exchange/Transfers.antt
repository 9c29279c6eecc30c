-- What a client reads of the reply to XFR, and to a call of the make program.
use Rattle.std.proofs.Common.{◌≡◌, ℕ, ℤ, pos, negsuc, Result, Ok, refl, sym, ap, ◌∙◌, arith, rules}
use Rattle.std.specs.Prelude.{if◌then◌else◌}
use Rattle.std.specs.Ordering.{int_eq}
use Rattle.yp_xdr.specs.Kind.{Value}
use Rattle.yp_xdr.specs.inside.Spelling.{Fits}
use Rattle.yp_xdr.specs.Reading.{Remaining}
use Rattle.yp_xdr.specs.inside.Laws.{WrittenIsReadAgain}
use Rattle.yp_rpc.specs.inside.Laws.{IsWord}
use Rattle.yp_messages.specs.declared.transfer.XfrStat.{XfrStat}
use Rattle.yp_messages.specs.declared.transfer.XfrStat.TheVariants.{Succ, Age, Nomap, Nodom, Rsrc, Rpc, Maddr, Yperr}
use Rattle.yp_messages.specs.declared.transfer.XfrStat.TheVariants.{Badargs, Dbm, File, Skew, Clear, Force, Xfrerr}
use Rattle.yp_messages.specs.declared.transfer.XfrStat.TheVariants.{Refused}
use Rattle.yp_messages.specs.Transfers.{xfr_stat, xfr_number, resp_xfr, resp_make}
use Rattle.yp_client.specs.declared.fault.ClientFault.{ClientFault}
use Rattle.yp_client.specs.Results.{◌>>=◌, item, taken_of, made_of}
use Rattle.yp_answer.specs.Reply.{xfr_reply, make_reply}
use Rattle.yp_end_to_end.proofs.exchange.Heads.{results_again}
use Rattle.yp_end_to_end.proofs.exchange.Values.{last_again}

-- each status has a number that is listed
xfr_fits : (s : XfrStat) → Fits xfr_stat (xfr_number s)
xfr_fits Succ = (search rules, refl)
xfr_fits Age = (search rules, refl)
xfr_fits Nomap = (search rules, refl)
xfr_fits Nodom = (search rules, refl)
xfr_fits Rsrc = (search rules, refl)
xfr_fits Rpc = (search rules, refl)
xfr_fits Maddr = (search rules, refl)
xfr_fits Yperr = (search rules, refl)
xfr_fits Badargs = (search rules, refl)
xfr_fits Dbm = (search rules, refl)
xfr_fits File = (search rules, refl)
xfr_fits Skew = (search rules, refl)
xfr_fits Clear = (search rules, refl)
xfr_fits Force = (search rules, refl)
xfr_fits Xfrerr = (search rules, refl)
xfr_fits Refused = (search rules, refl)

-- the number of a status that was written is read
pub taken_said : WrittenIsReadAgain → (xid : ℕ) (s : XfrStat) → IsWord xid → taken_of xid (xfr_reply xid 0 s) ≡ Ok (xfr_number s)
taken_said law xid s x =
    let results : Value resp_xfr = (0, xfr_number s) in
    ap (λ (left : Result Remaining ClientFault). left >>= λ l. item resp_xfr l >>= λ taken. Ok taken.0.1) (results_again law resp_xfr xid results x)
    ∙ ap (λ (read : Result (Value resp_xfr × Remaining) ClientFault). read >>= λ taken. Ok taken.0.1) (last_again law resp_xfr results 24 (omega arith, xfr_fits s))

pub made_said : WrittenIsReadAgain → (xid : ℕ) (s : XfrStat) → IsWord xid → made_of xid (make_reply xid s) ≡ Ok (xfr_number s)
made_said law xid s x =
    ap (λ (left : Result Remaining ClientFault). left >>= λ l. item resp_make l >>= λ made. Ok made.0) (results_again law resp_make xid (xfr_number s) x)
    ∙ ap (λ (read : Result (Value resp_make × Remaining) ClientFault). read >>= λ made. Ok made.0) (last_again law resp_make (xfr_number s) 24 (xfr_fits s))

-- ---- a status by its number

stat_of : ℤ → XfrStat
stat_of number =
    if int_eq number (pos 1) then Succ
    else (if int_eq number (pos 2) then Age
    else (if int_eq number (negsuc 0) then Nomap
    else (if int_eq number (negsuc 1) then Nodom
    else (if int_eq number (negsuc 2) then Rsrc
    else (if int_eq number (negsuc 3) then Rpc
    else (if int_eq number (negsuc 4) then Maddr
    else (if int_eq number (negsuc 5) then Yperr
    else (if int_eq number (negsuc 6) then Badargs
    else (if int_eq number (negsuc 7) then Dbm
    else (if int_eq number (negsuc 8) then File
    else (if int_eq number (negsuc 9) then Skew
    else (if int_eq number (negsuc 10) then Clear
    else (if int_eq number (negsuc 11) then Force
    else (if int_eq number (negsuc 12) then Xfrerr
    else Refused))))))))))))))

stat_again : (s : XfrStat) → stat_of (xfr_number s) ≡ s
unfolding stat_of
stat_again Succ = refl
stat_again Age = refl
stat_again Nomap = refl
stat_again Nodom = refl
stat_again Rsrc = refl
stat_again Rpc = refl
stat_again Maddr = refl
stat_again Yperr = refl
stat_again Badargs = refl
stat_again Dbm = refl
stat_again File = refl
stat_again Skew = refl
stat_again Clear = refl
stat_again Force = refl
stat_again Xfrerr = refl
stat_again Refused = refl

-- no two have one number
pub one_stat : (s t : XfrStat) → xfr_number s ≡ xfr_number t → s ≡ t
one_stat s t same = sym (stat_again s) ∙ ap stat_of same ∙ stat_again t
