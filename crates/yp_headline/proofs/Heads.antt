-- The head of a reply that is SUCCESS, item by item.
use Rattle.std.proofs.Common.{◌≡◌, ℕ, ℤ, pos, Bool, true, false, cond, List, [], ◌∷◌, Result, Ok, Err, refl, sym, ap, ◌∙◌}
use Rattle.std.proofs.lemmas.Bool.Decides.{Decides-int_eq}
use Rattle.std.proofs.lemmas.Bool.{cases_Bool}
use Rattle.std.specs.Ordering.{int_eq}
use Rattle.std.proofs.Common.{inl, inr}
use Rattle.yp_xdr.specs.declared.fault.XdrFault.{XdrFault}
use Rattle.yp_xdr.specs.declared.fault.XdrFault.TheVariants.{BadEnum}
use Rattle.yp_xdr.specs.Kind.{Kind, U32, I32, Enum, Sequence, Value}
use Rattle.yp_xdr.specs.Spelling.{is_one_of}
use Rattle.yp_xdr.specs.Reading.{Remaining, ◌>>=◌, word_at, signed_at, one_of_at, reading}
use Rattle.yp_rpc.specs.Call.{auth_kind}
use Rattle.yp_rpc.specs.declared.reply.ReplyHead.{ReplyHead}
use Rattle.yp_rpc.specs.declared.reply.ReplyHead.TheVariants.{Success, ProgUnavail, ProgMismatch, ProcUnavail, GarbageArgs, SystemErr, RpcMismatch, AuthError}
use Rattle.yp_rpc.specs.Read.{reply_kind, accepted_kind, denied_kind, versions_kind, HeadRead, mismatch_read, auth_error_read, by_accept_stat, accepted_read, by_reject_stat, denied_read, by_reply_stat, reply_at}
use Rattle.yp_headline.specs.Fetching.{head_kind}

pub same_int : (x y : ℤ) → int_eq x y ≡ true → x ≡ y
same_int x y is = (Decides-int_eq x y).0 is

pub bind_ok : {A B : Type 0} (r : Result A XdrFault) (f : A → Result B XdrFault) (y : B) → (r >>= f) ≡ Ok y
    → (x : A) × (r ≡ Ok x) × (f x ≡ Ok y)
bind_ok (Ok x) f y is = (x, refl, is)
bind_ok (Err fault) f y is = absurd cc

chosen : {A : Type 0} (b : Bool) (x y : A) (fault : XdrFault)
    → (let r : Result A XdrFault = cond b (Ok x) (Err fault) in r) ≡ Ok y → (b ≡ true) × (x ≡ y)
chosen true x y fault is = (refl, cc)
chosen false x y fault is = absurd cc

pub of_enum : (allowed : List ℤ) (left next : Remaining) (z : ℤ) → one_of_at allowed left ≡ Ok (z, next)
    → signed_at left ≡ Ok (z, next)
unfolding one_of_at
of_enum allowed left next z is =
    let a = bind_ok (signed_at left) (λ number. cond (is_one_of allowed number.0) (Ok number) (Err (BadEnum left.at))) (z, next) is in
    let b = chosen (is_one_of allowed a.0.0) a.0 (z, next) (BadEnum left.at) a.2 in
    a.1 ∙ ap (λ (r : ℤ × Remaining). Ok r) b.1

only_one : (z other : ℤ) → is_one_of (other ∷ []) z ≡ true → z ≡ other
only_one z other is = elim (cases_Bool (int_eq other z)) [
  | inl same ↦ sym (same_int other z same)
  | inr differ ↦ absurd (let e : false ≡ true = rw differ at is in cc)
]

pub of_one : (other : ℤ) (left next : Remaining) (z : ℤ) → one_of_at (other ∷ []) left ≡ Ok (z, next) → z ≡ other
unfolding one_of_at
of_one other left next z is =
    let a = bind_ok (signed_at left) (λ number. cond (is_one_of (other ∷ []) number.0) (Ok number) (Err (BadEnum left.at))) (z, next) is in
    let b = chosen (is_one_of (other ∷ []) a.0.0) a.0 (z, next) (BadEnum left.at) a.2 in
    ap (λ (r : ℤ × Remaining). r.0) (sym b.1) ∙ only_one a.0.0 other b.0

pub same_pair : {A : Type 0} (x y : A) → (let r : Result A XdrFault = Ok x in r) ≡ Ok y → x ≡ y
same_pair x y is = cc

-- a sequence that was read
pub both_read : (first second : Kind) (left : Remaining) (value : Value (Sequence first second)) (next : Remaining)
    → reading (Sequence first second) left ≡ Ok (value, next)
    → (mid : Remaining) × (reading first left ≡ Ok (value.0, mid)) × (reading second mid ≡ Ok (value.1, next))
both_read first second left value next is =
    let a = bind_ok (reading first left) (λ one. reading second one.1 >>= λ other. Ok ((one.0, other.0), other.1)) (value, next) is in
    let b = bind_ok (reading second a.0.1) (λ other. Ok ((a.0.0, other.0), other.1)) (value, next) a.2 in
    let c : ((a.0.0, b.0.0), b.0.1) ≡ (value, next) = same_pair ((a.0.0, b.0.0), b.0.1) (value, next) b.2 in (
      a.0.1,
      a.1 ∙ ap (λ (v : Value (Sequence first second) × Remaining). Ok (v.0.0, a.0.1)) c,
      b.1 ∙ ap (λ (v : Value (Sequence first second) × Remaining). Ok (v.0.1, v.1)) c,
    )

-- and one that is
pub read_both : (first second : Kind) (left mid next : Remaining) (one : Value first) (other : Value second)
    → reading first left ≡ Ok (one, mid) → reading second mid ≡ Ok (other, next)
    → reading (Sequence first second) left ≡ Ok ((one, other), next)
read_both first second left mid next one other is is' =
    ap (λ (r : Result (Value first × Remaining) XdrFault). r >>= λ x. reading second x.1 >>= λ y. Ok ((x.0, y.0), y.1)) is
    ∙ ap (λ (r : Result (Value second × Remaining) XdrFault). r >>= λ y. Ok ((one, y.0), y.1)) is'

-- ---- a head that is SUCCESS

-- what a mismatch, and a refusal, can't be
no_mismatch : {P : Type 0} (head : ℕ → ℕ → ReplyHead) (left rest : Remaining) → ((low high : ℕ) → head low high ≡ Success → ⊥)
    → mismatch_read head left ≡ Ok (Success, rest) → P
no_mismatch head left rest never is =
    let a = bind_ok (reading versions_kind left) (λ versions. Ok (head versions.0.0 versions.0.1, versions.1)) (Success, rest) is in
    let e = ap (λ (r : ReplyHead × Remaining). r.0) (same_pair (head a.0.0.0 a.0.0.1, a.0.1) (Success, rest) a.2) in
    absurd (never a.0.0.0 a.0.0.1 e)

other_head : {P : Type 0} (b : Bool) (head : ReplyHead) (left rest : Remaining) (later : HeadRead)
    → (head ≡ Success → ⊥) → (later ≡ Ok (Success, rest) → P) → cond b (Ok (head, left)) later ≡ Ok (Success, rest) → P
other_head true head left rest later never then is =
    absurd (never (ap (λ (r : ReplyHead × Remaining). r.0) (same_pair (head, left) (Success, rest) is)))
other_head false head left rest later never then is = then is

by_cond : {A : Type 0} (b : Bool) (x y z : A) (P : Type 0) → (b ≡ true → x ≡ z → P) → (y ≡ z → P) → cond b x y ≡ z → P
by_cond true x y z P then else is = then refl is
by_cond false x y z P then else is = else is

accept_zero : (stat : ℤ) (left rest : Remaining) → by_accept_stat stat left ≡ Ok (Success, rest) → (stat ≡ pos 0) × (left ≡ rest)
accept_zero stat left rest is =
    by_cond (int_eq stat (pos 0)) (Ok (Success, left)) _ (Ok (Success, rest)) ((stat ≡ pos 0) × (left ≡ rest))
    (λ zero_is e. (
      same_int stat (pos 0) zero_is,
      ap (λ (r : ReplyHead × Remaining). r.1) (same_pair (Success, left) (Success, rest) e),
    ))
    (λ e. other_head (int_eq stat (pos 1)) ProgUnavail left rest _ (λ h. cc)
    (λ e. by_cond (int_eq stat (pos 2)) (mismatch_read ProgMismatch left) _ (Ok (Success, rest)) ((stat ≡ pos 0) × (left ≡ rest))
    (λ two h. no_mismatch ProgMismatch left rest (λ low high h. cc) h)
    (λ e. other_head (int_eq stat (pos 3)) ProcUnavail left rest _ (λ h. cc)
    (λ e. other_head (int_eq stat (pos 4)) GarbageArgs left rest (Ok (SystemErr, left)) (λ h. cc)
    (λ e. absurd (let h = ap (λ (r : ReplyHead × Remaining). r.0) (same_pair (SystemErr, left) (Success, rest) e) in cc)) e) e) e) e) is

never_denied : {P : Type 0} (left rest : Remaining) → denied_read left ≡ Ok (Success, rest) → P
never_denied {P} left rest is =
    let a = bind_ok (reading denied_kind left) (λ stat. by_reject_stat stat.0 stat.1) (Success, rest) is in
    by_cond (int_eq a.0.0 (pos 0)) (mismatch_read RpcMismatch a.0.1) (auth_error_read a.0.1) (Ok (Success, rest)) P
    (λ zero_is h. no_mismatch RpcMismatch a.0.1 rest (λ low high h. cc) h)
    (λ h.
    let b = bind_ok (reading U32 a.0.1) (λ stat. Ok (AuthError stat.0, stat.1)) (Success, rest) h in
    absurd (let e = ap (λ (r : ReplyHead × Remaining). r.0) (same_pair (AuthError b.0.0, b.0.1) (Success, rest) b.2) in cc)) a.2

-- the head of a reply that is SUCCESS
abbrev pub HasHead : ℕ → List ℕ → Remaining → Type 0
HasHead xid reply left = (verifier : Value auth_kind)
    × (reading head_kind (record { at = 0; bytes = reply }) ≡ Ok ((xid, (pos 1, (pos 0, (verifier, pos 0)))), left))

-- the items of a head that is read as SUCCESS
pub results_are : (reply : List ℕ) (xid : ℕ) (left : Remaining)
    → reply_at (record { at = 0; bytes = reply }) ≡ Ok ((xid, Success), left) → HasHead xid reply left
results_are reply xid left is =
    let start : Remaining = record { at = 0; bytes = reply } in
    let a = bind_ok (reading reply_kind start) (λ front. by_reply_stat front.0.1.1 front.1 >>= λ head. Ok ((front.0.0, head.0), head.1))
    ((xid, Success), left) is in
    let b = bind_ok (by_reply_stat a.0.0.1.1 a.0.1) (λ head. Ok ((a.0.0.0, head.0), head.1)) ((xid, Success), left) a.2 in
    let c = same_pair ((a.0.0.0, b.0.0), b.0.1) ((xid, Success), left) b.2 in
    let xid_is : a.0.0.0 ≡ xid = ap (λ (r : (ℕ × ReplyHead) × Remaining). r.0.0) c in
    let head_is : by_reply_stat a.0.0.1.1 a.0.1 ≡ Ok (Success, left) = b.1
    ∙ ap (λ (r : (ℕ × ReplyHead) × Remaining). Ok (r.0.1, r.1)) c in
    let front = both_read U32 (Sequence (Enum (pos 1 ∷ [])) (Enum (pos 0 ∷ pos 1 ∷ []))) start a.0.0 a.0.1 a.1 in
    let kinds = both_read (Enum (pos 1 ∷ [])) (Enum (pos 0 ∷ pos 1 ∷ [])) front.0 a.0.0.1 a.0.1 front.2 in
    let one_is = of_one (pos 1) front.0 kinds.0 a.0.0.1.0 kinds.1 in
    by_cond (int_eq a.0.0.1.1 (pos 0)) (accepted_read a.0.1) (denied_read a.0.1) (Ok (Success, left)) (HasHead xid reply left)
    (λ zero_is accepted.
    let d = bind_ok (reading accepted_kind a.0.1) (λ read. by_accept_stat read.0.1 read.1) (Success, left) accepted in
    let e = accept_zero d.0.0.1 d.0.1 left d.2 in
    let parts = both_read auth_kind (Enum (pos 0 ∷ pos 1 ∷ pos 2 ∷ pos 3 ∷ pos 4 ∷ pos 5 ∷ [])) a.0.1 d.0.0 d.0.1 d.1 in
    let last : signed_at parts.0 ≡ Ok (pos 0, left) = of_enum _ parts.0 d.0.1 d.0.0.1 parts.2
    ∙ ap (λ (z : ℤ). Ok (z, d.0.1)) e.0 ∙ ap (λ (r : Remaining). Ok (pos 0, r)) e.1 in
    let third : signed_at kinds.0 ≡ Ok (pos 0, a.0.1) = of_enum _ kinds.0 a.0.1 a.0.0.1.1 kinds.2
    ∙ ap (λ (z : ℤ). Ok (z, a.0.1)) (same_int a.0.0.1.1 (pos 0) zero_is) in
    let second : signed_at front.0 ≡ Ok (pos 1, kinds.0) = of_enum _ front.0 kinds.0 a.0.0.1.0 kinds.1
    ∙ ap (λ (z : ℤ). Ok (z, kinds.0)) one_is in
    let first : word_at start ≡ Ok (xid, front.0) = front.1 ∙ ap (λ (n : ℕ). Ok (n, front.0)) xid_is in (
      d.0.0.0,
      read_both U32 (Sequence I32 (Sequence I32 (Sequence auth_kind I32))) start front.0 left xid (pos 1, (pos 0, (d.0.0.0, pos 0)))
          first (read_both I32 (Sequence I32 (Sequence auth_kind I32)) front.0 kinds.0 left (pos 1) (pos 0, (d.0.0.0, pos 0)) second
          (read_both I32 (Sequence auth_kind I32) kinds.0 a.0.1 left (pos 0) (d.0.0.0, pos 0) third
          (read_both auth_kind I32 a.0.1 parts.0 left d.0.0.0 (pos 0) parts.1 last))),
    ))
    (λ denied. never_denied a.0.1 left denied) head_is
