-- The versions of the call backs that were left are known to be fetched.
use Rattle.std.proofs.Common.{◌≡◌, ℕ, zero, suc, ◌<◌, List, [], ◌∷◌, ◌++◌, length, get_or, Option, Result, Ok, Err, sym, ap, ◌∙◌, subst, ⊎_elim, arith}
use Rattle.std.specs.Prelude.{IfSome, MatchResult, ⊤}
use Rattle.std.specs.List.{Contains}
use Rattle.std.proofs.lemmas.List.{append-nil}
use Rattle.std.proofs.lemmas.List.Elements.{Contains-append_cases}
use Rattle.yp_publisher.specs.sharing.Tracing.{FetchLog}
use Rattle.yp_host.specs.declared.workers.call_backs.CallBack.{CallBack}
use Rattle.yp_host.specs.workers.CallBacks.{version_in}
use Rattle.yp_host.specs.inside.workers.CallBacks.{HeldCallBacks, holds_more}
use Rattle.yp_host.specs.inside.workers.CallBacks.{AreKnown, IsKnownIn}

pub one_known : (known : Option FetchLog) (one : CallBack) → IfSome (version_in one) (IsKnownIn known)
    → AreKnown known (one ∷ [])
one_known known one is call_back among = same among.0 among.1 among.2 where
  same : (k : ℕ) → k < length (one ∷ []) → get_or (one ∷ []) k call_back ≡ call_back
      → IfSome (version_in call_back) (IsKnownIn known)
  same zero within at = subst (λ (c : CallBack). IfSome (version_in c) (IsKnownIn known)) at is
  same (suc k) within at = absurd (omega (arith, within))

pub both_known : (known : Option FetchLog) (these those : List CallBack) → AreKnown known these
    → AreKnown known those → AreKnown known (these ++ those)
both_known known these those first second call_back among =
    ⊎_elim
    (λ (x : Contains these call_back). first call_back x)
    (λ (x : Contains those call_back). second call_back x)
    (Contains-append_cases these those call_back among)

-- A call back was left, or there was no room.
abbrev pub IsLeft : CallBack → HeldCallBacks → HeldCallBacks → Result ⊤ CallBack → Type 0
IsLeft one old new result = MatchResult result (λ done. new ≡ holds_more old (one ∷ []) [])
    (λ back. (back ≡ one) × (new ≡ old))

pub left_stays : (one : CallBack) (old new : HeldCallBacks) (result : Result ⊤ CallBack) → IsLeft one old new result
    → (new.queue ≡ old.queue) × (new.parts ≡ old.parts) × (new.took ≡ old.took)
left_stays one old new (Ok done) is = (
  ap (λ (h : HeldCallBacks). h.queue) is,
  ap (λ (h : HeldCallBacks). h.parts) is,
  ap (λ (h : HeldCallBacks). h.took) is ∙ append-nil old.took,
)
left_stays one old new (Err back) is = (
  ap (λ (h : HeldCallBacks). h.queue) is.1,
  ap (λ (h : HeldCallBacks). h.parts) is.1,
  ap (λ (h : HeldCallBacks). h.took) is.1,
)

pub left_known : (known : Option FetchLog) (one : CallBack) (old new : HeldCallBacks) (result : Result ⊤ CallBack)
    → IsLeft one old new result → AreKnown known old.left → AreKnown known (one ∷ []) → AreKnown known new.left
left_known known one old new (Ok done) is before more =
    subst (AreKnown known) (sym (ap (λ (h : HeldCallBacks). h.left) is))
    (both_known known old.left (one ∷ []) before more)
left_known known one old new (Err back) is before more =
    subst (AreKnown known) (sym (ap (λ (h : HeldCallBacks). h.left) is.1)) before
