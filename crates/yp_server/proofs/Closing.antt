-- What is accepted once all workers have ended.
use Rattle.std.proofs.Common.{◌≡◌, inl, inr, ℕ, Bool, true, false, Result, Ok, Err, IfOk, sym, ◌∙◌, arith}
use Rattle.yp_worker.specs.Receptions.{ListenTells, IsListenerState}

-- as many as were to be, where the listener hasn't failed
pub all_accepted : {T E : Type 0} (r : Result T E) (old : ListenTells) (now : T → ListenTells) (connections : T → ℕ)
    (failed : T → Bool) → IfOk r (λ s. IsListenerState old (now s) (connections s) (failed s) 0 1)
    → IfOk r (λ s. failed s ≡ false → (now s).accepted ≡ old.most)
all_accepted (Ok s) old now connections failed kept = λ fine. elim (kept.over (omega arith)) [
  | inl fails ↦ absurd (let no : true ≡ false = sym fails ∙ fine in cc)
  | inr all ↦ all ∙ kept.most
]
all_accepted (Err e) old now connections failed kept = tt
