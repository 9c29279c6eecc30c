-- Replies that are neither bytes nor silence.
use Rattle.std.proofs.Common.{◌≡◌, ℕ, Bool, true, false, cond, List, Result, Ok, Err}
use Rattle.yp_xdr.specs.declared.fault.XdrFault.{XdrFault}
use Rattle.yp_answer.specs.Reply.{Response, Silence, Bytes, with_arguments}

-- neither bytes nor silence
pub record IsSpecial (target : Response) : Type 0 where
  pub no_bytes : (bytes : List ℕ) → Bytes bytes ≡ target → ⊥
  pub no_silence : Silence ≡ target → ⊥

-- arguments that get bytes get nothing else
pub not_of_bytes : {V : Type 0} (target : Response) (number : ℕ) (read : Result V XdrFault) (bytes_of : V → List ℕ) → IsSpecial target
    → with_arguments number read (λ v. Bytes (bytes_of v)) ≡ target → ⊥
not_of_bytes target number (Ok read) bytes_of special e = special.no_bytes _ e
not_of_bytes target number (Err fault) bytes_of special e = special.no_bytes _ e

-- what is special is so by the arguments
pub of_arguments : {V : Type 0} (target : Response) (number : ℕ) (read : Result V XdrFault) (reply_to : V → Response) (P : Type 0) → IsSpecial target
    → with_arguments number read reply_to ≡ target → ((v : V) → reply_to v ≡ target → P) → P
of_arguments target number (Ok read) reply_to P special e h = h read e
of_arguments target number (Err fault) reply_to P special e h = absurd (special.no_bytes _ e)

-- bytes or silence aren't special
pub not_of_either : (target : Response) (some : Bool) (bytes : List ℕ) → IsSpecial target → cond some (Bytes bytes) Silence ≡ target → ⊥
not_of_either target true bytes special e = special.no_bytes bytes e
not_of_either target false bytes special e = special.no_silence e
