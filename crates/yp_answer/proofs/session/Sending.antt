-- A message that is sent in one put and its end.
use Rattle.std.proofs.Common.{◌≡◌, ℕ, ◌+◌, List, [], ◌++◌, length, take, Option, Some, None, Result, Ok, Err, sym}
use Rattle.std.specs.Prelude.{OnOk, OnErr}
use Rattle.std.specs.Io.KnownBytes.{Appends}
use Rattle.std.proofs.KnownBytes.{Appends-trans}
use Rattle.std.proofs.lemmas.List.{append-nil}
use Rattle.std.proofs.Math.Seq.{take-append-add}
use Rattle.yp_rpc.specs.Records.{sent}

-- what holds, holds after an error
pub on_err : {T E : Type 0} (P : Type 0) (r : Result T E) → P → OnErr r P
on_err P (Ok x) h = tt
on_err P (Err e) h = h

-- two that hold together
pub on_ok_two : {T E P Q R : Type 0} (r : Result T E) → (P → Q → R) → OnOk r P → OnOk r Q → OnOk r R
on_ok_two (Ok x) f p q = f p q
on_ok_two (Err e) f p q = tt

pub on_err_two : {T E P Q R : Type 0} (r : Result T E) → (P → Q → R) → OnErr r P → OnErr r Q → OnErr r R
on_err_two (Ok x) f p q = tt
on_err_two (Err e) f p q = f p q

-- nothing was appended
pub Appends-none : (a : Option (List ℕ)) → Appends a a []
Appends-none None = tt
Appends-none (Some xs) = sym (append-nil xs)

-- nothing before and nothing behind
pub alone : (before message : List ℕ) → before ≡ [] → before ++ message ++ [] ≡ message
alone before message none = rw none (append-nil message)

-- a front of what is sent, where the rest was to be sent later
pub front_sent : (old mid new : Option (List ℕ)) (out message rest : List ℕ) (n : ℕ) → Appends old mid out → Appends mid new (take n (sent rest))
    → sent message ≡ out ++ sent rest → Appends old new (take (length out + n) (sent message))
front_sent old mid new out message rest n first second whole =
    let both : take (length out + n) (sent message) ≡ out ++ take n (sent rest) = rw whole (take-append-add out (sent rest) n) in
    rw both (Appends-trans old mid new out (take n (sent rest)) first second)
