-- A message that is sent in one put and its end.
use Rattle.std.proofs.Common.{◌≡◌, ℕ, ◌+◌, List, [], ◌++◌, length, take, Option, Result, Ok, Err}
use Rattle.std.specs.Prelude.{OnErr}
use Rattle.std.specs.Io.KnownBytes.{Appends}
use Rattle.std.proofs.KnownBytes.{Appends-trans}
use Rattle.std.proofs.lemmas.List.{append-nil}
use Rattle.std.proofs.Math.Seq.{take-append-add}
use Rattle.yp_rpc.specs.Records.{sent}

-- what holds, holds after an error
pub on_err : {T E : Type 0} (P : Type 0) (r : Result T E) → P → OnErr r P
on_err P (Ok x) h = tt
on_err P (Err e) h = h

-- nothing before and nothing behind
pub alone : (before message : List ℕ) → before ≡ [] → before ++ message ++ [] ≡ message
alone before message none = rw none (append-nil message)

-- a front of what is sent, where the rest was to be sent later
pub front_sent : (old mid new : Option (List ℕ)) (out message rest : List ℕ) (n : ℕ) → Appends old mid out
    → Appends mid new (take n (sent rest))
    → sent message ≡ out ++ sent rest → Appends old new (take (length out + n) (sent message))
front_sent old mid new out message rest n first second whole =
    let both : take (length out + n) (sent message) ≡ out ++ take n (sent rest) =
    rw whole (take-append-add out (sent rest) n) in
    rw both (Appends-trans old mid new out (take n (sent rest)) first second)
