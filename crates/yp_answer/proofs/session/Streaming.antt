-- A message that is sent piece by piece.
use Rattle.std.proofs.Common.{◌≡◌, ℕ, ◌+◌, ◌-◌, ◌<◌, List, [], ◌++◌, length, take, drop, min, Option, refl, sym, ap, ◌∙◌, append_assoc, arith, inl, inr}
use Rattle.std.specs.Io.KnownBytes.{Appends}
use Rattle.std.proofs.KnownBytes.{Appends-trans}
use Rattle.std.proofs.lemmas.List.{append-nil, length-append, length-drop, take-append-drop, nil_from_length}
use Rattle.std.proofs.lemmas.Bool.{cases_lt}
use Rattle.std.proofs.lemmas.Grind.{flat_map-append}
use Rattle.std.proofs.Math.Seq.{drop-nil, take-nil}
use Rattle.yp_rpc.specs.Records.{sent, joined}
use Rattle.yp_answer.specs.inside.Streams.{GivesParts}
use Rattle.yp_answer.proofs.session.Sending.{Appends-none, front_sent}

-- Bytes of a record were put. What is sent of them and more is what went out, and what is sent of what waits and more.
pub record HasPut (old new : Option (List ℕ)) (put waits : List ℕ) : Type 0 where
  pub out : List ℕ
  pub gone : Appends old new out
  pub rest : (more : List ℕ) → 0 < length (waits ++ more) → sent (put ++ more) ≡ out ++ sent (waits ++ more)

pub HasPut-none : (output : Option (List ℕ)) (waits : List ℕ) → waits ≡ [] → HasPut output output [] waits
HasPut-none output waits idle = record { out = []; gone = Appends-none output; rest = λ more some. ap (λ (w : List ℕ). sent (w ++ more)) (sym idle) }

-- one piece more
pub HasPut-more : (a b c : Option (List ℕ)) (put waits piece now out : List ℕ) → HasPut a b put waits → 0 < length piece → Appends b c out
    → ((more : List ℕ) → 0 < length (now ++ more) → sent (waits ++ piece ++ more) ≡ out ++ sent (now ++ more)) → HasPut a c (put ++ piece) now
HasPut-more a b c put waits piece now out before some gone rest = record {
  out = before.out ++ out;
  gone = Appends-trans a b c before.out out before.gone gone;
  rest = λ more waiting.
      let there : 0 < length (waits ++ (piece ++ more)) = omega (arith, length-append waits (piece ++ more), length-append piece more) in
      ap sent (append_assoc put piece more) ∙ before.rest (piece ++ more) there
      ∙ ap (λ (w : List ℕ). before.out ++ sent w) (sym (append_assoc waits piece more)) ∙ ap (λ (w : List ℕ). before.out ++ w) (rest more waiting)
      ∙ sym (append_assoc before.out out (sent (now ++ more)));
}

-- a front of what is sent of the whole, where a piece didn't go out whole
pub put_front : (a b c : Option (List ℕ)) (put waits piece more whole : List ℕ) (n : ℕ) → HasPut a b put waits → 0 < length piece → put ++ (piece ++ more) ≡ whole
    → Appends b c (take n (sent (waits ++ piece ++ more))) → (m : ℕ) × Appends a c (take m (sent whole))
put_front a b c put waits piece more whole n before some parts gone =
    let there : 0 < length (waits ++ (piece ++ more)) = omega (arith, length-append waits (piece ++ more), length-append piece more) in
    let both : sent whole ≡ before.out ++ sent (waits ++ piece ++ more) =
    ap sent (sym parts) ∙ before.rest (piece ++ more) there ∙ ap (λ (w : List ℕ). before.out ++ sent w) (sym (append_assoc waits piece more)) in
    (length before.out + n, front_sent a b c before.out whole (waits ++ piece ++ more) n before.gone gone both)

-- all was put, and what waits is all that is still to be sent
pub put_whole : (a b : Option (List ℕ)) (put waits whole : List ℕ) (before : HasPut a b put waits) → 0 < length waits → put ≡ whole → sent whole ≡ before.out ++ sent waits
put_whole a b put waits whole before some all =
    let there : 0 < length (waits ++ []) = rw append-nil some in
    ap sent (sym all) ∙ ap sent (sym (append-nil put)) ∙ before.rest [] there ∙ ap (λ (w : List ℕ). before.out ++ sent w) (append-nil waits)

-- ---- parts that are given

-- what was given, and what is left
pub gives_joined : (bytes : List ℕ) (old new : List (List ℕ)) → GivesParts bytes old new → joined old ≡ bytes ++ joined new
gives_joined bytes old new h =
    ap joined (sym (take-append-drop h.count old)) ∙ flat_map-append (λ (part : List ℕ). part) (take h.count old) (drop h.count old)
    ∙ rw (h.given, h.left) refl

-- behind the last part there is none
pub gives_none : (bytes : List ℕ) (old new : List (List ℕ)) → GivesParts bytes old new → old ≡ [] → new ≡ []
gives_none bytes old new h none = h.left ∙ ap (λ (parts : List (List ℕ)). drop h.count parts) none ∙ drop-nil h.count

-- no bytes of no parts
none_given : (count : ℕ) (old : List (List ℕ)) → count ≡ 0 → length (joined (take count old)) ≡ 0
none_given count old none = rw none refl

-- where bytes were given, fewer parts are left
pub gives_fewer : (bytes : List ℕ) (old new : List (List ℕ)) → GivesParts bytes old new → 0 < length bytes → length new < length old
gives_fewer bytes old new h some =
    let len : length bytes ≡ length (joined (take h.count old)) = ap length h.given in
    let left : length new ≡ length old - h.count = ap length h.left ∙ length-drop h.count old in
    elim (cases_lt 0 h.count) [
      | inl lt ↦ elim (cases_lt 0 (length old)) [
        | inl there ↦ omega (arith, left)
        | inr empty ↦
            let none : old ≡ [] = nil_from_length old (omega arith) in
            let nothing : length (joined (take h.count old)) ≡ 0 = rw none (ap (λ (parts : List (List ℕ)). length (joined parts)) (take-nil h.count)) in
            absurd (omega (arith, len, nothing))
      ]
      | inr le ↦ absurd (omega (arith, len, none_given h.count old (omega arith)))
    ]

-- a piece that is put makes fewer parts, or ends them
pub smaller : (len next : ℕ) (bytes : List ℕ) (old new : List (List ℕ)) → GivesParts bytes old new → length bytes ≡ next → 0 < len → length new + min next 1 < length old + min len 1
smaller len next bytes old new h is some =
    elim (cases_lt 0 next) [
      | inl lt ↦ omega (arith, gives_fewer bytes old new h (omega arith))
      | inr le ↦ omega (arith, ap length h.left ∙ length-drop h.count old)
    ]

-- nothing is left behind what was put
pub all_put : (put bytes whole : List ℕ) (parts : List (List ℕ)) → length bytes ≡ 0 → parts ≡ [] → put ++ (bytes ++ joined parts) ≡ whole → put ≡ whole
all_put put bytes whole parts none last h =
    let empty : bytes ≡ [] = nil_from_length bytes none in
    sym (append-nil put) ∙ (rw (empty, last) at h)
