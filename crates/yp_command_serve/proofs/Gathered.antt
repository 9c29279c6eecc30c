-- A reply that is gathered from its pieces.
use Rattle.std.proofs.Common.{◌≡◌, ℕ, ◌+◌, ◌-◌, ◌<◌, List, [], ◌++◌, length, take, drop, min, refl, sym, ap, ◌∙◌, arith, inl, inr}
use Rattle.std.proofs.lemmas.List.{length-drop, take-append-drop, nil_from_length}
use Rattle.std.proofs.lemmas.Bool.{cases_lt}
use Rattle.std.proofs.lemmas.Grind.{flat_map-append}
use Rattle.std.proofs.Math.Seq.{drop-nil, take-nil}
use Rattle.yp_rpc.specs.Records.{joined}
use Rattle.yp_answer.specs.inside.Streams.{GivesParts}

-- what was given, and what is left
pub gives_joined : (bytes : List ℕ) (old new : List (List ℕ)) → GivesParts bytes old new → joined old ≡ bytes ++ joined new
gives_joined bytes old new h =
    ap joined (sym (take-append-drop h.count old)) ∙ flat_map-append (λ (part : List ℕ). part) (take h.count old) (drop h.count old)
    ∙ rw (h.given, h.left) refl

-- behind the last part there is none
pub gives_none : (bytes : List ℕ) (old new : List (List ℕ)) → GivesParts bytes old new → old ≡ [] → new ≡ []
gives_none bytes old new h none = h.left ∙ ap (λ (parts : List (List ℕ)). drop h.count parts) none ∙ drop-nil h.count

-- no bytes of no parts
none_given : (count : ℕ) (old : List (List ℕ)) → count ≡ 0 → length (joined (take count old)) ≡ 0
none_given count old none = rw none refl

-- where bytes were given, fewer parts are left
gives_fewer : (bytes : List ℕ) (old new : List (List ℕ)) → GivesParts bytes old new → 0 < length bytes → length new < length old
gives_fewer bytes old new h some =
    let len : length bytes ≡ length (joined (take h.count old)) = ap length h.given in
    let left : length new ≡ length old - h.count = ap length h.left ∙ length-drop h.count old in
    elim (cases_lt 0 h.count) [
      | inl lt ↦ elim (cases_lt 0 (length old)) [
        | inl there ↦ omega (arith, left)
        | inr empty ↦
            let none : old ≡ [] = nil_from_length old (omega arith) in
            let nothing : length (joined (take h.count old)) ≡ 0 = rw none (ap (λ (parts : List (List ℕ)). length (joined parts)) (take-nil h.count)) in
            absurd (omega (arith, len, nothing))
      ]
      | inr le ↦ absurd (omega (arith, len, none_given h.count old (omega arith)))
    ]

-- a piece makes fewer parts, or ends them
pub smaller : (len next : ℕ) (bytes : List ℕ) (old new : List (List ℕ)) → GivesParts bytes old new → length bytes ≡ next → 0 < len → length new + min next 1 < length old + min len 1
smaller len next bytes old new h is some =
    elim (cases_lt 0 next) [
      | inl lt ↦ omega (arith, gives_fewer bytes old new h (omega arith))
      | inr le ↦ omega (arith, ap length h.left ∙ length-drop h.count old)
    ]
