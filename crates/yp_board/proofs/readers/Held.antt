-- The last versions in a log with one pair more.
use Rattle.std.proofs.Common.{◌≡◌, ◌≢◌, ℕ, ◌<◌, cond, eqb, Bool, true, false, List, [], ◌∷◌, ◌++◌, length, get_or}
use Rattle.std.proofs.Common.{set, Option, Some, None, refl, sym, ◌∙◌, arith}
use Rattle.std.proofs.lemmas.List.{get_or-set_other}
use Rattle.std.proofs.lemmas.List.Sums.{fold-append}
use Rattle.std.proofs.lemmas.Grind.{get_or-set_at}
use Rattle.std.proofs.lemmas.Bool.Decides.{nat_tests}
use Rattle.yp_version.specs.Versions.{MapVersion}
use Rattle.yp_board.specs.Logs.{Log, shown}
use Rattle.yp_board.specs.inside.readers.Tables.{TableHolds}

-- a pair is shown of its own map alone
pub shown_more : (log : Log) (map number : ℕ) (version : MapVersion)
    → shown map (log ++ (number, version) ∷ []) ≡ cond (eqb number map) (Some version) (shown map log)
shown_more log map number version =
    fold-append (λ (so_far : Option MapVersion) (entry : ℕ × MapVersion). cond (eqb entry.0 map) (Some entry.1) so_far)
    None log ((number, version) ∷ [])

held_at : (versions : List (Option MapVersion)) (log : Log) (number map : ℕ) (version : MapVersion) (b : Bool)
    → eqb number map ≡ b → number < length versions → TableHolds versions log
    → get_or (set versions number (Some version)) map None ≡ cond b (Some version) (shown map log)
held_at versions log number map version true is within holds =
    let same : map ≡ number = grind (arith, nat_tests) in
    get_or-set_at versions number map (Some version) None same within
held_at versions log number map version false is within holds =
    let other : map ≢ number = λ same. absurd (grind (arith, nat_tests)) in
    get_or-set_other versions number map (Some version) None other ∙ holds map

pub holds_more : (versions : List (Option MapVersion)) (log : Log) (number : ℕ) (version : MapVersion)
    → number < length versions → TableHolds versions log
    → TableHolds (set versions number (Some version)) (log ++ (number, version) ∷ [])
holds_more versions log number version within holds map =
    held_at versions log number map version (eqb number map) refl within holds
    ∙ sym (shown_more log map number version)
