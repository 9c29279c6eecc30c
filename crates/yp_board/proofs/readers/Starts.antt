-- A log that begins with versions, one map after another.
use Rattle.std.proofs.Common.{◌≡◌, ℕ, ◌+◌, ◌<◌, cond, eqb, List, [], ◌∷◌, ◌++◌, fold, length, get_or, drop, Option}
use Rattle.std.proofs.Common.{Some, None, refl, sym, ap, ◌∙◌, arith, zero, suc, append_assoc, ◌≤◌}
use Rattle.std.proofs.lemmas.List.{append-nil, drop_more, drop_all}
use Rattle.std.proofs.lemmas.Bool.Decides.{nat_tests}
use Rattle.yp_version.specs.Versions.{MapVersion}
use Rattle.yp_board.specs.Logs.{Log, starts}
use Rattle.yp_board.specs.inside.readers.Tables.{TableHolds}

-- what is shown of a map after entries
abbrev pub shown_after : ℕ → Option MapVersion → Log → Option MapVersion
shown_after map so_far log = fold (λ before entry. cond (eqb entry.0 map) (Some entry.1) before) so_far log

shown_other : (n map : ℕ) (version : MapVersion) (before : Option MapVersion) → n < map
    → cond (eqb n map) (Some version) before ≡ before
shown_other n map version before h = grind (arith, nat_tests)

shown_same : (n map : ℕ) (version : MapVersion) (before : Option MapVersion) → map ≡ n
    → cond (eqb n map) (Some version) before ≡ Some version
shown_same n map version before h = grind (arith, nat_tests)

-- later maps don't touch it
past : (map n : ℕ) (before : Option MapVersion) (versions : List (Option MapVersion)) → map < n
    → shown_after map before (starts n versions) ≡ before
past map n before [] h = refl
past map n before (None ∷ versions) h = past map (n + 1) before versions (omega arith)
past map n before (Some version ∷ versions) h =
    let other : cond (eqb n map) (Some version) before ≡ before = grind (arith, nat_tests) in
    past map (n + 1) (cond (eqb n map) (Some version) before) versions (omega arith) ∙ other

-- each map shows the version that the log begins with, and a number past them shows none
starts_from : (map n j : ℕ) (versions : List (Option MapVersion)) → map ≡ n + j
    → get_or versions j None ≡ shown_after map None (starts n versions)
starts_from map n zero [] e = refl
starts_from map n (suc j) [] e = refl
starts_from map n zero (None ∷ versions) e = sym (past map (n + 1) None versions (omega arith))
starts_from map n zero (Some version ∷ versions) e =
    sym (past map (n + 1) (cond (eqb n map) (Some version) None) versions (omega arith)
    ∙ shown_same n map version None (omega arith))
starts_from map n (suc j) (None ∷ versions) e = starts_from map (n + 1) j versions (omega arith)
starts_from map n (suc j) (Some version ∷ versions) e =
    starts_from map (n + 1) j versions (omega arith)
    ∙ sym (ap (λ before. shown_after map before (starts (n + 1) versions))
    (shown_other n map version None (omega arith)))

pub holds_starts : (versions : List (Option MapVersion)) → TableHolds versions (starts 0 versions)
holds_starts versions map = starts_from map 0 map versions (omega arith)

-- the log so far, and the versions that are left
starts_drop : (log : Log) (versions : List (Option MapVersion)) (n : ℕ) (version : Option MapVersion)
    → log ++ starts n (version ∷ versions) ≡ (log ++ starts n (version ∷ [])) ++ starts (n + 1) versions
starts_drop log versions n None = ap (λ front. front ++ starts (n + 1) versions) (sym (append-nil log))
starts_drop log versions n (Some version) = sym (append_assoc log ((n, version) ∷ []) (starts (n + 1) versions))

-- one more map
pub begun_more : (log longer all : Log) (versions : List (Option MapVersion)) (n : ℕ) (version : Option MapVersion)
    → n < length versions → get_or versions n version ≡ version → longer ≡ log ++ starts n (version ∷ [])
    → log ++ starts n (drop n versions) ≡ all → longer ++ starts (n + 1) (drop (n + 1) versions) ≡ all
begun_more log longer all versions n version h at e so_far =
    let rest = drop (n + 1) versions in
    let next : drop n versions ≡ version ∷ rest
    = drop_more versions n version h ∙ ap (λ first. first ∷ rest) at in
    ap (λ front. front ++ starts (n + 1) rest) e
    ∙ sym (starts_drop log rest n version)
    ∙ sym (ap (λ left. log ++ starts n left) next)
    ∙ so_far

-- no map is left
pub begun_all : (log all : Log) (versions : List (Option MapVersion)) (n : ℕ) → length versions ≤ n
    → log ++ starts n (drop n versions) ≡ all → log ≡ all
begun_all log all versions n h so_far =
    sym (append-nil log) ∙ sym (ap (λ left. log ++ starts n left) (drop_all n versions h)) ∙ so_far
