-- A log that begins with versions, one map after another.
use Rattle.std.proofs.Common.{◌≡◌, ℕ, ◌+◌, ◌<◌, cond, eqb, List, [], ◌∷◌, ◌++◌, fold, length, get_or, take, Option}
use Rattle.std.proofs.Common.{Some, None, refl, sym, ap, ◌∙◌, arith, zero, suc, add-zero}
use Rattle.std.proofs.lemmas.List.{take_more}
use Rattle.std.proofs.lemmas.Bool.Decides.{nat_tests}
use Rattle.std.proofs.lemmas.Grind.{common_steps}
use Rattle.yp_version.specs.Versions.{MapVersion}
use Rattle.yp_board.specs.Logs.{Log, shown, starts}

pub starts-append : (n : ℕ) (xs ys : List (Option MapVersion))
    → starts n (xs ++ ys) ≡ starts n xs ++ starts (n + length xs) ys
starts-append n [] ys = rw add-zero refl
starts-append n (None ∷ xs) ys =
    let next : n + suc (length xs) ≡ (n + 1) + length xs = omega arith in
    starts-append (n + 1) xs ys ∙ ap (λ k. starts (n + 1) xs ++ starts k ys) (sym next)
starts-append n (Some version ∷ xs) ys =
    let next : n + suc (length xs) ≡ (n + 1) + length xs = omega arith in
    ap (λ rest. (n, version) ∷ rest) (starts-append (n + 1) xs ys
    ∙ ap (λ k. starts (n + 1) xs ++ starts k ys) (sym next))

-- one more map
pub starts-more : (xs : List (Option MapVersion)) (i : ℕ) (d : Option MapVersion) → i < length xs
    → starts 0 (take (i + 1) xs) ≡ starts 0 (take i xs) ++ starts i (get_or xs i d ∷ [])
starts-more xs i d h =
    let len : length (take i xs) ≡ i = grind (arith, common_steps) in
    ap (starts 0) (take_more xs i d h)
    ∙ starts-append 0 (take i xs) (get_or xs i d ∷ [])
    ∙ ap (λ k. starts 0 (take i xs) ++ starts k (get_or xs i d ∷ [])) (ap (λ m. 0 + m) len ∙ omega arith)

-- what is shown of a map after entries
abbrev pub shown_after : ℕ → Option MapVersion → Log → Option MapVersion
shown_after k so_far log = fold (λ before entry. cond (eqb entry.0 k) (Some entry.1) before) so_far log

shown_other : (n k : ℕ) (version : MapVersion) (before : Option MapVersion) → n < k
    → cond (eqb n k) (Some version) before ≡ before
shown_other n k version before h = grind (arith, nat_tests)

shown_same : (n k : ℕ) (version : MapVersion) (before : Option MapVersion) → k ≡ n
    → cond (eqb n k) (Some version) before ≡ Some version
shown_same n k version before h = grind (arith, nat_tests)

-- later maps don't touch it
past : (k n : ℕ) (before : Option MapVersion) (versions : List (Option MapVersion)) → k < n
    → shown_after k before (starts n versions) ≡ before
past k n before [] h = refl
past k n before (None ∷ versions) h = past k (n + 1) before versions (omega arith)
past k n before (Some version ∷ versions) h =
    let other : cond (eqb n k) (Some version) before ≡ before = grind (arith, nat_tests) in
    past k (n + 1) (cond (eqb n k) (Some version) before) versions (omega arith) ∙ other

-- each map shows the version that the log begins with
pub shown-starts_from : (k n j : ℕ) (versions : List (Option MapVersion)) → k ≡ n + j → j < length versions
    → shown_after k None (starts n versions) ≡ get_or versions j None
shown-starts_from k n j [] e h = absurd (omega arith)
shown-starts_from k n zero (None ∷ versions) e h = past k (n + 1) None versions (omega arith)
shown-starts_from k n zero (Some version ∷ versions) e h =
    past k (n + 1) (cond (eqb n k) (Some version) None) versions (omega arith)
    ∙ shown_same n k version None (omega arith)
shown-starts_from k n (suc j) (None ∷ versions) e h = shown-starts_from k (n + 1) j versions (omega arith) (omega arith)
shown-starts_from k n (suc j) (Some version ∷ versions) e h =
    ap (λ before. shown_after k before (starts (n + 1) versions)) (shown_other n k version None (omega arith))
    ∙ shown-starts_from k (n + 1) j versions (omega arith) (omega arith)

pub shown-starts : (k : ℕ) (versions : List (Option MapVersion)) → k < length versions
    → shown k (starts 0 versions) ≡ get_or versions k None
shown-starts k versions h = shown-starts_from k 0 k versions (omega arith) h
