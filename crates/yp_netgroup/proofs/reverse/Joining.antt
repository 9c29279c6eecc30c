-- Names with commas between.
use Rattle.std.proofs.Common.{◌≡◌, ℕ, List, [], ◌∷◌, ◌++◌, sym, ap, append-nil}
use Rattle.std.specs.Prelude.{flat_map}
use Rattle.std.specs.List.{join_with_byte}

-- a comma, and a name
abbrev pub comma : List ℕ → List ℕ
comma name = 44 ∷ name

pub joined : (first : List ℕ) (rest : List (List ℕ)) → join_with_byte 44 (first ∷ rest) ≡ first ++ flat_map comma rest
joined first [] = sym (append-nil first)
joined first (next ∷ rest) = ap (λ more. first ++ 44 ∷ more) (joined next rest)
