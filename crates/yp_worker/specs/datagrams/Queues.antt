-- What was left in a queue and what was taken over from there, item by item.
use Rattle.std.specs.Prelude.{◌≡◌, ℕ, ◌+◌, List, [], ◌∷◌}

-- the weights of items, added up
abbrev pub weigh : {A : Type 0} → (A → ℕ) → List A → ℕ
weigh weight [] = 0
weigh weight (one ∷ more) = weight one + weigh weight more

-- However items are weighed, these weigh what those weigh: each is among these as often as among those.
abbrev pub WeighTheSame : {A : Type 0} → List A → List A → Type 0
WeighTheSame {A} these those = (weight : A → ℕ) → weigh weight these ≡ weigh weight those
