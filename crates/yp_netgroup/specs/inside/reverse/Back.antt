-- The groups from which others are reached, while they are looked for.
use Rattle.std.specs.Prelude.{ℕ, ◌<◌, List, [], slice_index_or, Contains}

-- the starts, and each group under one that is led to
pub data LeadsBack (under : List ℕ → List (List ℕ)) (starts : List (List ℕ)) : List ℕ → Type 0 where
  Start : {name : List ℕ} → Contains starts name → LeadsBack under starts name
  Back : {via name : List ℕ} → LeadsBack under starts via → Contains (under via) name → LeadsBack under starts name

-- Names that are met are led to, and the starts are met. Under the first so many all are met.
pub record IsMetBack (under : List ℕ → List (List ℕ)) (starts met : List (List ℕ)) (read : ℕ) : Type 0 where
  pub reached : (name : List ℕ) → Contains met name → LeadsBack under starts name
  pub started : (name : List ℕ) → Contains starts name → Contains met name
  pub closed : (k : ℕ) (name : List ℕ) → k < read → Contains (under (slice_index_or met k [])) name → Contains met name
