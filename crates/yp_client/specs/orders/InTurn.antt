-- What is done in turn, where a fault ends it. A step has an outcome, and a state before and behind it.
use Rattle.std.specs.Prelude.{◌≡◌, List, [], ◌∷◌, ◌++◌, Ok, Err}
use Rattle.yp_client.specs.declared.query.fault.QueryFault.{QueryFault}
use Rattle.yp_client.specs.query.Asked.{Outcome, IsInMemory}

-- a step
abbrev pub Step : Type 0 → Type 0 → Type 1
Step V S = Outcome V → S → S → Type 0

-- The step was made for each of these in turn, and came to these values.
abbrev pub EachMade : {A V S : Type 0} → (A → Step V S) → List A → List V → S → S → Type 0
EachMade step [] [] old new = new ≡ old
EachMade {A} {V} {S} step (item ∷ items) (value ∷ values) old new =
    (mid : S) × step item (Ok value) old mid × EachMade step items values mid new
EachMade step items values old new = ⊥

-- It came to values for those of a front, and for the next to a fault, behind which nothing was done.
pub record StopsAt {A V S : Type 0} (step : A → Step V S) (items : List A) (fault : QueryFault) (old new : S)
    : Type 0 where
  pub front : List A
  pub item : A
  pub rest : List A
  pub whole : items ≡ front ++ item ∷ rest
  pub values : List V
  pub mid : S
  pub made : EachMade step front values old mid
  pub stops : step item (Err fault) mid new

-- the same step for each of these, up to the first fault
abbrev pub InTurn : {A V S : Type 0} → (A → Step V S) → List A → Step (List V) S
InTurn step items (Ok values) old new = EachMade step items values old new
InTurn step items (Err fault) old new = StopsAt step items fault old new

-- the step that the value of one before it has behind it, or nothing more behind a fault
abbrev pub Follows : {A V S : Type 0} → (A → Step V S) → Outcome A → Step V S
Follows next (Ok value) outcome old new = next value outcome old new
Follows next (Err fault) outcome old new = (outcome ≡ Err fault) × (new ≡ old)

-- one step, and behind it that of its value
pub record Then {A V S : Type 0} (first : Step A S) (next : A → Step V S) (outcome : Outcome V) (old new : S)
    : Type 0 where
  pub said : Outcome A
  pub mid : S
  pub begins : first said old mid
  pub follows : Follows next said outcome mid new

-- nothing is done, and the outcome is this value
abbrev pub Comes : {V S : Type 0} → V → Step V S
Comes value outcome old new = (outcome ≡ Ok value) × (new ≡ old)

-- a step, behind which memory may run out for what it came to
abbrev pub InMemory : {V S : Type 0} → Step V S → Step V S
InMemory {V} step outcome old new = (said : Outcome V) × step said old new × IsInMemory said outcome
