-- The rule of a queue of call backs, and what a worker holds of that.
use Rattle.std.specs.Prelude.{◌≡◌, ◌⊎◌, ℕ, ◌+◌, List, [], ◌∷◌, ◌++◌, Contains}
use mathlib.Core.Option.{some}
use lib.ListN.{get_elem?}
use Rattle.yp_worker.specs.datagrams.Queues.{weigh}
use Rattle.yp_worker.specs.inside.Queues.{all_parts}
use Rattle.yp_host.specs.declared.workers.call_backs.CallBack.{CallBack}
use Rattle.yp_host.specs.declared.workers.call_backs.Dealt.{Dealt}

abbrev pub dealt : ℕ → List CallBack → List CallBack → Dealt
dealt parts left took = record { parts = parts; left = left; took = took }

-- the one who has all parts, before anything was left
abbrev pub dealt_all : Dealt
dealt_all = dealt all_parts [] []

-- one number of each pass, added up
abbrev pub total : (Dealt → ℕ) → List Dealt → ℕ
total f [] = 0
total f (v ∷ views) = f v + total f views

-- A pass without a part has left nothing and taken nothing over.
abbrev pub IdleIsEmpty : List Dealt → Type 0
IdleIsEmpty views = (seat : ℕ) (v : Dealt) → get_elem? views seat ≡ some v → v.parts ≡ 0 → (v.left ≡ []) × (v.took ≡ [])

-- a call back is among some of those of one pass
abbrev pub IsOfOne : (Dealt → List CallBack) → List Dealt → CallBack → Type 0
IsOfOne f views one = (seat : ℕ) × (v : Dealt) × (get_elem? views seat ≡ some v) × Contains (f v) one

-- What was left is what was taken over and what waits, however it is weighed, and whatever was taken over or waits was
-- left.
pub record IsFair (items : List CallBack) (views : List Dealt) : Type 0 where
  pub parts : total (λ v. v.parts) views ≡ all_parts
  pub balanced : (weight : CallBack → ℕ) → total (λ v. weigh weight v.left) views
      ≡ total (λ v. weigh weight v.took) views + weigh weight items
  pub idle : IdleIsEmpty views
  pub among : (one : CallBack) → IsOfOne (λ v. v.took) views one ⊎ Contains items one
      → IsOfOne (λ v. v.left) views one

-- what the one who has all parts learns
abbrev pub Balances : Dealt → List CallBack → Type 0
Balances v items = v.parts ≡ all_parts
    → ((weight : CallBack → ℕ) → weigh weight v.left ≡ weigh weight v.took + weigh weight items)
    × ((one : CallBack) → Contains v.took one ⊎ Contains items one → Contains v.left one)

-- a call back was left, or taken over
abbrev pub Leaves : Dealt → CallBack → Dealt → Type 0
Leaves v one w = w ≡ dealt v.parts (v.left ++ one ∷ []) v.took

abbrev pub TakesOver : Dealt → CallBack → Dealt → Type 0
TakesOver v one w = w ≡ dealt v.parts v.left (v.took ++ one ∷ [])
