-- The rule of the queue between servers of datagrams and a carrier.
use Rattle.std.specs.Prelude.{◌≡◌, ◌≤◌, ℕ, ◌+◌, ◌^◌, true, List, [], ◌∷◌, ◌++◌, length, ⊤}
use mathlib.Core.Option.{some}
use lib.ListN.{get_elem?}
use Rattle.yp_answer.specs.declared.procedure.Path.TheVariants.{Datagram}
use Rattle.yp_answer.specs.inside.session.Errands.{IsDue}
use Rattle.yp_answer.specs.session.Makes.{may_make}
use Rattle.yp_rpc.specs.Turns.{datagram_max}
use Rattle.yp_worker.specs.datagrams.Mailing.{Deferred, Transfer, Call}
use Rattle.yp_worker.specs.datagrams.Queues.{weigh}
use Rattle.yp_worker.specs.declared.datagrams.deferred.Work.{Work}
use Rattle.yp_worker.specs.declared.datagrams.deferred.Work.TheVariants as work
use Rattle.yp_board.specs.Logs.{Log}

-- what one pass knows: its parts of the right to know the whole, what was left through it, and what was taken over
-- through it
pub record Dealt : Type 0 where
  pub parts : ℕ
  pub left : List Deferred
  pub took : List Deferred

-- what work is that was left, where fronts tell their logs so
abbrev pub deferred_as : {F : Type 0} → (F → Log) → Work F → Deferred
deferred_as kept (work.Transfer errand peer) = Transfer (errand, peer)
deferred_as kept (work.Call call) = Call call.peer call.message.items (kept call.front)

-- the parts into which the right to know the whole of a queue is cut
abbrev pub all_parts : ℕ
all_parts = 2 ^ 64

abbrev pub dealt : ℕ → List Deferred → List Deferred → Dealt
dealt parts left took = record { parts = parts; left = left; took = took }

-- the one who has all parts, before anything was left
abbrev pub dealt_all : Dealt
dealt_all = dealt all_parts [] []

-- one number of each pass, added up
abbrev pub total : (Dealt → ℕ) → List Dealt → ℕ
total f [] = 0
total f (v ∷ views) = f v + total f views

-- A pass without a part has left nothing and taken nothing over.
abbrev pub IdleIsEmpty : List Dealt → Type 0
IdleIsEmpty views = (seat : ℕ) (v : Dealt) → get_elem? views seat ≡ some v → v.parts ≡ 0 → (v.left ≡ []) × (v.took ≡ [])

-- It can be done where there are so many maps: a transfer can be asked for, and for a call a map may have to be made.
abbrev pub IsReady : ℕ → Deferred → Type 0
IsReady maps (Transfer one) = IsDue maps one.0
IsReady maps (Call peer message known) = (may_make Datagram peer message ≡ true) × (length message ≤ datagram_max)

-- Each of these can.
abbrev pub AreReady : ℕ → List Deferred → Type 0
AreReady maps [] = ⊤
AreReady maps (one ∷ more) = IsReady maps one × AreReady maps more

-- What was left is what was taken over and what waits, however it is weighed, and all that waits can be done where
-- there are so many maps.
pub record IsFair (maps : ℕ) (items : List Deferred) (views : List Dealt) : Type 0 where
  pub parts : total (λ v. v.parts) views ≡ all_parts
  pub balanced : (weight : Deferred → ℕ) → total (λ v. weigh weight v.left) views
      ≡ total (λ v. weigh weight v.took) views + weigh weight items
  pub idle : IdleIsEmpty views
  pub ready : AreReady maps items

-- what the one who has all parts learns
abbrev pub Balances : Dealt → List Deferred → Type 0
Balances v items = v.parts ≡ all_parts
    → (weight : Deferred → ℕ) → weigh weight v.left ≡ weigh weight v.took + weigh weight items

-- one more was left, or taken over, where there are so many maps
abbrev pub Leaves : Dealt → Deferred → Dealt → Type 0
Leaves v one w = w ≡ dealt v.parts (v.left ++ one ∷ []) v.took

abbrev pub TakesOver : ℕ → Dealt → Deferred → Dealt → Type 0
TakesOver maps v one w = (w ≡ dealt v.parts v.left (v.took ++ one ∷ [])) × IsReady maps one
