-- A worker, and what it does, step by step, in the conversations of its connections.
use Rattle.std.specs.Prelude.{◌≡◌, ℕ, ◌==◌, if◌then◌else◌, Bool, List, [], ◌∷◌, ⊤}
use Rattle.yp_io.specs.declared.stream.Peer.{Peer}
use Rattle.yp_board.specs.Logs.{Log}
use Rattle.yp_board.specs.Views.{IsFront}
use Rattle.yp_publisher.specs.sharing.Shares.{Learns}
use Rattle.yp_answer.specs.session.Hosts.{Conduct}
use Rattle.yp_answer.specs.session.Cuts.{Deed, DoesDeed}

-- a worker: its host, the most records that it answers of one connection, and whether it does what takes long
pub record Working (H : Type 0) : Type 0 where
  pub host : H
  pub most : ℕ
  pub carries : Bool

-- its host was told what others showed; the conversation of a number was taken over from another worker, whose host had
-- known this much; or a deed was done in the conversation of a number, with this peer
pub data WorkerStep : Type 0 where
  Learned : WorkerStep
  TookOver : (number : ℕ) (known : Log) → WorkerStep
  Did : (number : ℕ) (peer : Peer) (deed : Deed) → WorkerStep

-- No conversation is taken over from another worker.
abbrev pub IsOwnStep : WorkerStep → Type 0
IsOwnStep (TookOver number known) = ⊥
IsOwnStep _ = ⊤

-- What was done in the conversation of a number was done with this peer.
abbrev pub IsDoneWith : ℕ → Peer → WorkerStep → Type 0
IsDoneWith number peer (Did one other deed) = one ≡ number → other ≡ peer
IsDoneWith number peer _ = ⊤

-- the deeds of one conversation
abbrev pub deeds_of : ℕ → List WorkerStep → List Deed
deeds_of number [] = []
deeds_of number (Learned ∷ steps) = deeds_of number steps
deeds_of number (TookOver one known ∷ steps) = deeds_of number steps
deeds_of number (Did one peer deed ∷ steps) =
    if one == number then deed ∷ deeds_of number steps else deeds_of number steps

-- a host counts so
module _ {H T : Type 0} (conduct : Conduct H) (counted : H → T) where
  -- A host was told what others showed, or not, and has counted nothing.
  pub record IsTold (old new : H) : Type 0 where
    pub learned : Learns (conduct.seen old) (conduct.seen new)
    pub counts : conduct.counts new ≡ conduct.counts old
    pub kept : counted new ≡ counted old

  -- what a step does to the host
  abbrev pub TakesStep : WorkerStep → H → H → Type 0
  TakesStep Learned old new = IsTold old new
  TakesStep (TookOver number known) old new = IsTold old new × IsFront known (conduct.seen new).known
  TakesStep (Did number peer deed) old new = DoesDeed conduct peer deed old new

  -- steps, one after the other
  abbrev pub TakesSteps : List WorkerStep → H → H → Type 0
  TakesSteps [] old new = new ≡ old
  TakesSteps (step ∷ steps) old new = (mid : H) × TakesStep step old mid × TakesSteps steps mid new
