-- The queue of call backs that workers share: what each holds of it, and what is told of those that wait.
use Rattle.std.specs.Prelude.{◌≡◌, ℕ, List, [], ◌∷◌, ◌++◌, Contains, Option, None, Some, IfSome}
use Rattle.atomic_table.specs.Seated.{TableId}
use Rattle.yp_io.specs.Dials.{DialTells}
use Rattle.yp_version.specs.Versions.{MapVersion}
use Rattle.yp_publisher.specs.sharing.Tracing.{FetchLog}
use Rattle.yp_transfer.specs.CallBack.{wants_call, CallsBack}
use Rattle.yp_host.specs.declared.workers.call_backs.CallBack.{CallBack}
use Rattle.yp_worker.specs.datagrams.Queues.{WeighTheSame}
use Rattle.yp_host.specs.workers.CallBacks.{version_in}

-- ---- what a worker holds of the queue

-- which queue it is, the parts of the right to know the whole, the call backs that were left there, and those that were
-- taken over from there, each in that order
pub record HeldCallBacks : Type 0 where
  pub queue : TableId
  pub parts : ℕ
  pub left : List CallBack
  pub took : List CallBack

-- so many parts of a queue, before anything was left there
abbrev pub holds_none : TableId → ℕ → HeldCallBacks
holds_none queue parts = record { queue = queue; parts = parts; left = []; took = [] }

-- more call backs were left in the queue, and more were taken over
abbrev pub holds_more : HeldCallBacks → List CallBack → List CallBack → HeldCallBacks
holds_more held left took = record held { left = held.left ++ left; took = held.took ++ took }

-- All that was left was taken over, each as often, and nothing else.
pub record IsAllTaken (left took : List CallBack) : Type 0 where
  pub same : WeighTheSame took left
  pub among : (call_back : CallBack) → Contains took call_back → Contains left call_back

-- ---- what is told

-- Callers were told, one after the other.
abbrev pub TellsInTurn : List CallBack → DialTells → DialTells → Type 0
TellsInTurn [] old new = new ≡ old
TellsInTurn (one ∷ more) old new =
    (next : DialTells) × CallsBack (wants_call one.asker) one.asker one.stat old next × TellsInTurn more next new

-- Call backs were taken over from a queue, and each caller was told, in that order.
pub record TellsWaiting (held held' : HeldCallBacks) (old new : DialTells) : Type 0 where
  pub more : List CallBack
  pub in_turn : TellsInTurn more old new
  pub takes : held' ≡ holds_more held [] more

-- ---- versions that are known to be fetched

-- A version is one of those that are known to be fetched, if any are.
abbrev pub IsKnownIn : Option FetchLog → MapVersion → Type 0
IsKnownIn None version = ⊥
IsKnownIn (Some fetches) version = Contains fetches version

-- Each version that one of these call backs has is one of those.
abbrev pub AreKnown : Option FetchLog → List CallBack → Type 0
AreKnown known call_backs = (call_back : CallBack) → Contains call_backs call_back
    → IfSome (version_in call_back) (IsKnownIn known)
