-- What workers of datagrams hand over, one after the other, once all have ended, and a carrier behind them.
use Rattle.std.specs.Prelude.{◌≡◌, ℕ, ◌+◌, Bool, List, [], ◌∷◌, ◌++◌, fold, map}
use Rattle.std.specs.List.{AllByRecursion}
use Rattle.yp_board.specs.Logs.{Log}
use Rattle.yp_board.specs.Views.{IsFront}
use Rattle.yp_answer.specs.session.Hosts.{Conduct}
use Rattle.yp_rpc.specs.Turns.{InboxTells}
use Rattle.yp_worker.specs.Summing.{Counting}
use Rattle.yp_worker.specs.datagrams.Mailing.{Deferred, Holding, Mailing}
use Rattle.yp_worker.specs.inside.Mailing.{Carrying, CarriesRest}

-- what servers left, and what they took over
abbrev pub left_by : {H : Type 0} → List (Mailing H) → List Deferred
left_by [] = []
left_by (one ∷ more) = one.holding.left ++ left_by more

abbrev pub took_by : {H : Type 0} → List (Mailing H) → List Deferred
took_by [] = []
took_by (one ∷ more) = one.holding.took ++ took_by more

-- their parts of the queue
abbrev pub parts_of : {H : Type 0} → List (Mailing H) → ℕ
parts_of [] = 0
parts_of (one ∷ more) = one.holding.parts + parts_of more

module _ {H S T : Type 0} (conduct : Conduct H) (counting : Counting H T) (summed : S → T) (reached : S → Log) where
  -- A host handed over what it has counted, and its server what it held.
  pub record HandsOverMail (server : Mailing H) (held : Holding) (old new : S) : Type 0 where
    pub added : summed new ≡ counting.plus (summed old) (counting.counted server.host)
    pub covered : IsFront (conduct.seen server.host).known (reached new)
    pub kept : IsFront (reached old) (reached new)
    pub held_is : held ≡ server.holding

  -- Hosts did so, one after the other, and a carrier took in what their servers held.
  pub record HandsOverMails (servers : List (Mailing H)) (before after : Holding) (old new : S) : Type 0 where
    pub added : summed new ≡ fold counting.plus (summed old) (map (λ server. counting.counted server.host) servers)
    pub covered : AllByRecursion (λ server. IsFront (conduct.seen server.host).known (reached new)) servers
    pub kept : IsFront (reached old) (reached new)
    pub queue : after.queue ≡ before.queue
    pub parts : after.parts ≡ before.parts + parts_of servers
    pub left : after.left ≡ before.left ++ left_by servers
    pub took : after.took ≡ before.took ++ took_by servers

  module _ {I : Type 0} (box : I → InboxTells) (faults : I → ℕ) where
    -- A carrier did what still waited, and its host handed over what it has counted.
    pub record HandsOverRest (carrier : Carrying I H) (inbox : I) (fault : Bool) (old new : S) : Type 0 where
      pub ended : Carrying I H
      pub carries : CarriesRest conduct counting.counted box faults carrier ended
      pub inbox_is : inbox ≡ ended.inbox
      pub fault_is : fault ≡ ended.fault
      pub added : summed new ≡ counting.plus (summed old) (counting.counted ended.host)
      pub covered : IsFront (conduct.seen ended.host).known (reached new)
      pub kept : IsFront (reached old) (reached new)
