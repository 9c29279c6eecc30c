-- What a dial told, as one value, and what it was used for once all that was left to be told is known.
use Rattle.std.specs.Prelude.{◌≡◌, ℕ, List, Contains, Option, IfSome}
use Rattle.yp_io.specs.Dials.{DialTells, Wires, Sending}
use Rattle.yp_board.specs.Catalogues.{Name}
use Rattle.yp_transfer.specs.HostTable.{HostList}
use Rattle.yp_worker.specs.datagrams.Queues.{WeighTheSame}
use Rattle.yp_host.specs.declared.workers.call_backs.CallBack.{CallBack}
use Rattle.yp_host.specs.workers.CallBacks.{version_in}
use Rattle.yp_host.specs.workers.Uses.{IsUsedForTransfers}
use Rattle.yp_host.specs.workers.Wires.{CameByWire}
use Rattle.yp_host.specs.inside.workers.CallBacks.{HeldCallBacks}

-- what a dial told: its wires, what it had sent, and how often it had failed
abbrev pub dial_told : Option Wires → Option (List Sending) → ℕ → DialTells
dial_told wires letters faults = record { past = wires; letters = letters; faults = faults }

-- A dial was used for transfers. Where one holds so many parts of the queue of call backs, which are all but those of
-- the dial, these callers were told what that one left, each as often, and nothing else. Each version that a call back
-- tells of came by a wire.
pub record TellsAllLeft (hosts : HostList) (maps : List Name) (shares : ℕ) (held : HeldCallBacks) (old new : DialTells)
    : Type 0 where
  pub posted : List CallBack
  pub used : IsUsedForTransfers hosts maps posted old new
  pub same : held.parts ≡ shares → WeighTheSame posted held.left
  pub among : held.parts ≡ shares → (call_back : CallBack) → Contains posted call_back
      → Contains held.left call_back
  pub came : (call_back : CallBack) → Contains held.left call_back
      → IfSome (version_in call_back) (CameByWire old.past new.past)
