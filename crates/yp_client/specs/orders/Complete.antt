-- When all servers have answered: each wire gives whole replies that answer its calls.
use Rattle.std.specs.Prelude.{◌≡◌, ℕ, ◌+◌, ◌≤◌, length, ◌%◌, ◌^◌, List, [], ◌∷◌, ◌++◌, Option, Some, Ok, Err, IsOk, Result, ⊤}
use Rattle.yp_io.specs.declared.stream.Peer.{Peer}
use Rattle.yp_io.specs.Dials.{Wires, Connected}
use Rattle.yp_client.specs.declared.fault.ClientFault.{ClientFault}
use Rattle.yp_client.specs.declared.fault.ClientFault.TheVariants.{Yp}
use Rattle.yp_client.specs.Limits.{reply_max}
use Rattle.yp_client.specs.Results.{master_of, order_of, maps_of}
use Rattle.yp_client.specs.query.Complete.{BeginsWithReply}

-- Bytes begin with a whole reply for each of these, of which the first answers the call with this number, and each next
-- one the next call; and P holds of the number behind the last, and of what is behind.
abbrev pub BeginsWithReplies : {A : Type 0} → (ℕ → List ℕ → Type 0) → List A → ℕ → List ℕ → (ℕ → List ℕ → Type 0)
    → Type 0
BeginsWithReplies answers [] xid stream P = P xid stream
BeginsWithReplies answers (item ∷ items) xid stream P = BeginsWithReply reply_max stream (λ reply rest.
    answers xid reply × BeginsWithReplies answers items ((xid + 1) % 2 ^ 32) rest P)

-- an order, or a status in its place
abbrev pub IsOrderOrStatus : Result ℕ ClientFault → Type 0
IsOrderOrStatus (Ok order) = ⊤
IsOrderOrStatus (Err (Yp stat)) = ⊤
IsOrderOrStatus said = ⊥

-- replies to ORDER of each of so many maps, from this number on
abbrev pub HasOrders : {A : Type 0} → List A → ℕ → List ℕ → Type 0
HasOrders maps xid stream =
    BeginsWithReplies (λ number reply. IsOrderOrStatus (order_of number reply)) maps xid stream (λ number rest. ⊤)

-- the reply to MAPLIST names these maps, and those to MASTER and to ORDER of each answer
abbrev pub HasSurvey : List (List ℕ) → List ℕ → Type 0
HasSurvey maps stream = BeginsWithReply reply_max stream (λ reply rest. (maps_of 1 reply ≡ Ok maps)
    × BeginsWithReplies (λ number reply. IsOk (master_of number reply)) maps 2 rest (HasOrders maps))

-- each of these streams begins with replies to ORDER of the maps
abbrev pub EachHasOrders : List (List ℕ) → List (List ℕ) → Type 0
EachHasOrders maps [] = ⊤
EachHasOrders maps (stream ∷ streams) = HasOrders maps 1 stream × EachHasOrders maps streams

-- wires to these peers, in turn, whose inputs are these streams
abbrev pub AreWires : List Peer → List (List ℕ) → List Connected → Type 0
AreWires [] [] [] = ⊤
AreWires (peer ∷ peers) (stream ∷ streams) (wire ∷ wires) =
    (wire.peer ≡ peer) × (wire.input ≡ Some stream) × AreWires peers streams wires
AreWires peers streams wires = ⊥

-- Wires to these peers came of the dial, in turn, where no more had gone back than came. These streams are their
-- inputs.
pub record HaveCome (peers : List Peer) (streams : List (List ℕ)) (old new : Option Wires) : Type 0 where
  pub before : Wires
  pub after : Wires
  pub was : old ≡ Some before
  pub is : new ≡ Some after
  pub fewer : length before.back ≤ length before.came
  pub wires : List Connected
  pub came : after.came ≡ before.came ++ wires
  pub are : AreWires peers streams wires
