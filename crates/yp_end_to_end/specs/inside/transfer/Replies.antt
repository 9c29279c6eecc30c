-- A server's replies to the calls of a fetch, and the moments at which it gives them.
use Rattle.std.specs.Prelude.{ℕ, List, IsOk, ⊤}
use Rattle.yp_io.specs.declared.stream.Peer.{Peer}
use Rattle.yp_answer.specs.Maps.{Maps, map_check, row_check}
use Rattle.yp_client.specs.Limits.{reply_max, all_max}
use Rattle.yp_client.specs.Asked.{order_call, master_call, all_call}
use Rattle.yp_end_to_end.specs.inside.exchange.Answered.{GivesReply}
use Rattle.yp_end_to_end.specs.transfer.Replies.{next_xid}

-- what a server knew at its replies to ORDER, MASTER, ALL and the second ORDER
pub record Moments : Type 0 where
  pub first : Maps
  pub second : Maps
  pub third : Maps
  pub fourth : Maps

-- P holds of each
pub record AtEach (P : Maps → Type 0) (moments : Moments) : Type 0 where
  pub first : P moments.first
  pub second : P moments.second
  pub third : P moments.third
  pub fourth : P moments.fourth

module _ (peer : Peer) (domain map : List ℕ) where
  -- Bytes begin with the reply to the second ORDER.
  abbrev pub GivesSecond : Moments → ℕ → List ℕ → Type 0
  GivesSecond moments xid stream =
      GivesReply moments.fourth peer reply_max (order_call domain map xid) stream (λ rest. ⊤)

  -- Bytes begin with the reply to ALL, and the others, where that gives rows.
  abbrev pub GivesAll : Moments → ℕ → List ℕ → Type 0
  GivesAll moments xid stream =
      GivesReply moments.third peer all_max (all_call domain map xid) stream (λ rest.
      IsOk (row_check moments.third peer.port domain map) → GivesSecond moments (next_xid xid) rest)

  -- The stream gives the replies to MASTER and to the calls behind it.
  abbrev pub GivesMaster : Moments → ℕ → List ℕ → Type 0
  GivesMaster moments xid stream =
      GivesReply moments.second peer reply_max (master_call domain map xid) stream (λ rest.
      IsOk (map_check moments.second domain map) → GivesAll moments (next_xid xid) rest)

  -- A server answers the calls of a fetch by this peer, which are numbered from xid on, up to the first that it
  -- refuses.
  abbrev pub GivesFetch : Moments → ℕ → List ℕ → Type 0
  GivesFetch moments xid stream =
      GivesReply moments.first peer reply_max (order_call domain map xid) stream (λ rest.
      IsOk (map_check moments.first domain map) → GivesMaster moments (next_xid xid) rest)
