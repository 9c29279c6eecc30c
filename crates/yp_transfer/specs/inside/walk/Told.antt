-- A source that shows one version throughout, and what comes of a walk over it.
use Rattle.std.specs.Prelude.{◌≡◌, ℕ, ◌+◌, ◌-◌, ◌<◌, ◌⊎◌, List, [], ◌∷◌, ◌++◌, length, Option, Some, None, Result}
use Rattle.std.specs.Prelude.{Ok, Err, ⊤}
use Rattle.yp_io.specs.declared.stream.Peer.{Peer}
use Rattle.yp_messages.specs.declared.stat.YpStat.TheVariants.{Nomore, Nokey}
use Rattle.yp_version.specs.Rows.{Row, first_of, following}
use Rattle.yp_version.specs.Versions.{MapVersion, IsVersion}
use Rattle.yp_version.specs.Drafts.{Draft}
use Rattle.yp_client.specs.declared.fault.ClientFault.{ClientFault}
use Rattle.yp_client.specs.declared.fault.ClientFault.TheVariants.{Yp}
use Rattle.yp_client.specs.Results.{order_of, master_of, row_of}
use Rattle.yp_transfer.specs.declared.fault.XfrFault.{XfrFault}
use Rattle.yp_transfer.specs.declared.fault.XfrFault.TheVariants.{Dbm}
use Rattle.yp_rpc.specs.Turns.{datagram_max}
use Rattle.yp_transfer.specs.Fetching.{Wanted, against_order, against_master}
use Rattle.yp_transfer.specs.walk.Standings.{WalkState, AsksOrder, AsksMaster, AsksFirst, AsksNext, AsksAgain, HasEnded}
use Rattle.yp_transfer.specs.walk.Standings.{next_len}
use Rattle.yp_transfer.specs.walk.Schedules.{Walking, gone_on, begun, came_of}

-- ---- what the replies say

-- a row, its value before its key, or that there are no more
abbrev pub row_said : Option Row → Result (List ℕ × List ℕ) ClientFault
row_said (Some row) = Ok (row.1, row.0)
row_said None = Err (Yp Nomore)

-- the row behind that of a key, or that there is no such key
abbrev pub next_said : Option (Option Row) → Result (List ℕ × List ℕ) ClientFault
next_said (Some next) = row_said next
next_said None = Err (Yp Nokey)

-- The reply to the outstanding call, which has this number, says what a version has.
abbrev pub SaysOfVersion : MapVersion → ℕ → WalkState → List ℕ → Type 0
SaysOfVersion version xid AsksOrder reply = order_of xid reply ≡ Ok version.order
SaysOfVersion version xid (AsksMaster order) reply = master_of xid reply ≡ Ok version.master
SaysOfVersion version xid (AsksFirst draft) reply = row_of xid reply ≡ row_said (first_of version.rows)
SaysOfVersion version xid (AsksNext draft key) reply = row_of xid reply ≡ next_said (following key version.rows)
SaysOfVersion version xid (AsksAgain draft why) reply = order_of xid reply ≡ Ok version.order
SaysOfVersion version xid (HasEnded outcome) reply = ⊥

-- Each reply of a list says so to the call that it meets.
abbrev pub AllTell : MapVersion → Walking → List (List ℕ) → Type 0
AllTell version walking [] = ⊤
AllTell version walking (reply ∷ replies) =
    SaysOfVersion version walking.xid walking.standing reply × AllTell version (gone_on walking reply) replies

-- ---- what comes of them

-- some rows of a version
abbrev pub draft_with : MapVersion → List Row → Draft
draft_with version rows = record { order = version.order; master = version.master; rows = rows }

-- The draft has the rows of a version up to that of a key.
pub record HasRowsTo (version : MapVersion) (draft : Draft) (key : List ℕ) : Type 0 where
  pub front : List Row
  pub row : Row
  pub rest : List Row
  pub whole : version.rows ≡ front ++ row ∷ rest
  pub last : key ≡ row.0
  pub so_far : draft ≡ draft_with version (front ++ row ∷ [])

-- The call behind some row doesn't fit into a datagram.
pub record HasLongCall (wanted : Wanted) (version : MapVersion) : Type 0 where
  pub front : List Row
  pub row : Row
  pub rest : List Row
  pub whole : version.rows ≡ front ++ row ∷ rest
  pub long : datagram_max < next_len wanted row.0

-- The refusal is the walk's own: the order isn't over the shown one, the master has no name, or a call would be too
-- long.
abbrev pub IsOwn : Wanted → MapVersion → XfrFault → Type 0
IsOwn wanted version fault =
    (against_order wanted version.order ≡ Some fault) ⊎ (against_master version.master ≡ Some fault)
    ⊎ ((fault ≡ Dbm) × HasLongCall wanted version)

-- A walk is on its way over a version: it has the order, the master and the rows so far, and at its end all of them. It
-- never finds another order, a row twice, or a key that is gone.
abbrev pub IsAlong : Wanted → MapVersion → WalkState → Type 0
IsAlong wanted version AsksOrder = ⊤
IsAlong wanted version (AsksMaster order) = order ≡ version.order
IsAlong wanted version (AsksFirst draft) = draft ≡ draft_with version []
IsAlong wanted version (AsksNext draft key) = HasRowsTo version draft key
IsAlong wanted version (AsksAgain draft why) = (draft ≡ draft_with version version.rows) × (why ≡ None)
IsAlong wanted version (HasEnded (Ok draft)) = draft ≡ draft_with version version.rows
IsAlong wanted version (HasEnded (Err fault)) = IsOwn wanted version fault

-- Where all awaited replies say what one version has, the walk is on its way over it.
abbrev pub ToldIsWalked : Type 0
ToldIsWalked =
    (source : Peer) (wanted : Wanted) (version : MapVersion) (replies : List (List ℕ))
    → IsVersion version
    → AllTell version (begun source wanted) replies
    → IsAlong wanted version (came_of (begun source wanted) replies).standing

-- ---- how many of them it takes

-- how many awaited mails a walk over a version still takes at most
abbrev pub left : MapVersion → WalkState → ℕ
left version AsksOrder = length version.rows + 4
left version (AsksMaster order) = length version.rows + 3
left version (AsksFirst draft) = length version.rows + 2
left version (AsksNext draft key) = length version.rows + 2 - length draft.rows
left version (AsksAgain draft why) = 1
left version (HasEnded outcome) = 0

-- Nothing of a version stands against a walk.
pub record Suits (wanted : Wanted) (version : MapVersion) : Type 0 where
  pub order : against_order wanted version.order ≡ None
  pub master : against_master version.master ≡ None
  pub calls : HasLongCall wanted version → ⊥

-- Where the replies that it awaits, four and one for each row, all say what one version has, against which nothing
-- stands, it ends with that version.
abbrev pub ToldIsWhole : Type 0
ToldIsWhole =
    (source : Peer) (wanted : Wanted) (version : MapVersion) (replies : List (List ℕ))
    → IsVersion version
    → Suits wanted version
    → AllTell version (begun source wanted) replies
    → length replies ≡ length version.rows + 4
    → (came_of (begun source wanted) replies).standing ≡ HasEnded (Ok (draft_with version version.rows))
