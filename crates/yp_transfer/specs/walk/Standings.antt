-- What a walk asks of its source (yp.x), and what comes of each reply (ypxfr): ORDER, MASTER, FIRST, NEXT behind each
-- row, and ORDER.
use Rattle.std.specs.Prelude.{ℕ, List, length, Option, Some, None, Result, Ok, Err, is_some, nat_lt}
use Rattle.std.specs.Prelude.{if◌then◌else◌, ⊤, []}
use Rattle.yp_rpc.specs.Turns.{datagram_max}
use Rattle.yp_messages.specs.declared.stat.YpStat.TheVariants.{Nomore, Nokey}
use Rattle.yp_version.specs.Rows.{Row, value_of}
use Rattle.yp_version.specs.Drafts.{Draft, empty_draft, refused, with_row}
use Rattle.yp_client.specs.declared.fault.ClientFault.{ClientFault}
use Rattle.yp_client.specs.declared.fault.ClientFault.TheVariants.{Yp}
use Rattle.yp_client.specs.Results.{order_of, master_of, row_of}
use Rattle.yp_client.specs.Asked.{order_call, master_call, first_call, next_call}
use Rattle.yp_transfer.specs.declared.fault.XfrFault.{XfrFault}
use Rattle.yp_transfer.specs.declared.fault.XfrFault.TheVariants.{Yperr, Xfrerr, Dbm}
use Rattle.yp_transfer.specs.Faults.{of_client}
use Rattle.yp_transfer.specs.Fetching.{Wanted, against_order, against_master, against_second}

-- What is asked: the order; the master of the version with an order; the first row; the row behind that of a key; the
-- order again, behind the last of some rows, which ended well or by a fault. Or it has ended, with a version or a
-- fault.
pub data WalkState : Type 0 where
  AsksOrder : WalkState
  AsksMaster : (order : ℕ) → WalkState
  AsksFirst : (draft : Draft) → WalkState
  AsksNext : (draft : Draft) (key : List ℕ) → WalkState
  AsksAgain : (draft : Draft) (why : Option XfrFault) → WalkState
  HasEnded : (outcome : Result Draft XfrFault) → WalkState

-- Something is asked.
abbrev pub IsAsking : WalkState → Type 0
IsAsking (HasEnded outcome) = ⊥
IsAsking standing = ⊤

-- the bytes of the call that is outstanding, and none where it has ended
abbrev pub asked_by : Wanted → ℕ → WalkState → List ℕ
asked_by wanted xid AsksOrder = order_call wanted.domain wanted.map xid
asked_by wanted xid (AsksMaster order) = master_call wanted.domain wanted.map xid
asked_by wanted xid (AsksFirst draft) = first_call wanted.domain wanted.map xid
asked_by wanted xid (AsksNext draft key) = next_call wanted.domain wanted.map key xid
asked_by wanted xid (AsksAgain draft why) = order_call wanted.domain wanted.map xid
asked_by wanted xid (HasEnded outcome) = []

-- ---- what comes of a reply

abbrev pub refusal : XfrFault → WalkState
refusal fault = HasEnded (Err fault)

-- the next state of a walk where there is no fault, and else its end by the fault
abbrev pub unless : Option XfrFault → WalkState → WalkState
unless None goes_on = goes_on
unless (Some fault) goes_on = refusal fault

-- the first ORDER
abbrev pub by_order : Wanted → Result ℕ ClientFault → WalkState
by_order wanted (Ok order) = unless (against_order wanted order) (AsksMaster order)
by_order wanted (Err fault) = refusal (of_client fault)

-- MASTER
abbrev pub by_master : ℕ → Result (List ℕ) ClientFault → WalkState
by_master order (Ok master) = unless (against_master master) (AsksFirst (empty_draft order master))
by_master order (Err fault) = refusal (of_client fault)

-- the bytes of the call for the row behind a key
abbrev pub next_len : Wanted → List ℕ → ℕ
next_len wanted key = length (next_call wanted.domain wanted.map key 0)

-- The row behind that of a key is asked for, where that call fits into a datagram.
abbrev pub by_behind_key : Wanted → Draft → List ℕ → WalkState
by_behind_key wanted draft key =
    if nat_lt datagram_max (next_len wanted key) then refusal Dbm else AsksNext draft key

-- A row that fits is taken, and the one behind it asked for. Where its key came before, the order is asked again.
abbrev pub by_row : Wanted → Draft → Row → WalkState
by_row wanted draft row =
    if is_some (refused draft row) then refusal Dbm
    else (if is_some (value_of row.0 draft.rows) then AsksAgain draft (Some (Xfrerr 0))
    else by_behind_key wanted (with_row draft row) row.0)

-- FIRST: a row, or none
abbrev pub by_first : Wanted → Draft → Result (List ℕ × List ℕ) ClientFault → WalkState
by_first wanted draft (Ok found) = by_row wanted draft (found.1, found.0)
by_first wanted draft (Err (Yp Nomore)) = AsksAgain draft None
by_first wanted draft (Err fault) = refusal (of_client fault)

-- NEXT: the same; or the source has no such key any more, and then the order is asked again
abbrev pub by_next : Wanted → Draft → Result (List ℕ × List ℕ) ClientFault → WalkState
by_next wanted draft (Err (Yp Nokey)) = AsksAgain draft (Some (Yperr (Some Nokey)))
by_next wanted draft answer = by_first wanted draft answer

-- the end of the rows, where the order is still the first
abbrev pub outcome_of : Draft → Option XfrFault → Result Draft XfrFault
outcome_of draft None = Ok draft
outcome_of draft (Some fault) = Err fault

-- the second ORDER
abbrev pub by_again : Draft → Option XfrFault → Result ℕ ClientFault → WalkState
by_again draft why (Ok order) = unless (against_second draft.order order) (HasEnded (outcome_of draft why))
by_again draft why (Err fault) = refusal (of_client fault)

-- the reply to the outstanding call, which has this number
abbrev pub state_after : Wanted → ℕ → WalkState → List ℕ → WalkState
state_after wanted xid AsksOrder reply = by_order wanted (order_of xid reply)
state_after wanted xid (AsksMaster order) reply = by_master order (master_of xid reply)
state_after wanted xid (AsksFirst draft) reply = by_first wanted draft (row_of xid reply)
state_after wanted xid (AsksNext draft key) reply = by_next wanted draft (row_of xid reply)
state_after wanted xid (AsksAgain draft why) reply = by_again draft why (order_of xid reply)
state_after wanted xid (HasEnded outcome) reply = HasEnded outcome
