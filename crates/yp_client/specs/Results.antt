-- What a reply says to a call: the value of its results, or the first refusal that its bytes meet, in the order of the
-- reply (RFC 5531 section 9, RFC 4506, yp.x).
use Rattle.std.specs.Prelude.{◌≡◌, ℕ, ℤ, pos, negsuc, List, Result, Ok, Err, ⊤, ◌==◌, if◌then◌else◌}
use Rattle.std.specs.Ordering.{int_eq}
use Rattle.yp_xdr.specs.declared.fault.XdrFault.{XdrFault}
use Rattle.yp_xdr.specs.Faults.{fault_place}
use Rattle.yp_xdr.specs.Kind.{Kind, U32, Opaque, Value}
use Rattle.yp_xdr.specs.Reading.{Remaining, reading}
use Rattle.yp_rpc.specs.declared.reply.ReplyHead.{ReplyHead}
use Rattle.yp_rpc.specs.declared.reply.ReplyHead.TheVariants.{Success}
use Rattle.yp_rpc.specs.Read.{reply_at}
use Rattle.yp_messages.specs.declared.stat.YpStat.{YpStat}
use Rattle.yp_messages.specs.declared.stat.YpStat.TheVariants as stats
use Rattle.yp_messages.specs.Numbers.{key_max, value_max}
use Rattle.yp_messages.specs.Statuses.{stat}
use Rattle.yp_messages.specs.Messages.{name}
use Rattle.yp_messages.specs.MapLists.{map_list}
use Rattle.yp_messages.specs.Transfers.{resp_xfr, resp_make}
use Rattle.yp_client.specs.declared.fault.ClientFault.{ClientFault}
use Rattle.yp_client.specs.declared.fault.ClientFault.TheVariants.{Yp, Denied, BadReply, BadXid, NoMemory}

infixl 10 ◌>>=◌
abbrev pub ◌>>=◌ : {A B : Type 0} → Result A ClientFault → (A → Result B ClientFault) → Result B ClientFault
(Ok x) >>= f = f x
(Err fault) >>= f = Err fault

-- what was read of a reply, where an item that can't be read is a bad reply
abbrev pub of_reply : {A : Type 0} → Result A XdrFault → Result A ClientFault
of_reply (Ok read) = Ok read
of_reply (Err fault) = Err (BadReply (fault_place fault))

-- an item of the reply, and what is left behind it
abbrev pub item : (kind : Kind) → Remaining → Result (Value kind × Remaining) ClientFault
item kind left = of_reply (reading kind left)

-- the results follow a head that is SUCCESS
abbrev pub by_head : ReplyHead → Remaining → Result Remaining ClientFault
by_head Success left = Ok left
by_head head left = Err (Denied head)

-- and that answers the call with this number
abbrev pub by_xid : ℕ → ℕ → ReplyHead → Remaining → Result Remaining ClientFault
by_xid xid got head left = if got == xid then by_head head left else Err (BadXid xid got)

-- the results of the reply to the call with this number
abbrev pub results_of : ℕ → List ℕ → Result Remaining ClientFault
results_of xid message = do
  read ← of_reply (reply_at (record { at = 0; bytes = message }))
  by_xid xid read.0.0 read.0.1 read.1

-- the status with a number
abbrev pub stat_with : ℤ → YpStat
stat_with number =
    if int_eq number (pos 1) then stats.True
    else (if int_eq number (pos 2) then stats.Nomore
    else (if int_eq number (pos 0) then stats.False
    else (if int_eq number (negsuc 0) then stats.Nomap
    else (if int_eq number (negsuc 1) then stats.Nodom
    else (if int_eq number (negsuc 2) then stats.Nokey
    else (if int_eq number (negsuc 3) then stats.Badop
    else (if int_eq number (negsuc 4) then stats.Baddb
    else (if int_eq number (negsuc 5) then stats.Yperr
    else (if int_eq number (negsuc 6) then stats.Badargs
    else stats.Vers)))))))))

-- what is left behind a status, where it is TRUE
abbrev pub by_stat : ℤ → Remaining → Result Remaining ClientFault
by_stat number left = if int_eq number (pos 1) then Ok left else Err (Yp (stat_with number))

abbrev pub behind_true : Remaining → Result Remaining ClientFault
behind_true left = do
  status ← item stat left
  by_stat status.0 status.1

-- ---- the values

-- of MATCH: the value
abbrev pub value_of : ℕ → List ℕ → Result (List ℕ) ClientFault
value_of xid message = do
  left ← results_of xid message
  rest ← behind_true left
  value ← item (Opaque value_max) rest
  Ok value.0

-- of FIRST and NEXT: a value, and its key
abbrev pub row_of : ℕ → List ℕ → Result (List ℕ × List ℕ) ClientFault
row_of xid message = do
  left ← results_of xid message
  rest ← behind_true left
  value ← item (Opaque value_max) rest
  key ← item (Opaque key_max) value.1
  Ok (value.0, key.0)

-- of MASTER: a name
abbrev pub master_of : ℕ → List ℕ → Result (List ℕ) ClientFault
master_of xid message = do
  left ← results_of xid message
  rest ← behind_true left
  peer ← item name rest
  Ok peer.0

-- of ORDER: a number
abbrev pub order_of : ℕ → List ℕ → Result ℕ ClientFault
order_of xid message = do
  left ← results_of xid message
  rest ← behind_true left
  order ← item U32 rest
  Ok order.0

-- of MAPLIST: names
abbrev pub maps_of : ℕ → List ℕ → Result (List (List ℕ)) ClientFault
maps_of xid message = do
  left ← results_of xid message
  rest ← behind_true left
  list ← item map_list left
  Ok list.0.1

-- of XFR: the number of a status, whichever it is
abbrev pub taken_of : ℕ → List ℕ → Result ℤ ClientFault
taken_of xid message = do
  left ← results_of xid message
  taken ← item resp_xfr left
  Ok taken.0.1

-- of the make program: the number of a status, whichever it is
abbrev pub made_of : ℕ → List ℕ → Result ℤ ClientFault
made_of xid message = do
  left ← results_of xid message
  made ← item resp_make left
  Ok made.0

-- ---- what a call answers

-- The result is what the reply says, seen by `view`.
abbrev pub Says : {X V : Type 0} → (X → V) → Result V ClientFault → Result X ClientFault → Type 0
Says view said (Ok x) = said ≡ Ok (view x)
Says view said (Err fault) = said ≡ Err fault

-- The result is what the reply says, seen by `view`, or there was no memory for it.
abbrev pub SaysInMemory : {X V : Type 0} → (X → V) → Result V ClientFault → Result X ClientFault → Type 0
SaysInMemory view said (Ok x) = said ≡ Ok (view x)
SaysInMemory view said (Err NoMemory) = ⊤
SaysInMemory view said (Err fault) = said ≡ Err fault
