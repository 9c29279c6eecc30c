-- What is posted of the outcome of a transfer: a call of the push response program (yppush_resp of yp.x); and where it
-- is posted, which a port mapper is asked (RFC 1833 section 3) where no port was named.
use Rattle.std.specs.Prelude.{◌≡◌, ◌⊎◌, ℕ, ◌≤◌, Bool, true, false, not, ◌&&◌, ◌==◌, nat_lt, nat_le, if◌then◌else◌}
use Rattle.std.specs.Prelude.{List, [], ◌∷◌, ◌++◌, Option, None, Some, IsSome, Result, Ok, Err, ⊤}
use Rattle.yp_io.specs.Counts.{HasRisen}
use Rattle.yp_io.specs.Dials.{DialTells, Sending, Posted, Asked, GainsItem}
use Rattle.yp_io.specs.declared.stream.Peer.{Peer}
use Rattle.yp_xdr.specs.declared.fault.XdrFault.{XdrFault}
use Rattle.yp_rpc.specs.Called.{call_of}
use Rattle.yp_messages.specs.declared.transfer.XfrStat.{XfrStat}
use Rattle.yp_messages.specs.declared.transfer.XfrStat.TheVariants.{Succ}
use Rattle.yp_messages.specs.Numbers.{push_version, xfrresp_procedure}
use Rattle.yp_messages.specs.Transfers.{resp_xfr, xfr_number}
use Rattle.yp_binding.specs.declared.portmap.asking.PortReply.{PortReply}
use Rattle.yp_binding.specs.portmap.Asking.{getport_call, port_read}
use Rattle.yp_binding.specs.portmap.Numbers.{mapper_port, port_max, udp}
use Rattle.yp_publisher.specs.declared.install.Installed.{Installed}
use Rattle.yp_transfer.specs.declared.fault.XfrFault.{XfrFault}
use Rattle.yp_transfer.specs.declared.calling_back.Asker.{Asker}
use Rattle.yp_transfer.specs.Faults.{stat_of}

-- a call with the number of the transaction, which has it and its status as arguments
abbrev pub call_back_bytes : ℕ → ℕ → XfrStat → List ℕ
call_back_bytes prog transid stat =
    call_of resp_xfr transid prog push_version xfrresp_procedure (transid, xfr_number stat)

-- the status of what came of a transfer
abbrev pub outcome_stat : Result Installed XfrFault → XfrStat
outcome_stat (Ok installed) = Succ
outcome_stat (Err fault) = stat_of fault

-- whether a caller wants to be told: the program isn't 0, and the port is one, or 0
abbrev pub wants_call : Asker → Bool
wants_call asker = not (asker.prog == 0) && nat_lt asker.port 65536

-- its program is at its address
abbrev pub called_at : Asker → ℕ → Peer
called_at asker port = record { addr = asker.addr; port = port }

-- ---- the port of a caller that named none

-- the port that a reply to the call of this number tells: none where there is none, or the call was refused
abbrev pub port_in : ℕ → Result PortReply XdrFault → Option ℕ
port_in xid (Err fault) = None
port_in xid (Ok reply) =
    if reply.xid == xid && not (reply.port == 0) && nat_le reply.port port_max then Some reply.port else None

-- the port that is told by what came, if anything did
abbrev pub port_told : ℕ → Option (List ℕ) → Option ℕ
port_told xid None = None
port_told xid (Some bytes) = port_in xid (port_read bytes)

-- the port mapper at the address of a caller is asked where its program takes datagrams, with the number of its
-- transaction, and this comes of it
abbrev pub question : Asker → Option (List ℕ) → Sending
question asker came =
    Asked (called_at asker mapper_port) (getport_call asker.transid asker.prog push_version udp) came

-- ---- what is sent

-- the call back to a port
abbrev pub call_to : Asker → XfrStat → ℕ → Sending
call_to asker stat port = Posted (called_at asker port) (call_back_bytes asker.prog asker.transid stat)

-- the call back to the port that was told, where one was
abbrev pub calls_to : Asker → XfrStat → Option ℕ → List Sending
calls_to asker stat None = []
calls_to asker stat (Some port) = call_to asker stat port ∷ []

-- What is told grew by these items.
abbrev pub GainsItems : {A : Type 0} → List A → Option (List A) → Option (List A) → Type 0
GainsItems gained None new = ⊤
GainsItems gained (Some items) None = ⊥
GainsItems gained (Some items) (Some others) = others ≡ items ++ gained

-- The port mapper was asked, and where it told a port the status was posted there; or the dial failed at that.
pub record AsksAndPosts (asker : Asker) (stat : XfrStat) (failed : Type 0) (old new : Option (List Sending))
    : Type 0 where
  pub came : Option (List ℕ)
  pub sent : GainsItems (question asker came ∷ calls_to asker stat (port_told asker.transid came)) old new
      ⊎ (GainsItem (question asker came) old new × IsSome (port_told asker.transid came) × failed)

-- The status was posted to the port that the caller named; where it named none, the port mapper was asked first.
abbrev pub Sends : Bool → Asker → XfrStat → Type 0 → Option (List Sending) → Option (List Sending) → Type 0
Sends false asker stat failed old new = GainsItem (call_to asker stat asker.port) old new
Sends true asker stat failed old new = AsksAndPosts asker stat failed old new

-- The status was sent, or the dial failed at the first of that; its wires stay.
pub record TellsBack (asker : Asker) (stat : XfrStat) (old new : DialTells) : Type 0 where
  pub past : new.past ≡ old.past
  pub never_falls : old.faults ≤ new.faults
  pub told : Sends (asker.port == 0) asker stat (HasRisen old.faults new.faults) old.letters new.letters
      ⊎ ((new.letters ≡ old.letters) × HasRisen old.faults new.faults)

-- A caller that wants to be told is; for any other the dial stays.
abbrev pub CallsBack : Bool → Asker → XfrStat → DialTells → DialTells → Type 0
CallsBack true asker stat old new = TellsBack asker stat old new
CallsBack false asker stat old new = new ≡ old
