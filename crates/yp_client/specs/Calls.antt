-- What a call of a client does, by the most bytes that the record of its reply may have.
use Rattle.std.specs.Prelude.{◌≡◌, ◌↔◌, ◌⊎◌, ℕ, ◌+◌, ◌≤◌, ◌%◌, ◌^◌, Bool, true, false, List, take, Result, Ok}
use Rattle.std.specs.Prelude.{Err, ⊤}
use Rattle.std.specs.Prelude.{IsTrue, if◌then◌else◌}
use Rattle.std.specs.Io.KnownBytes.{Keeps, Appends}
use Rattle.yp_io.specs.Counts.{HasRisen}
use Rattle.yp_io.specs.Dials.{WireState, wire_state}
use Rattle.yp_rpc.specs.declared.record.RecordFault.{RecordFault}
use Rattle.yp_rpc.specs.declared.record.RecordFault.TheVariants as record_faults
use Rattle.yp_rpc.specs.Records.{sent, IsEmpty, TakesRecord, record_start, HasCause}
use Rattle.yp_client.specs.declared.fault.ClientFault.{ClientFault}
use Rattle.yp_client.specs.declared.fault.ClientFault.TheVariants.{Yp, Denied, Torn, TooLong, ReadFault, WriteFault}
use Rattle.yp_client.specs.declared.fault.ClientFault.TheVariants.{Spent}
use Rattle.yp_client.specs.declared.fault.ClientFault.TheVariants.{Rows, NoMemory}
use Rattle.yp_client.specs.States.{ClientState}

-- What the output took: the record of the call, which was flushed; a front of it where the output failed; and nothing
-- of a spent client.
abbrev pub SendsCall : {X : Type 0} → List ℕ → Result X ClientFault → WireState → WireState → Type 0
SendsCall call (Err Spent) before after = Keeps before.output after.output
SendsCall call (Err WriteFault) before after = (n : ℕ) × Appends before.output after.output (take n (sent call))
SendsCall call result before after = Appends before.output after.output (sent call) × IsTrue after.flushed

-- The reply was waited for when the record of the call was out and flushed, and not before: the wire was then as it is
-- behind the call, but for its input, of which nothing was read.
abbrev pub WaitsForReply : {X : Type 0} → Result X ClientFault → WireState → WireState → WireState → Type 0
WaitsForReply (Err Spent) waited before after = ⊤
WaitsForReply (Err WriteFault) waited before after = ⊤
WaitsForReply result waited before after = waited ≡ wire_state before.input after.output after.flushed

-- The whole reply was read, and the call answers by it. What was taken of the input fixes the reply.
pub record HearsReply {X : Type 0} (limit : ℕ) (answers : List ℕ → Result X ClientFault → Type 0)
    (result : Result X ClientFault) (old new : ClientState) : Type 0 where
  pub reply : List ℕ
  pub taken : TakesRecord limit reply old.wire.input new.wire.input old.place new.place
  pub answered : answers reply result

-- the cause of a fault of a record
abbrev pub RecordHasCause : ℕ → RecordFault → ClientState → ClientState → Type 0
RecordHasCause limit fault old new =
    HasCause (record_start limit old.place old.wire.input) new.wire.input old.reads new.reads fault

-- Why there is no reply: a fault of the wire, or what was left of the input.
abbrev pub NoReply : ℕ → ClientFault → ClientState → ClientState → Type 0
NoReply limit WriteFault old new = HasRisen old.writes new.writes × Keeps old.wire.input new.wire.input
NoReply limit ReadFault old new = RecordHasCause limit record_faults.ReadFault old new
NoReply limit (Torn at) old new =
    RecordHasCause limit (record_faults.Torn at) old new
    ⊎ ((at ≡ old.place) × IsEmpty old.wire.input new.wire.input)
NoReply limit (TooLong at) old new = RecordHasCause limit (record_faults.TooLong at) old new
NoReply limit fault old new = ⊥

-- Why it answers so: by the reply, or by its cause where there is none. Input that ended before a reply is torn.
abbrev pub Answers : {X : Type 0} → ℕ → (List ℕ → Result X ClientFault → Type 0) → Result X ClientFault
    → ClientState → ClientState → Type 0
Answers limit answers (Err Spent) old new = Keeps old.wire.input new.wire.input
Answers limit answers (Err WriteFault) old new = NoReply limit WriteFault old new
Answers limit answers (Err ReadFault) old new = NoReply limit ReadFault old new
Answers limit answers (Err (Torn at)) old new = NoReply limit (Torn at) old new
Answers limit answers (Err (TooLong at)) old new = NoReply limit (TooLong at) old new
Answers limit answers result old new = HearsReply limit answers result old new

-- whether a client is spent by an answer
abbrev pub spends : {X : Type 0} → Result X ClientFault → Bool
spends (Ok x) = false
spends (Err (Yp status)) = false
spends (Err (Denied head)) = false
spends (Err (Rows row fault)) = false
spends (Err NoMemory) = false
spends result = true

-- What one call of a client does. The bytes of the call, and what its reply says, depend on the number (xid) of the
-- call.
pub record Calls {X : Type 0} (limit : ℕ) (call : ℕ → List ℕ) (answers : ℕ → List ℕ → Result X ClientFault → Type 0)
    (result : Result X ClientFault) (old new : ClientState) : Type 0 where
  pub sent : SendsCall (call old.xid) result old.wire new.wire
  pub waited : WaitsForReply result new.waited old.wire new.wire
  pub answered : Answers limit (answers old.xid) result old new
  pub exactly : (result ≡ Err Spent) ↔ (old.spent ≡ true)
  pub spent : new.spent ≡ spends result
  pub xid : new.xid ≡ (if old.spent then old.xid else (old.xid + 1) % 2 ^ 32)
  pub reads : old.reads ≤ new.reads
  pub writes : old.writes ≤ new.writes
