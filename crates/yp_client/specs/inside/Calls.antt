-- The fault of a call without a reply, and the faults that a reply alone has.
use Rattle.std.specs.Prelude.{Result}
use Rattle.std.specs.Prelude.{Err}
use Rattle.yp_rpc.specs.declared.record.RecordFault.{RecordFault}
use Rattle.yp_rpc.specs.declared.record.RecordFault.TheVariants as record_faults
use Rattle.yp_client.specs.declared.fault.ClientFault.{ClientFault}
use Rattle.yp_client.specs.declared.fault.ClientFault.TheVariants.{Torn, TooLong, ReadFault, WriteFault}
use Rattle.yp_client.specs.declared.fault.ClientFault.TheVariants.{Spent}

-- the fault of a call that has no reply
abbrev pub of_record : RecordFault → ClientFault
of_record (record_faults.Torn at) = Torn at
of_record (record_faults.TooLong at) = TooLong at
of_record record_faults.ReadFault = ReadFault

-- A result that comes of the bytes of a whole reply: no fault of the wire or of the record.
abbrev pub IsOfReply : {X : Type 0} → Result X ClientFault → Type 0
IsOfReply (Err Spent) = ⊥
IsOfReply (Err WriteFault) = ⊥
IsOfReply (Err ReadFault) = ⊥
IsOfReply (Err (Torn at)) = ⊥
IsOfReply (Err (TooLong at)) = ⊥
IsOfReply result = Unit {0}
