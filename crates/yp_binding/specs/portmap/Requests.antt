-- What a datagram asks of the port mapper, by the order of refusals of RFC 5531 section 9.
use Rattle.std.specs.Prelude.{ℕ, List, drop, Option, Some, None, Result, Ok, Err, ◌==◌, if◌then◌else◌}
use Rattle.yp_xdr.specs.declared.fault.XdrFault.{XdrFault}
use Rattle.yp_xdr.specs.Kind.{Value}
use Rattle.yp_xdr.specs.Reading.{Remaining, reading}
use Rattle.yp_rpc.specs.declared.judging.Judged.{Judged}
use Rattle.yp_rpc.specs.declared.judging.Judged.TheVariants.{Ignored, Refused, Admitted}
use Rattle.yp_rpc.specs.declared.reply.ReplyHead.TheVariants.{Success, GarbageArgs}
use Rattle.yp_rpc.specs.Judging.{ProgramTable, one_program, judged}
use Rattle.yp_binding.specs.declared.portmap.mapping.Mapping.{Mapping}
use Rattle.yp_binding.specs.declared.portmap.request.Procedure.{Procedure}
use Rattle.yp_binding.specs.declared.portmap.request.Procedure.TheVariants as procedure
use Rattle.yp_binding.specs.declared.portmap.request.Request.{Request}
use Rattle.yp_binding.specs.declared.portmap.request.Request.TheVariants.{Nothing, Answer, Set, Unset, GetPort, Dump}
use Rattle.yp_binding.specs.portmap.Numbers.{program, version, null_procedure, set_procedure, unset_procedure}
use Rattle.yp_binding.specs.portmap.Numbers.{getport_procedure, dump_procedure}
use Rattle.yp_binding.specs.portmap.Registry.{mapping_kind, mapping_of}

-- what is asked with a mapping, or the refusal of arguments that no front of the bytes spells
abbrev pub with_mapping : ℕ → (Mapping → Request) → Result (Value mapping_kind × Remaining) XdrFault → Request
with_mapping xid asks (Ok read) = asks (mapping_of read.0)
with_mapping xid asks (Err fault) = Answer xid GarbageArgs

-- the procedure of the port mapper with a number
abbrev pub procedure_of : ℕ → Option Procedure
procedure_of number =
    if number == null_procedure then Some procedure.Null
    else (if number == set_procedure then Some procedure.Set
    else (if number == unset_procedure then Some procedure.Unset
    else (if number == getport_procedure then Some procedure.GetPort
    else (if number == dump_procedure then Some procedure.Dump
    else None))))

-- the port mapper's program alone
abbrev pub programs : ProgramTable Procedure
programs = one_program program version procedure_of

-- the mapping at the front of the arguments
abbrev pub mapping_in : List ℕ → Result (Value mapping_kind × Remaining) XdrFault
mapping_in bytes = reading mapping_kind (record { at = 0; bytes = bytes })

-- a call of a procedure with its arguments
abbrev pub procedure_asked : ℕ → Procedure → List ℕ → Request
procedure_asked xid procedure.Null bytes = Answer xid Success
procedure_asked xid procedure.Set bytes = with_mapping xid (Set xid) (mapping_in bytes)
procedure_asked xid procedure.Unset bytes = with_mapping xid (Unset xid) (mapping_in bytes)
procedure_asked xid procedure.GetPort bytes = with_mapping xid (GetPort xid) (mapping_in bytes)
procedure_asked xid procedure.Dump bytes = Dump xid

abbrev pub judged_asked : List ℕ → Judged Procedure → Request
judged_asked message Ignored = Nothing
judged_asked message (Refused xid head) = Answer xid head
judged_asked message (Admitted call procedure) = procedure_asked call.xid procedure (drop call.body message)

-- what a datagram asks
abbrev pub asked_by : List ℕ → Request
asked_by message = judged_asked message (judged programs message)
