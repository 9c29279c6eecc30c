-- What a record is heard as, by RFC 5531 section 9.
use Rattle.std.specs.Prelude.{ℕ, List, Result, Ok, Err, ◌==◌, if◌then◌else◌}
use Rattle.yp_xdr.specs.declared.fault.XdrFault.{XdrFault}
use Rattle.yp_xdr.specs.Kind.{Kind, U32, Opaque, Sequence, Value}
use Rattle.yp_xdr.specs.Reading.{Remaining, reading}
use Rattle.yp_rpc.specs.declared.call.CallHead.{CallHead}
use Rattle.yp_rpc.specs.declared.call.Heard.{Heard}
use Rattle.yp_rpc.specs.declared.call.Heard.TheVariants.{Call, WrongRpc, Noise}

-- the transaction's number, the type of the message, and the version of RPC
abbrev pub front_kind : Kind
front_kind = Sequence U32 (Sequence U32 U32)

-- a credential or a verifier: its flavor and its body of at most 400 bytes (RFC 5531 section 8.2)
abbrev pub auth_kind : Kind
auth_kind = Sequence U32 (Opaque 400)

-- the program, its version, the procedure, the credential and the verifier
abbrev pub procedure_kind : Kind
procedure_kind = Sequence U32 (Sequence U32 (Sequence U32 (Sequence auth_kind auth_kind)))

-- the head of a call, whose arguments are what is left
abbrev pub call_head : ℕ → Value procedure_kind → Remaining → CallHead
call_head xid fields left =
    record {
      xid = xid;
      prog = fields.0;
      vers = fields.1.0;
      procedure = fields.1.1.0;
      flavor =
          fields.1.1.1.0.0;
      body = left.at;
    }

-- with these words in front, and the version of RPC that is known
abbrev pub heard_procedure : ℕ → Result (Value procedure_kind × Remaining) XdrFault → Heard
heard_procedure xid (Ok read) = Call (call_head xid read.0 read.1)
heard_procedure xid (Err fault) = Noise

-- a message whose type is 0, CALL, and whose version of RPC is 2
abbrev pub heard_front : Result (Value front_kind × Remaining) XdrFault → Heard
heard_front (Ok read) =
    if read.0.1.0 == 0
    then (if read.0.1.1 == 2 then heard_procedure read.0.0 (reading procedure_kind read.1) else WrongRpc read.0.0)
    else Noise
heard_front (Err fault) = Noise

-- A message without the first three words, or that isn't a call, is noise. Of a call in another version of RPC
-- nothing more is read. A call whose head can't be read is noise too.
abbrev pub heard : List ℕ → Heard
heard message = heard_front (reading front_kind (record { at = 0; bytes = message }))
