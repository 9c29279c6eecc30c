-- A call in bytes, by RFC 5531 section 9.
use Rattle.std.specs.Prelude.{ℕ, List, []}
use Rattle.yp_xdr.specs.Kind.{Kind, Sequence, Value}
use Rattle.yp_xdr.specs.Spelling.{spelling}
use Rattle.yp_rpc.specs.Call.{front_kind, procedure_kind}

-- the transaction's number, the type 0, CALL, and version 2 of RPC
abbrev pub front : ℕ → Value front_kind
front xid = (xid, (0, 2))

-- a procedure of a version of a program, with an empty credential and verifier of AUTH_NONE
abbrev pub heading : ℕ → ℕ → ℕ → Value procedure_kind
heading prog vers procedure = (prog, (vers, (procedure, ((0, []), (0, [])))))

-- a call with its arguments
abbrev pub call_kind : Kind → Kind
call_kind arguments = Sequence front_kind (Sequence procedure_kind arguments)

-- the bytes of a call with arguments of a kind
abbrev pub call_of : (kind : Kind) → ℕ → ℕ → ℕ → ℕ → Value kind → List ℕ
call_of kind xid prog vers procedure arguments =
    spelling (call_kind kind) (front xid, (heading prog vers procedure, arguments))
