-- What a port mapper is asked, and what is read of its reply (RFC 1833 section 3).
use Rattle.std.specs.Prelude.{ℕ, List, Result, Ok}
use Rattle.yp_xdr.specs.declared.fault.XdrFault.{XdrFault}
use Rattle.yp_xdr.specs.Kind.{U32, Boolean}
use Rattle.yp_xdr.specs.Reading.{Remaining, ◌>>=◌, reading}
use Rattle.yp_rpc.specs.declared.reply.ReplyHead.{ReplyHead}
use Rattle.yp_rpc.specs.declared.reply.ReplyHead.TheVariants.{Success}
use Rattle.yp_rpc.specs.Called.{call_of}
use Rattle.yp_rpc.specs.Read.{reply_at}
use Rattle.yp_binding.specs.declared.portmap.asking.PortReply.{PortReply}
use Rattle.yp_binding.specs.declared.portmap.asking.PortCall.{PortCall}
use Rattle.yp_binding.specs.declared.portmap.asking.PortCall.TheVariants.{GetPort, Set, Unset}
use Rattle.yp_binding.specs.declared.portmap.asking.PortAnswer.{PortAnswer}
use Rattle.yp_binding.specs.declared.portmap.asking.PortAnswer.TheVariants.{Port, Truth, Refused}
use Rattle.yp_binding.specs.declared.portmap.mapping.Mapping.{Mapping}
use Rattle.yp_binding.specs.portmap.Numbers.{program, version, set_procedure, unset_procedure, getport_procedure}
use Rattle.yp_binding.specs.portmap.Registry.{mapping_kind, mapping_view}

-- ---- calls

-- the bytes of a call of a procedure with a mapping
abbrev pub mapping_call : ℕ → ℕ → Mapping → List ℕ
mapping_call xid procedure asked = call_of mapping_kind xid program version procedure (mapping_view asked)

-- the bytes of a call of GETPORT, whose port is 0
abbrev pub getport_call : ℕ → ℕ → ℕ → ℕ → List ℕ
getport_call xid prog vers prot =
    mapping_call xid getport_procedure (record { prog = prog; vers = vers; prot = prot; port = 0 })

-- the bytes of a call. UNSET has protocol 0 and port 0, which are ignored.
abbrev pub port_call : ℕ → PortCall → List ℕ
port_call xid (GetPort prog vers prot) = getport_call xid prog vers prot
port_call xid (Set mapping) = mapping_call xid set_procedure mapping
port_call xid (Unset prog vers) =
    mapping_call xid unset_procedure (record { prog = prog; vers = vers; prot = 0; port = 0 })

-- ---- replies

-- the port behind a head of success, and 0 behind any other
abbrev pub port_behind : ℕ → ReplyHead → Remaining → Result PortReply XdrFault
port_behind xid Success left = do
  port ← reading U32 left
  Ok (record { xid = xid; head = Success; port = port.0 })
port_behind xid head left = Ok (record { xid = xid; head = head; port = 0 })

-- what a reply to GETPORT says, or the fault of the first item that is refused
abbrev pub port_read : List ℕ → Result PortReply XdrFault
port_read mail = do
  read ← reply_at (record { at = 0; bytes = mail })
  port_behind read.0.0 read.0.1 read.1

-- the port that a reply to GETPORT tells, unless it refuses the call
abbrev pub port_answer : ReplyHead → ℕ → PortAnswer
port_answer Success port = Port port
port_answer head port = Refused

-- the truth value behind a head of success; behind any other nothing is read
abbrev pub truth_behind : ReplyHead → Remaining → Result PortAnswer XdrFault
truth_behind Success left = do
  truth ← reading Boolean left
  Ok (Truth truth.0)
truth_behind head left = Ok Refused

-- what a reply to SET or UNSET says
abbrev pub truth_read : List ℕ → Result PortAnswer XdrFault
truth_read mail = do
  read ← reply_at (record { at = 0; bytes = mail })
  truth_behind read.0.1 read.1

-- what a reply to a call says, or the fault of the first item that is refused
abbrev pub answer_read : PortCall → List ℕ → Result PortAnswer XdrFault
answer_read (GetPort prog vers prot) mail = do
  reply ← port_read mail
  Ok (port_answer reply.head reply.port)
answer_read call mail = truth_read mail
