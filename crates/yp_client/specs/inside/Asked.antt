-- The bytes of calls that no command of the program makes.
use Rattle.std.specs.Prelude.{ℕ, List, []}
use Rattle.yp_xdr.specs.Kind.{Fixed}
use Rattle.yp_rpc.specs.Called.{call_of}
use Rattle.yp_messages.specs.Numbers.{program, version, null_procedure, domain_procedure}
use Rattle.yp_messages.specs.Numbers.{clear_procedure}
use Rattle.yp_messages.specs.Numbers.{make_program, make_version}
use Rattle.yp_messages.specs.Numbers.{make_procedure}
use Rattle.yp_messages.specs.Messages.{req_domain}
use Rattle.yp_messages.specs.Transfers.{req_make}

-- a procedure without arguments: they have no bytes
abbrev pub null_call : ℕ → List ℕ
null_call xid = call_of (Fixed 0) xid program version null_procedure []

abbrev pub clear_call : ℕ → List ℕ
clear_call xid = call_of (Fixed 0) xid program version clear_procedure []

-- of a domain
abbrev pub domain_call : List ℕ → ℕ → List ℕ
domain_call domain xid = call_of req_domain xid program version domain_procedure domain

-- of the make program: a map of a domain, by the number of its kind
abbrev pub make_call : List ℕ → ℕ → ℕ → List ℕ
make_call domain kind xid = call_of req_make xid make_program make_version make_procedure (domain, kind)
