-- The bytes of each call, by the number that it has (yp.x).
use Rattle.std.specs.Prelude.{ℕ, List}
use Rattle.yp_xdr.specs.Kind.{Value}
use Rattle.yp_rpc.specs.Called.{call_of}
use Rattle.yp_messages.specs.Numbers.{program, version, match_procedure}
use Rattle.yp_messages.specs.Numbers.{first_procedure, next_procedure, xfr_procedure, all_procedure}
use Rattle.yp_messages.specs.Numbers.{master_procedure, order_procedure, maplist_procedure}
use Rattle.yp_messages.specs.Numbers.{make_program, make_version, make_named_procedure}
use Rattle.yp_messages.specs.Messages.{req_domain, req_key, req_nokey}
use Rattle.yp_messages.specs.Transfers.{req_xfr}

abbrev pub maplist_call : List ℕ → ℕ → List ℕ
maplist_call domain xid = call_of req_domain xid program version maplist_procedure domain

-- of a map
abbrev pub first_call : List ℕ → List ℕ → ℕ → List ℕ
first_call domain map xid = call_of req_nokey xid program version first_procedure (domain, map)

abbrev pub master_call : List ℕ → List ℕ → ℕ → List ℕ
master_call domain map xid = call_of req_nokey xid program version master_procedure (domain, map)

abbrev pub order_call : List ℕ → List ℕ → ℕ → List ℕ
order_call domain map xid = call_of req_nokey xid program version order_procedure (domain, map)

abbrev pub all_call : List ℕ → List ℕ → ℕ → List ℕ
all_call domain map xid = call_of req_nokey xid program version all_procedure (domain, map)

-- of a key
abbrev pub match_call : List ℕ → List ℕ → List ℕ → ℕ → List ℕ
match_call domain map key xid = call_of req_key xid program version match_procedure (domain, (map, key))

abbrev pub next_call : List ℕ → List ℕ → List ℕ → ℕ → List ℕ
next_call domain map key xid = call_of req_key xid program version next_procedure (domain, (map, key))

-- of a transfer
abbrev pub xfr_call : Value req_xfr → ℕ → List ℕ
xfr_call request xid = call_of req_xfr xid program version xfr_procedure request

-- a transfer of a map from a host, of any order, of which nobody is told: transaction, program and port are 0
abbrev pub pull_request : List ℕ → List ℕ → List ℕ → Value req_xfr
pull_request domain map source = (domain, (map, (0, (source, (0, (0, 0))))))

abbrev pub pull_call : List ℕ → List ℕ → List ℕ → ℕ → List ℕ
pull_call domain map source xid = xfr_call (pull_request domain map source) xid

-- of the make program: a map of a domain, by its name
abbrev pub make_named_call : List ℕ → List ℕ → ℕ → List ℕ
make_named_call domain map xid = call_of req_nokey xid make_program make_version make_named_procedure (domain, map)
