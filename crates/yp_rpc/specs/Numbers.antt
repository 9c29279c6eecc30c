-- Numbers of RPC (RFC 5531 sections 8.2 and 9).
use Rattle.std.specs.Prelude.{ℕ}

-- the flavors AUTH_NONE and AUTH_SYS, and the status AUTH_REJECTEDCRED
abbrev pub auth_none : ℕ
auth_none = 0

abbrev pub auth_sys : ℕ
auth_sys = 1

abbrev pub auth_rejectedcred : ℕ
auth_rejectedcred = 2

-- the version of RPC
abbrev pub rpc_version : ℕ
rpc_version = 2
