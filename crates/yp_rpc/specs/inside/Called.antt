-- The bytes with which a call begins.
use Rattle.std.specs.Prelude.{ℕ, List}
use Rattle.yp_xdr.specs.Kind.{Sequence}
use Rattle.yp_xdr.specs.Spelling.{spelling}
use Rattle.yp_rpc.specs.Call.{front_kind, procedure_kind}
use Rattle.yp_rpc.specs.Called.{front, heading}

-- the bytes of a call's head
abbrev pub called : ℕ → ℕ → ℕ → ℕ → List ℕ
called xid prog vers procedure = spelling (Sequence front_kind procedure_kind) (front xid, heading prog vers procedure)
