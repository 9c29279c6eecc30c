-- The arguments and results of YP version 2 as kinds, as the protocol file yp.x has them, and each struct as a value of
-- its kind.
use Rattle.yp_xdr.specs.Kind.{Kind, U32, Opaque, Sequence}
use Rattle.yp_messages.specs.Numbers.{name_max, key_max, value_max}
use Rattle.yp_messages.specs.Statuses.{stat}

-- the name of a domain, a map or a host
abbrev pub name : Kind
name = Opaque name_max

-- ---- arguments

-- a domain
abbrev pub req_domain : Kind
req_domain = name

-- a domain, a map and a key
abbrev pub req_key : Kind
req_key = Sequence name (Sequence name (Opaque key_max))

-- a domain and a map
abbrev pub req_nokey : Kind
req_nokey = Sequence name name

-- ---- results

-- a status and a value
abbrev pub resp_val : Kind
resp_val = Sequence stat (Opaque value_max)

-- a status, a value, and the key that has it, in this order, which is this project's choice where copies of yp.x differ
abbrev pub key_val : Kind
key_val = Sequence stat (Sequence (Opaque value_max) (Opaque key_max))

-- a status and the name of the master
abbrev pub resp_master : Kind
resp_master = Sequence stat name

-- a status and an order number
abbrev pub resp_order : Kind
resp_order = Sequence stat U32
