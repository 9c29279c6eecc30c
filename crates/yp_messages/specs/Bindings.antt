-- The messages of the binder, as the protocol file yp.x has them: ypbind_resp and ypbind_setdom.
use Rattle.std.specs.Prelude.{ℤ, pos}
use Rattle.yp_xdr.specs.Kind.{Kind, U32, Fixed, Sequence, Union}
use Rattle.yp_messages.specs.declared.binding.BindErr.{BindErr}
use Rattle.yp_messages.specs.declared.binding.BindErr.TheVariants.{Err, Noserv, Resc}
use Rattle.yp_messages.specs.Numbers.{addr_len, port_len}
use Rattle.yp_messages.specs.Messages.{name}

-- why a domain isn't bound: the numbers of YPBIND_ERR_ERR, YPBIND_ERR_NOSERV and YPBIND_ERR_RESC
abbrev pub bind_err_number : BindErr → ℤ
bind_err_number Err = pos 1
bind_err_number Noserv = pos 2
bind_err_number Resc = pos 3

-- an address and its port, both with the highest byte first (ypbind_binding)
abbrev pub binding : Kind
binding = Sequence (Fixed addr_len) (Fixed port_len)

-- a binding behind YPBIND_SUCC_VAL, or an error behind YPBIND_FAIL_VAL
abbrev pub bind_resp : Kind
bind_resp = Union (pos 1) binding (pos 2) U32

-- a domain, the binding that it is to have, and a version
abbrev pub set_dom : Kind
set_dom = Sequence name (Sequence (Fixed addr_len) (Sequence (Fixed port_len) U32))
