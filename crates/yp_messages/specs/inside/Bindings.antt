-- The structs of the binder's messages as values of their kinds, and their limits.
use Rattle.std.specs.Prelude.{◌≡◌, ◌≤◌, length}
use Rattle.std.proofs.Common.{inl, inr}
use Rattle.yp_xdr.specs.Kind.{Value}
use Rattle.yp_messages.specs.declared.binding.BindResp.{BindResp}
use Rattle.yp_messages.specs.declared.binding.BindResp.TheVariants.{Bound, Unbound}
use Rattle.yp_messages.specs.declared.binding.SetDom.{SetDom}
use Rattle.yp_messages.specs.Numbers.{addr_len, port_len, name_max}
use Rattle.yp_messages.specs.Bindings.{bind_resp, set_dom}

abbrev pub bind_resp_view : BindResp → Value bind_resp
bind_resp_view (Bound addr port) = inl (addr.now, port.now)
bind_resp_view (Unbound error) = inr error

abbrev pub BindRespIsWithin : BindResp → Type 0
BindRespIsWithin (Bound addr port) = (length addr.now ≡ addr_len) × (length port.now ≡ port_len)
BindRespIsWithin (Unbound error) = Unit {0}

abbrev pub set_dom_view : SetDom → Value set_dom
set_dom_view asked = (asked.domain.now, (asked.addr.now, (asked.port.now, asked.vers)))

pub record SetDomIsWithin (asked : SetDom) : Type 0 where
  pub domain : length asked.domain.now ≤ name_max
  pub addr : length asked.addr.now ≡ addr_len
  pub port : length asked.port.now ≡ port_len
