-- The structs of XFR and of the make program as values of their kinds, and their limits.
use Rattle.std.specs.Prelude.{◌≤◌, length}
use Rattle.yp_xdr.specs.Kind.{Value}
use Rattle.yp_messages.specs.declared.transfer.ReqXfr.{ReqXfr}
use Rattle.yp_messages.specs.declared.transfer.RespXfr.{RespXfr}
use Rattle.yp_messages.specs.declared.transfer.ReqMake.{ReqMake}
use Rattle.yp_messages.specs.declared.transfer.RespMake.{RespMake}
use Rattle.yp_messages.specs.Numbers.{name_max}
use Rattle.yp_messages.specs.Transfers.{xfr_number, req_xfr, resp_xfr, req_make, resp_make}

abbrev pub req_xfr_view : ReqXfr → Value req_xfr
req_xfr_view asked = (
  asked.domain.now,
  (asked.map.now, (asked.ordernum, (asked.peer.now, (asked.transid, (asked.prog, asked.port))))),
)

pub record ReqXfrIsWithin (asked : ReqXfr) : Type 0 where
  pub domain : length asked.domain.now ≤ name_max
  pub map : length asked.map.now ≤ name_max
  pub peer : length asked.peer.now ≤ name_max

abbrev pub resp_xfr_view : RespXfr → Value resp_xfr
resp_xfr_view answer = (answer.transid, xfr_number answer.xfrstat)

abbrev pub req_make_view : ReqMake → Value req_make
req_make_view asked = (asked.domain.now, asked.kind)

abbrev pub ReqMakeIsWithin : ReqMake → Type 0
ReqMakeIsWithin asked = length asked.domain.now ≤ name_max

abbrev pub resp_make_view : RespMake → Value resp_make
resp_make_view answer = xfr_number answer.stat
