-- A push response as a value of its kind.
use Rattle.yp_xdr.specs.Kind.{Value}
use Rattle.yp_messages.specs.declared.push.PushResp.{PushResp}
use Rattle.yp_messages.specs.Transfers.{xfr_number}
use Rattle.yp_messages.specs.Pushes.{push_resp}

abbrev pub push_resp_view : PushResp → Value push_resp
push_resp_view told = (told.transid, xfr_number told.status)
