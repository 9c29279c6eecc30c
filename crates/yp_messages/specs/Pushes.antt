-- What the caller of a transfer is told: yppushresp_xfr of the protocol file yp.x, with this project's numbers for the
-- status, which are those of a transfer.
use Rattle.yp_xdr.specs.Kind.{Kind, U32, Sequence}
use Rattle.yp_messages.specs.Transfers.{xfr_stat}

-- a transaction and its status
abbrev pub push_resp : Kind
push_resp = Sequence U32 xfr_stat
