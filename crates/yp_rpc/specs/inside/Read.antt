-- The whole of a reply's head, as it is read.
use Rattle.std.specs.Prelude.{ℕ, List, Result, Ok}
use Rattle.yp_xdr.specs.declared.fault.XdrFault.{XdrFault}
use Rattle.yp_xdr.specs.Reading.{◌>>=◌}
use Rattle.yp_rpc.specs.declared.reply.ReplyRead.{ReplyRead}
use Rattle.yp_rpc.specs.Read.{reply_at}

-- What a reply says, and the place of its results, which are what is left; or the fault of the first item that is
-- refused.
abbrev pub reply_read : List ℕ → Result ReplyRead XdrFault
reply_read message = do
  read ← reply_at (record { at = 0; bytes = message })
  Ok (record { xid = read.0.0; head = read.0.1; body = read.1.at })
