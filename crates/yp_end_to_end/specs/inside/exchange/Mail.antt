-- What a client is told in datagrams is what the maps of the server have.
use Rattle.std.specs.Prelude.{◌≡◌, ℕ, ◌+◌, ◌≤◌, nat_lt, List, length, Option, Some, None, Result, Ok, Err}
use Rattle.std.specs.Prelude.{if◌then◌else◌}
use Rattle.yp_io.specs.declared.stream.Peer.{Peer}
use Rattle.yp_xdr.specs.Kind.{U32, Sequence}
use Rattle.yp_xdr.specs.Reading.{Remaining, reading}
use Rattle.yp_messages.specs.declared.stat.YpStat.{YpStat}
use Rattle.yp_messages.specs.declared.stat.YpStat.TheVariants.{Nomore, Nokey, Yperr}
use Rattle.yp_version.specs.Rows.{Row, row_len, first_of, following}
use Rattle.yp_version.specs.Versions.{MapVersion}
use Rattle.yp_answer.specs.declared.procedure.Path.TheVariants.{Datagram}
use Rattle.yp_rpc.specs.Turns.{datagram_max}
use Rattle.yp_answer.specs.Maps.{Maps}
use Rattle.yp_answer.specs.Reply.{Bytes, reply}
use Rattle.yp_client.specs.Results.{row_of, master_of, order_of}
use Rattle.yp_client.specs.Asked.{first_call, next_call, master_call, order_call}
use Rattle.yp_end_to_end.specs.exchange.Told.{rows_tell, map_tells, master_in, order_in}
use Rattle.yp_end_to_end.specs.inside.exchange.Told.{turned}
use Rattle.yp_end_to_end.specs.inside.exchange.Laws.{ForMap, ForKey}

-- A server that knows these maps has one reply to a call with this number in a datagram. It fits into one, begins with
-- the number and 1, REPLY (RFC 5531 section 9), and says what is expected.
pub record MailTells {V : Type 0} (maps : Maps) (peer : Peer) (xid : ℕ) (call : List ℕ) (said : List ℕ → V)
    (expected : V) : Type 0 where
  pub bytes : List ℕ
  pub replied : reply Datagram maps peer call ≡ Bytes bytes
  pub within : length bytes ≤ datagram_max
  pub rest : Remaining
  pub begins : reading (Sequence U32 U32) (record { at = 0; bytes = bytes }) ≡ Ok ((xid, 1), rest)
  pub says : said bytes ≡ expected

-- ---- what a version tells in a datagram

-- a row, or YPERR where a datagram can't carry its reply
abbrev pub mailed : Row → Result (List ℕ × List ℕ) YpStat
mailed row = if nat_lt datagram_max (28 + row_len row) then Err Yperr else Ok (turned row)

abbrev pub row_mailed : Option Row → Result (List ℕ × List ℕ) YpStat
row_mailed (Some row) = mailed row
row_mailed None = Err Nomore

-- the first row
abbrev pub first_mailed : MapVersion → Result (List ℕ × List ℕ) YpStat
first_mailed version = row_mailed (first_of version.rows)

-- the row behind the one with a key
abbrev pub row_behind_mailed : Option (Option Row) → Result (List ℕ × List ℕ) YpStat
row_behind_mailed (Some next) = row_mailed next
row_behind_mailed None = Err Nokey

abbrev pub next_mailed : List ℕ → MapVersion → Result (List ℕ × List ℕ) YpStat
next_mailed key version = row_behind_mailed (following key version.rows)

-- ---- the replies

-- ORDER
abbrev pub OrderMailTells : Type 0
OrderMailTells = ForMap (λ maps peer xid domain map.
    MailTells maps peer xid (order_call domain map xid) (order_of xid) (map_tells order_in maps domain map))

-- MASTER
abbrev pub MasterMailTells : Type 0
MasterMailTells = ForMap (λ maps peer xid domain map.
    MailTells maps peer xid (master_call domain map xid) (master_of xid) (map_tells master_in maps domain map))

-- FIRST
abbrev pub FirstMailTells : Type 0
FirstMailTells = ForMap (λ maps peer xid domain map.
    MailTells maps peer xid (first_call domain map xid) (row_of xid)
    (rows_tell first_mailed maps peer domain map))

-- NEXT
abbrev pub NextMailTells : Type 0
NextMailTells = ForKey (λ maps peer xid domain map key.
    MailTells maps peer xid (next_call domain map key xid) (row_of xid)
    (rows_tell (next_mailed key) maps peer domain map))
