-- What came of a server that was asked for a map (ypxfr): ORDER, MASTER, ALL and again ORDER over a stream; in
-- datagrams FIRST, and NEXT behind each row, stand for ALL.
use Rattle.std.specs.Prelude.{◌≡◌, ◌⊎◌, ◌≤◌, ℕ, ◌+◌, ◌%◌, ◌^◌, ◌==◌, pos, true, false, if◌then◌else◌, List, [], ◌∷◌}
use Rattle.std.specs.Prelude.{◌++◌, length, Ok, ⊤}
use Rattle.std.specs.List.{AllByRecursion}
use Rattle.yp_xdr.specs.Kind.{Kind, U32, I32, Boolean, Sequence, Value}
use Rattle.yp_xdr.specs.Reading.{Remaining, reading}
use Rattle.yp_rpc.specs.Call.{auth_kind}
use Rattle.yp_rpc.specs.Records.{Fragments}
use Rattle.yp_rpc.specs.Turns.{datagram_max}
use Rattle.yp_messages.specs.Statuses.{stat}
use Rattle.yp_messages.specs.Messages.{resp_order, resp_master, key_val}
use Rattle.yp_version.specs.Rows.{Row}
use Rattle.yp_version.specs.Versions.{MapVersion}
use Rattle.yp_client.specs.Limits.{reply_max, all_max}
use Rattle.yp_answer.specs.declared.procedure.Path.{Path}
use Rattle.yp_answer.specs.declared.procedure.Path.TheVariants.{Stream, Datagram as Mail}
use Rattle.yp_headline.specs.World.{Came, Dialed}
use Rattle.yp_headline.specs.Listing.{AreListed}

-- a value stands there
abbrev pub Reads : (kind : Kind) → Value kind → Remaining → Type 0
Reads kind value left = (behind : Remaining) × (reading kind left ≡ Ok (value, behind))

-- the number of the call, 1 for a reply, 0 where it is accepted, any verifier, and 0 for SUCCESS (RFC 5531 section 9)
abbrev pub head_kind : Kind
head_kind = Sequence U32 (Sequence I32 (Sequence I32 (Sequence auth_kind I32)))

-- a reply to the call with a number, and P holds of its results
pub record Says (xid : ℕ) (P : Remaining → Type 0) (reply : List ℕ) : Type 0 where
  pub left : Remaining
  pub verifier : Value auth_kind
  pub head : reading head_kind (record { at = 0; bytes = reply })
      ≡ Ok ((xid, (pos 1, (pos 0, (verifier, pos 0)))), left)
  pub results : P left

-- Rows stand there: each behind TRUE and the status TRUE, its value before its key, up to FALSE or the status NOMORE.
abbrev pub RowsAre : List Row → Remaining → Type 0
RowsAre [] left = Reads Boolean false left ⊎ Reads (Sequence Boolean stat) (true, pos 2) left
RowsAre (row ∷ rows) left = (next : Remaining)
    × (reading (Sequence Boolean key_val) left ≡ Ok ((true, (pos 1, (row.1, row.0))), next)) × RowsAre rows next

-- What replies to the calls from a number on say: all rows, and the order; or each row, the end, and the order.
abbrev pub SayRows : Path → (xid order : ℕ) → List Row → (replies : List (List ℕ)) → Type 0
SayRows Stream xid order rows (all ∷ again ∷ []) =
    Says xid (RowsAre rows) all × Says (xid + 1) (Reads resp_order (pos 1, order)) again
SayRows Mail xid order [] (none ∷ again ∷ []) =
    Says xid (Reads stat (pos 2)) none × Says ((xid + 1) % 2 ^ 32) (Reads resp_order (pos 1, order)) again
SayRows Mail xid order (row ∷ rows) (reply ∷ replies) =
    Says xid (Reads key_val (pos 1, (row.1, row.0))) reply × SayRows Mail ((xid + 1) % 2 ^ 32) order rows replies
SayRows _ _ _ _ _ = ⊥

-- A datagram begins as the reply to the call with a number.
abbrev pub IsAwaited : ℕ → List ℕ → Type 0
IsAwaited xid mail = (length mail ≤ datagram_max) × Reads (Sequence U32 U32) (xid, 1) (record { at = 0; bytes = mail })

-- These replies to the calls from a number on came in turn: whole records at the front of a stream, or datagrams, each
-- the first that begins so behind the one before.
abbrev pub Hears : (path : Path) → ℕ → Came path → (replies : List (List ℕ)) → Type 0
Hears path xid came [] = ⊤
Hears Stream xid came (reply ∷ replies) = (first others : List ℕ) × (came ≡ first ++ others)
    × Fragments (if xid == 3 then all_max else reply_max) reply first × Hears Stream (xid + 1) others replies
Hears Mail xid came (reply ∷ replies) = (before others : List (List ℕ)) × (came ≡ before ++ reply ∷ others)
    × AllByRecursion (λ mail. IsAwaited xid mail → ⊥) before × IsAwaited xid reply
    × Hears Mail ((xid + 1) % 2 ^ 32) others replies

-- A server gave a version: its order, its master, its rows, the first of each key, and again its order.
pub record Gives (server : Dialed) (version : MapVersion) : Type 0 where
  pub rows : List Row
  pub order : List ℕ
  pub master : List ℕ
  pub others : List (List ℕ)
  pub heard : Hears server.path 1 server.came (order ∷ master ∷ others)
  pub says_order : Says 1 (Reads resp_order (pos 1, version.order)) order
  pub says_master : Says 2 (Reads resp_master (pos 1, version.master)) master
  pub says_rows : SayRows server.path 3 version.order rows others
  pub not_secure : version.secure ≡ false
  pub listed : AreListed rows version.rows
