-- The room of a call, and of a key.
use Rattle.std.proofs.Common.{◌≡◌, ℕ, ◌+◌, ◌<◌, ◌≤◌, List, ◌++◌, length, Option, Some, None, Bool, true, false, cond}
use Rattle.std.proofs.Common.{arith, refl, sym, ap}
use Rattle.std.proofs.lemmas.Bool.{le-ltb, lt-ltb}
use Rattle.std.proofs.lemmas.List.{length-append, length-replicate}
use Rattle.std.specs.Prelude.{nat_lt}
use Rattle.yp_rpc.specs.Turns.{datagram_max}
use Rattle.yp_xdr.specs.Spelling.{word, padding_len, padding, spelling, opaque, fixed}
use Rattle.yp_rpc.specs.Call.{front_kind, procedure_kind}
use Rattle.yp_rpc.specs.Called.{front, heading}
use Rattle.yp_messages.specs.Numbers.{name_max, key_max}
use Rattle.yp_messages.specs.Messages.{req_nokey, req_key}
use Rattle.yp_version.specs.declared.builder.VersionFault.{VersionFault}
use Rattle.yp_version.specs.declared.builder.VersionFault.TheVariants.{KeyLong}
use Rattle.yp_version.specs.Rows.{Row}
use Rattle.yp_version.specs.Drafts.{Draft, refused}
use Rattle.yp_transfer.specs.Fetching.{Wanted}
use Rattle.yp_transfer.specs.declared.fault.XfrFault.TheVariants.{Dbm}
use Rattle.yp_transfer.specs.walk.Standings.{AsksNext, refusal, next_len, by_behind_key}

-- the call for the row behind a key has a head of 40 bytes
pub next_len_is : (wanted : Wanted) (key : List ℕ)
    → next_len wanted key ≡ 40 + length (spelling req_key (wanted.domain, (wanted.map, key)))
unfolding opaque fixed
next_len_is wanted key =
    let arguments = spelling req_key (wanted.domain, (wanted.map, key)) in
    let head = spelling front_kind (front 0) in
    let procedure = spelling procedure_kind (heading 100004 2 5) in
    omega (arith, length-append head (procedure ++ arguments), length-append procedure arguments)

-- a key of a row that isn't refused is within its limit
pub key_fits : (draft : Draft) (row : Row) → refused draft row ≡ None → length row.0 ≤ key_max
key_fits draft row fits = by (nat_lt key_max (length row.0)) refl
  where
    by : (b : Bool) → nat_lt key_max (length row.0) ≡ b → length row.0 ≤ key_max
    by true is = absurd (let none : (let x : Option VersionFault = Some (KeyLong (length row.0)) in x) ≡ None = rw is at fits in cc)
    by false is = grind (arith, is)

-- the call for the row behind a key doesn't fit, or does
pub too_long : (wanted : Wanted) (draft : Draft) (key : List ℕ) (n : ℕ)
    → n ≡ length (spelling req_key (wanted.domain, (wanted.map, key))) → datagram_max < 40 + n
    → refusal Dbm ≡ by_behind_key wanted draft key
too_long wanted draft key n is long =
    let over : datagram_max < next_len wanted key = omega (arith, next_len_is wanted key, is, long) in
    sym (ap (λ (b : Bool). cond b (refusal Dbm) (AsksNext draft key)) (lt-ltb datagram_max (next_len wanted key) over))

pub short_enough : (wanted : Wanted) (draft : Draft) (key : List ℕ) (n : ℕ)
    → n ≡ length (spelling req_key (wanted.domain, (wanted.map, key))) → 40 + n ≤ datagram_max
    → AsksNext draft key ≡ by_behind_key wanted draft key
short_enough wanted draft key n is short =
    let within : next_len wanted key ≤ datagram_max = omega (arith, next_len_is wanted key, is, short) in
    sym (ap (λ (b : Bool). cond b (refusal Dbm) (AsksNext draft key)) (le-ltb datagram_max (next_len wanted key) within))

-- a call about a map fits into a datagram
opaque_short : (content : List ℕ) → length (opaque content) < length content + 8
unfolding opaque fixed
opaque_short content =
    let n = length content in
    let pad : length (padding n) ≡ padding_len n = length-replicate (padding_len n) 0 in
    omega (arith, length-append (word n) (content ++ padding n), length-append content (padding n))

pub map_room : (domain map : List ℕ) → length domain ≤ name_max → length map ≤ name_max
    → 40 + length (spelling req_nokey (domain, map)) ≤ datagram_max
map_room domain map d m =
    omega (arith, length-append (opaque domain) (opaque map), opaque_short domain, opaque_short map)
