-- A table of row numbers by a hash of the key: chains of rows, one for each bucket. Which hash it is, is free.
use Rattle.std.specs.Prelude.{◌≡◌, ℕ, zero, suc, ◌-◌, ◌*◌, ◌/◌, ◌%◌, ◌^◌, ◌<◌, ◌≤◌, Bool, List, length}
use Rattle.std.specs.Prelude.{slice_get, slice_index_or}
use Rattle.std.specs.Prelude.{Option, Some, None, option_map, if◌then◌else◌, ◌==◌}
use Rattle.std.specs.Hash.DefaultHasher as sip
use Rattle.std.specs.Option.{option_map_or}
use Rattle.std.specs.RandomState.{initial_hasher}
use Rattle.std.specs.declared.hash.RandomState.{RandomState}
use Rattle.yp_version.specs.Rows.{Row}
use Rattle.yp_version.specs.declared.table.Link.{Link}

-- the hash of a key by random keys, which takes the key in one piece
unfoldable pub hash_of : RandomState → List ℕ → ℕ
hash_of state key = sip.finish (sip.write (initial_hasher state) key)

-- the bucket by a hash of 64 bits, of this many
abbrev pub bucket_by : ℕ → ℕ → ℕ
bucket_by hash size = hash * size / 2 ^ 64

-- the number of a key's bucket among this many
abbrev pub bucket_of : RandomState → ℕ → List ℕ → ℕ
bucket_of state size key = bucket_by (hash_of state key) size

-- the mark by a hash: bits of it that tell apart most keys of a bucket
abbrev pub mark_by : ℕ → ℕ
mark_by hash = hash % 2 ^ 13

-- the mark of a key
abbrev pub mark_of : RandomState → List ℕ → ℕ
mark_of state key = mark_by (hash_of state key)

-- the lower bits of a stored link: one more than the number of a row, or 0
abbrev pub number_in : Link → ℕ
number_in link = link.bits % 2 ^ 19

-- and the upper ones: a mark
abbrev pub mark_in : Link → ℕ
mark_in link = link.bits / 2 ^ 19

-- a stored link as the number of a row, or none
abbrev pub linked : Link → Option ℕ
linked link = if number_in link == 0 then None else Some (number_in link - 1)

-- where a link leads to a row, it has the mark of the row's key
pub record IsMarked (state : RandomState) (rows : List Row) (link : Link) : Type 0 where
  pub mark : (i : ℕ) → linked link ≡ Some i
      → option_map (λ row. mark_of state row.0) (slice_get rows i) ≡ Some (mark_in link)

-- the last of the numbers below a bound that passes a test
abbrev pub last_below : (ℕ → Bool) → ℕ → Option ℕ
last_below test zero = None
last_below test (suc n) = if test n then Some n else last_below test n

-- the bucket of the row with this number
abbrev pub bucket_at : RandomState → ℕ → List Row → ℕ → ℕ
bucket_at state size rows i = option_map_or (λ row. bucket_of state size row.0) (slice_get rows i) size

-- whether the row with this number is in the bucket
abbrev pub is_in : RandomState → ℕ → List Row → ℕ → ℕ → Bool
is_in state size rows bucket i = bucket_at state size rows i == bucket

-- The chains of the first n rows: each bucket leads to its last row, and each row to the one before it in its bucket,
-- by links that have the marks of these rows.
pub record HasChains (state : RandomState) (heads before : List Link) (rows : List Row) (n : ℕ) : Type 0 where
  pub buckets : 0 < length heads
  pub count : length before ≡ n
  pub within : n ≤ length rows
  pub last : (bucket : ℕ) (any : Link) → bucket < length heads
      → linked (slice_index_or heads bucket any) ≡ last_below (is_in state (length heads) rows bucket) n
  pub former : (i : ℕ) (any : Link) → i < n → linked (slice_index_or before i any)
      ≡ last_below (is_in state (length heads) rows (bucket_at state (length heads) rows i)) i
  pub last_marked : (bucket : ℕ) (any : Link) → bucket < length heads
      → IsMarked state rows (slice_index_or heads bucket any)
  pub former_marked : (i : ℕ) (any : Link) → i < n → IsMarked state rows (slice_index_or before i any)
