-- Records in a stream, by RFC 5531 section 11: each is cut into fragments, the last of which is marked.
use Rattle.std.specs.Prelude.{◌≡◌, ◌≢◌, ℕ, zero, suc, ◌+◌, ◌^◌, ◌<◌, ◌≤◌, All, Bool, true, false, if◌then◌else◌}
use Rattle.std.specs.Prelude.{nat_le, ◌==◌, List, [], ◌∷◌, ◌++◌, length, take, drop, count_by, Option, min, ◌⊎◌}
use Rattle.std.specs.List.{flat_map}
use Rattle.std.specs.Io.KnownBytes.{Consumes, IsAtEnd}
use Rattle.yp_io.specs.Counts.{HasRisen, last_count}
use Rattle.yp_xdr.specs.Spelling.{word}
use Rattle.yp_rpc.specs.declared.record.RecordFault.{RecordFault}
use Rattle.yp_rpc.specs.declared.record.RecordFault.TheVariants.{Torn, TooLong, ReadFault}

-- the most bytes of a fragment that is written
abbrev pub fragment_max : ℕ
fragment_max = 8192

-- the most empty fragments of one record
abbrev pub empty_max : ℕ
empty_max = 1024

-- the head of a fragment: its highest bit marks the last one of a record, and the others are the length
abbrev pub head : Bool → ℕ → List ℕ
head last len = word (len + (if last then 2147483648 else 0))

-- a fragment: a head, and as many bytes as it names
abbrev pub fragment : Bool → List ℕ → List ℕ
fragment last piece = head last (length piece) ++ piece

-- fragments that are not the last
abbrev pub begun : List (List ℕ) → List ℕ
begun pieces = flat_map (fragment false) pieces

-- the bytes of pieces, joined
abbrev pub joined : List (List ℕ) → List ℕ
joined pieces = flat_map (λ piece. piece) pieces

-- how many pieces are empty
abbrev pub empties : List (List ℕ) → ℕ
empties pieces = count_by (λ piece. length piece == 0) pieces

-- a piece whose length a head can name, in 31 bits
abbrev pub IsShort : List ℕ → Type 0
IsShort piece = length piece < 2 ^ 31

-- pieces that heads can name, with no more bytes than the limit and no more empty ones than a record may have
pub record AreWithin (limit : ℕ) (pieces : List (List ℕ)) : Type 0 where
  pub len : length (joined pieces) ≤ limit
  pub empty : empties pieces ≤ empty_max
  pub short : All IsShort pieces

-- bytes that are the record in fragments, within the limit; the heads in them fix the pieces
pub record Fragments (limit : ℕ) (message bytes : List ℕ) : Type 0 where
  pub pieces : List (List ℕ)
  pub last : List ℕ
  pub whole : message ≡ joined pieces ++ last
  pub spelled : bytes ≡ begun pieces ++ fragment true last
  pub within : AreWithin limit (pieces ++ last ∷ [])

-- less than a fragment: a part of its head, or a head and a part of the bytes that it names
abbrev pub IsPart : ℕ → List (List ℕ) → List ℕ → Type 0
IsPart limit pieces tail =
    (length tail < 4)
    ⊎ ((last : Bool) × (len : ℕ) × (body : List ℕ) × (tail ≡ head last len ++ body) × (length body < len)
    × (len < 2 ^ 31) × (length (joined pieces) + len ≤ limit))

-- a rest that ends inside its first record; the heads in it fix the pieces
pub record IsTorn (limit : ℕ) (rest : List ℕ) : Type 0 where
  pub pieces : List (List ℕ)
  pub tail : List ℕ
  pub begins : rest ≡ begun pieces ++ tail
  pub some : rest ≢ []
  pub within : AreWithin limit pieces
  pub part : IsPart limit pieces tail

-- less than a record: nothing, or a rest that ends inside its first record
abbrev pub IsUnfinished : ℕ → List ℕ → Type 0
IsUnfinished limit part = (part ≡ []) ⊎ IsTorn limit part

-- bytes up to the first head that names too much; the heads in them fix the pieces
pub record IsTooLong (limit : ℕ) (front : List ℕ) : Type 0 where
  pub pieces : List (List ℕ)
  pub last : Bool
  pub len : ℕ
  pub begins : front ≡ begun pieces ++ head last len
  pub within : AreWithin limit pieces
  pub short : len < 2 ^ 31
  pub past : (limit < length (joined pieces) + len) ⊎ ((len ≡ 0) × (empties pieces ≡ empty_max))

-- a rest whose first record is too long
abbrev pub IsLong : ℕ → List ℕ → Type 0
IsLong limit rest = (front more : List ℕ) × IsTooLong limit front × (rest ≡ front ++ more)

-- what may be left behind whole records
abbrev pub IsRest : ℕ → List ℕ → Type 0
IsRest limit rest = (rest ≡ []) ⊎ IsTorn limit rest ⊎ IsLong limit rest

-- the stream is one spelling of each of the records, and then the rest; the heads in it fix where it is cut
abbrev pub Cut : ℕ → List ℕ → List (List ℕ) → List ℕ → Type 0
Cut limit stream [] rest = (stream ≡ rest) × IsRest limit rest
Cut limit stream (message ∷ messages) rest =
    (bytes more : List ℕ) × Fragments limit message bytes × (stream ≡ bytes ++ more) × Cut limit more messages rest

-- what is sent of a record: fragments of 8192 bytes, and the last with what is left
unfoldable pub sent_within : ℕ → List ℕ → List ℕ
sent_within zero message = fragment true message
sent_within (suc turns) message =
    if nat_le (length message) fragment_max
    then fragment true message
    else fragment false (take fragment_max message) ++ sent_within turns (drop fragment_max message)

abbrev pub sent : List ℕ → List ℕ
sent message = sent_within (length message) message

-- A record was taken from what the source had left, and the reader counted its bytes.
pub record TakesRecord (limit : ℕ) (message : List ℕ) (old new : Option (List ℕ)) (place after : ℕ) : Type 0 where
  pub bytes : List ℕ
  pub fragments : Fragments limit message bytes
  pub taken : Consumes old new bytes
  pub counted : after ≡ min (place + length bytes) last_count

-- where a record begins: the most bytes that it may have, its place, and what the source has left there
pub record RecordStart : Type 0 where
  pub limit : ℕ
  pub place : ℕ
  pub input : Option (List ℕ)

abbrev pub record_start : ℕ → ℕ → Option (List ℕ) → RecordStart
record_start limit place input = record { limit = limit; place = place; input = input }

-- Why there is no record: its place is where it began. A source that failed had given less than a record.
abbrev pub HasCause : RecordStart → Option (List ℕ) → ℕ → ℕ → RecordFault → Type 0
HasCause start new before now (Torn at) =
    (at ≡ start.place) × (rest : List ℕ) × IsTorn start.limit rest × Consumes start.input new rest × IsAtEnd new
HasCause start new before now (TooLong at) =
    (at ≡ start.place) × (front : List ℕ) × IsTooLong start.limit front × Consumes start.input new front
HasCause start new before now ReadFault =
    HasRisen before now × (part : List ℕ) × Consumes start.input new part × IsUnfinished start.limit part

-- Nothing was left, and nothing was taken.
abbrev pub IsEmpty : Option (List ℕ) → Option (List ℕ) → Type 0
IsEmpty old new = Consumes old new [] × IsAtEnd new
