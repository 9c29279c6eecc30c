-- The forms of the words of the command line: what a word says by each of them.
use Rattle.std.specs.Prelude.{ℕ, ◌^◌, Bool, true, false, not, ◌&&◌, ◌||◌, nat_lt, nat_le, ◌==◌, if◌then◌else◌, List, []}
use Rattle.std.specs.Prelude.{◌∷◌, length, slice_index_or, Option, Some, None, option_and_then, codes, decimal}
use Rattle.std.specs.List.{list_all, find, before_first, after_first}
use Rattle.std.specs.Str.{bytes_eq}
use Rattle.std.specs.Str.Parse.{digits_value}
use Rattle.yp_io.specs.Counts.{last_count}
use Rattle.yp_io.specs.declared.stream.Peer.{Peer}
use Rattle.yp_version.specs.Limits.{key_max, value_max}
use Rattle.yp_version.specs.Rows.{Row}
use Rattle.yp_binding.specs.declared.binder.Policy.{Policy}
use Rattle.yp_binding.specs.declared.binder.Policy.TheVariants.{Fixed, Ypsetme, Ypset}
use Rattle.yp_board.specs.Catalogues.{Name, name_max}
use Rattle.yp_board.specs.readers.Boards.{workers_max}
use Rattle.yp_texts.specs.declared.kind.Kind.{Kind}
use Rattle.yp_texts.specs.Kinds.{kinds, name_of as kind_name}

infixl 10 ◌>>=◌
abbrev pub ◌>>=◌ : {A B : Type 0} → Option A → (A → Option B) → Option B
found >>= f = option_and_then f found

-- a value that passes a test
abbrev pub when : {A : Type 0} → Bool → A → Option A
when test value = if test then Some value else None

-- what stands before and after the first such byte
abbrev pub before : ℕ → List ℕ → List ℕ
before c word = before_first (λ b. b == c) word

abbrev pub after : ℕ → List ℕ → List ℕ
after c word = after_first (λ b. b == c) word

-- from the first visible character to the last, without a slash and an at sign
abbrev pub is_name_byte : ℕ → Bool
is_name_byte c = nat_le 0x21 c && nat_le c 0x7e && not (c == 47) && not (c == 64)

-- a name: 1 to 64 such bytes, the first of which is no dot
abbrev pub is_name : List ℕ → Bool
is_name word = nat_le 1 (length word) && nat_le (length word) name_max && not (slice_index_or word 0 0 == 46)
    && list_all is_name_byte word

abbrev pub name : List ℕ → Option (List ℕ)
name word = when (is_name word) word

-- a store: the names of a domain and a map, with a slash between
abbrev pub store : List ℕ → Option Name
store word = do
  domain ← name (before 47 word)
  map ← name (after 47 word)
  Some (domain, map)

-- the kind of a map, by its name
abbrev pub kind_of : Name → Option Kind
kind_of store = find (λ kind. bytes_eq (kind_name kind) store.1) kinds

-- a store whose map has the name of a kind
abbrev pub kind_store : List ℕ → Option Name
kind_store word = do
  named ← store word
  _ ← kind_of named
  Some named

-- the maps of netgroups by users, and by hosts
abbrev pub by_user : List ℕ
by_user = codes "netgroup.byuser"

abbrev pub by_host : List ℕ
by_host = codes "netgroup.byhost"

abbrev pub is_reverse : List ℕ → Bool
is_reverse map = bytes_eq map by_user || bytes_eq map by_host

-- a store whose map is one of these
abbrev pub reverse_store : List ℕ → Option Name
reverse_store word = do
  named ← store word
  when (is_reverse named.1) named

-- a row: a key, which isn't empty, and its value behind the first equals sign
abbrev pub is_row : List ℕ → Bool
is_row word =
    nat_lt (length (before 61 word)) (length word) && nat_le 1 (length (before 61 word))
    && nat_le (length (before 61 word)) key_max && nat_le (length (after 61 word)) value_max

abbrev pub pair : List ℕ → Option Row
pair word = when (is_row word) (before 61 word, after 61 word)

-- a number of 32 bits in decimal, without a sign and without zeros in front
abbrev pub is_number : List ℕ → Bool
is_number word = nat_lt (digits_value 10 word) (2 ^ 32) && bytes_eq (decimal (digits_value 10 word)) word

abbrev pub number : List ℕ → Option ℕ
number word = when (is_number word) (digits_value 10 word)

-- how many there are at most: a number, or all that can be counted
abbrev pub most : List ℕ → Option ℕ
most word = if bytes_eq word (codes "forever") then Some last_count else number word

-- such a number from a least one to a most
abbrev pub within : ℕ → ℕ → List ℕ → Option ℕ
within least most word = do
  value ← number word
  when (nat_le least value && nat_le value most) value

abbrev pub octet : List ℕ → Option ℕ
octet word = within 0 255 word

abbrev pub port : List ℕ → Option ℕ
port word = within 1 65535 word

-- how many slaves of a push may be outstanding
abbrev pub window_max : ℕ
window_max = 4096

abbrev pub window : List ℕ → Option ℕ
window word = within 1 window_max word

-- how many workers a server has
abbrev pub workers : List ℕ → Option ℕ
workers word = within 1 workers_max word

-- an address: four numbers of a byte with dots between, a colon and a port
abbrev pub address : List ℕ → Option Peer
address word = do
  a ← octet (before 46 word)
  let second = after 46 word
  b ← octet (before 46 second)
  let third = after 46 second
  c ← octet (before 46 third)
  let fourth = after 46 third
  d ← octet (before 58 fourth)
  at ← port (after 58 fourth)
  Some (record { addr = a ∷ b ∷ c ∷ d ∷ []; port = at })

-- a host: its name and its address, with an at sign between
abbrev pub Host : Type 0
Host = List ℕ × Peer

abbrev pub host : List ℕ → Option Host
host word = do
  own ← name (before 64 word)
  peer ← address (after 64 word)
  Some (own, peer)

-- a name that a server is asked for: 1 to 64 bytes
abbrev pub text : List ℕ → Option (List ℕ)
text word = when (nat_le 1 (length word) && nat_le (length word) name_max) word

-- a key that a server is asked for, or a group
abbrev pub key : List ℕ → Option (List ℕ)
key word = when (nat_le (length word) key_max) word

-- who may be in a group: an asterisk stands for any
abbrev pub member : List ℕ → Option (Option (List ℕ))
member word = do
  given ← key word
  Some (when (not (bytes_eq given (codes "*"))) given)

-- whether a version is secure
abbrev pub flag : List ℕ → Option Bool
flag word = if bytes_eq word (codes "secure") then Some true else when (bytes_eq word (codes "plain")) false

-- whether a version is taken whatever its order is
abbrev pub mode : List ℕ → Option Bool
mode word = if bytes_eq word (codes "force") then Some true else when (bytes_eq word (codes "newer")) false

-- who may bind a domain by a call: nobody, a caller on the binder's own host, or anybody
abbrev pub policy : List ℕ → Option Policy
policy word =
    if bytes_eq word (codes "fixed") then Some Fixed
    else if bytes_eq word (codes "ypsetme") then Some Ypsetme else when (bytes_eq word (codes "ypset")) Ypset
