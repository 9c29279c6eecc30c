-- The members of a group as its text spells them (manual of netgroup(5)): names of groups, and triples of a host, a
-- user and a domain. A text is any bytes.
use Rattle.std.specs.Prelude.{ℕ, suc, zero, Bool, not, ◌||◌, ◌==◌, if◌then◌else◌, List, [], ◌∷◌, length, take, drop}
use Rattle.std.specs.Prelude.{Option, Some, None, option_map, slice_index}
use Rattle.std.specs.List.{filter_map, list_any, prefix_len, before_first, after_first, slice_split}
use Rattle.std.specs.Option.{option_map_or}
use Rattle.yp_version.specs.Blanks.{is_blank, without_front_blanks, bare}

-- ---- bytes

abbrev pub is_open : ℕ → Bool
is_open b = b == 40

abbrev pub is_close : ℕ → Bool
is_close b = b == 41

abbrev pub is_comma : ℕ → Bool
is_comma b = b == 44

-- a byte of a name: no blank, parenthesis or comma
abbrev pub is_name_byte : ℕ → Bool
is_name_byte b = not (is_blank b || is_open b || is_close b || is_comma b)

-- ---- members

-- a host, a user and a domain
pub record Triple : Type 0 where
  pub host : List ℕ
  pub user : List ℕ
  pub domain : List ℕ

-- a member: it includes the members of the group with this name, or lists a triple
pub data Part : Type 0 where
  Includes : List ℕ → Part
  Lists : Triple → Part

-- a member at the front of a text, and what follows it
abbrev pub CutMember : Type 0
CutMember = Part × List ℕ

-- exactly three fields
abbrev pub triple_of : List (List ℕ) → Option Triple
triple_of [] = None
triple_of (host ∷ []) = None
triple_of (host ∷ user ∷ []) = None
triple_of (host ∷ user ∷ domain ∷ []) =
    Some (record { host = bare host; user = bare user; domain = bare domain })
triple_of (host ∷ user ∷ domain ∷ more ∷ rest) = None

-- the triple between two parentheses: its fields have a comma between each two, and nothing is opened in it
abbrev pub triple_in : List ℕ → Option Triple
triple_in inside = if list_any is_open inside then None else triple_of (slice_split is_comma inside)

-- behind an opening parenthesis: the triple up to the first closing one
unfoldable pub cut_triple : List ℕ → Option CutMember
cut_triple text =
    if list_any is_close text
    then option_map (λ triple. (Lists triple, after_first is_close text)) (triple_in (before_first is_close text))
    else None

-- the longest run of bytes of a name, which isn't empty
unfoldable pub cut_name : List ℕ → Option CutMember
cut_name text =
    if prefix_len is_name_byte text == 0 then None
    else Some (Includes (take (prefix_len is_name_byte text) text), drop (prefix_len is_name_byte text) text)

-- a triple where one is opened, else a name
abbrev pub cut_bare : List ℕ → Option CutMember
cut_bare text = if is_open (slice_index text 0) then cut_triple (drop 1 text) else cut_name text

-- the member at the front of a text, behind blanks; none where neither a triple nor a name can be read
unfoldable pub cut_member : List ℕ → Option CutMember
cut_member text = cut_bare (without_front_blanks text)

-- at most so many members
abbrev pub parts_within : ℕ → List ℕ → List Part
parts_within zero text = []
parts_within (suc n) text = option_map_or (λ cut. cut.0 ∷ parts_within n cut.1) (cut_member text) []

-- The members of a text: the one at its front, then those of what follows it. Where none can be read, the rest is
-- ignored. Each takes a byte at least, so there are at most as many as bytes.
unfoldable pub parts : List ℕ → List Part
parts text = parts_within (length text) text

-- ---- of one sort

abbrev pub name_of : Part → Option (List ℕ)
name_of (Includes name) = Some name
name_of (Lists triple) = None

abbrev pub triple_in_part : Part → Option Triple
triple_in_part (Includes name) = None
triple_in_part (Lists triple) = Some triple

-- the names of groups among members
abbrev pub names : List Part → List (List ℕ)
names members = filter_map name_of members

-- the triples among members
abbrev pub triples : List Part → List Triple
triples members = filter_map triple_in_part members
