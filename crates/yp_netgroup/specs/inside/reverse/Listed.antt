-- Who is looked up in a reverse netgroup map, and when that is membership.
use Rattle.std.specs.Prelude.{ℕ, Bool, false, not, ◌||◌, ◌&&◌, ◌==◌, IsTrue, ◌↔◌, List, [], ◌∷◌, length, bytes_eq}
use Rattle.std.specs.Prelude.{codes, Option, Some, None}
use Rattle.std.specs.List.{list_any, slice_split}
use Rattle.std.specs.Str.{str_to_ascii_lowercase}
use Rattle.yp_version.specs.Rows.{Row, value_of}
use Rattle.yp_netgroup.specs.Parts.{Triple, parts, triples, is_comma}
use Rattle.yp_netgroup.specs.Reach.{SoughtMember}
use Rattle.yp_netgroup.specs.inside.Reach.{IsMember}
use Rattle.yp_netgroup.specs.declared.reverse.field.Field.{Field}
use Rattle.yp_netgroup.specs.declared.reverse.field.Field.TheVariants.{User, Host}
use Rattle.yp_netgroup.specs.reverse.Keys.{part_of, is_dash, counts, folded, dotted}
use Rattle.yp_netgroup.specs.reverse.Reverse.{is_name, IsReverse}

-- ---- looking up

-- one of the groups of a value
abbrev pub has_group : List ℕ → Option (List ℕ) → Bool
has_group group None = false
has_group group (Some value) = list_any (bytes_eq group) (slice_split is_comma value)

-- the keys under which somebody may stand: any part of a triple may be left out
abbrev pub any : List ℕ
any = codes "*"

abbrev pub keys_for : List ℕ → List ℕ → List (List ℕ)
keys_for name domain = dotted name domain ∷ dotted name any ∷ dotted any domain ∷ dotted any any ∷ []

-- a group is one of those of such a key; domains and hosts are without ASCII case
unfoldable pub is_listed : List Row → Field → List ℕ → List ℕ → List ℕ → Bool
is_listed reverse field group name domain =
    list_any (λ key. has_group group (value_of key reverse))
    (keys_for (folded field name) (str_to_ascii_lowercase domain))

-- ---- membership

-- a dot is in a name
abbrev pub has_dot : List ℕ → Bool
has_dot name = list_any (λ b. b == 46) name

-- a triple whose key could be another's, too
abbrev pub is_mixed : Field → Triple → Bool
is_mixed field triple =
    counts field triple && (has_dot triple.domain || bytes_eq triple.domain any || bytes_eq (part_of field triple) any)

-- No triple that counts, of any row, has a domain with a dot in it, or an asterisk for its domain or its part.
unfoldable pub is_split : Field → List Row → Bool
is_split field rows = not (list_any (λ row. list_any (is_mixed field) (triples (parts row.1))) rows)

-- a name that stands for itself alone
abbrev pub is_plain : List ℕ → Bool
is_plain name = not (length name == 0 || bytes_eq name any || is_dash name)

-- who is asked for: this user, or this host, in this domain
abbrev pub asked_for : Field → List ℕ → List ℕ → SoughtMember
asked_for User name domain = record { host = None; user = Some name; domain = Some domain }
asked_for Host name domain = record { host = Some name; user = None; domain = Some domain }

-- In a map whose keys are one triple's each, a look-up in its reverse is membership.
abbrev pub ListedIsMembership : Type 0
ListedIsMembership = (rows reverse : List Row) (field : Field) (group name domain : List ℕ)
    → IsReverse rows field reverse
    → IsTrue (is_split field rows)
    → IsTrue (is_name group)
    → IsTrue (is_plain name)
    → IsTrue (is_plain domain && not (has_dot domain))
    → IsTrue (is_listed reverse field group name domain) ↔ IsMember rows group (asked_for field name domain)
