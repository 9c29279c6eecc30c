-- The keys of a reverse netgroup map: a user or a host, a dot, and a domain, as clients ask netgroup.byuser and
-- netgroup.byhost. What counts, and what is in lower case, is this project's choice where netgroup(5) says nothing.
use Rattle.std.specs.Prelude.{ℕ, Bool, not, ◌||◌, ◌&&◌, List, [], ◌∷◌, ◌++◌, bytes_eq, codes}
use Rattle.std.specs.List.{list_any}
use Rattle.std.specs.Str.{str_to_ascii_lowercase}
use Rattle.yp_netgroup.specs.Parts.{Triple, Part, triples}
use Rattle.yp_netgroup.specs.declared.reverse.field.Field.{Field}
use Rattle.yp_netgroup.specs.declared.reverse.field.Field.TheVariants.{User, Host}

-- the part of a triple that a map is reversed by
abbrev pub part_of : Field → Triple → List ℕ
part_of User triple = triple.user
part_of Host triple = triple.host

abbrev pub is_dash : List ℕ → Bool
is_dash name = bytes_eq name (codes "-")

-- A triple counts unless its part or its domain is a dash, which stands for none.
abbrev pub counts : Field → Triple → Bool
counts field triple = not (is_dash (part_of field triple) || is_dash triple.domain)

-- a host without ASCII case, and a user as it is
abbrev pub folded : Field → List ℕ → List ℕ
folded User name = name
folded Host name = str_to_ascii_lowercase name

-- an asterisk for an empty name, which stands for any
abbrev pub or_any : List ℕ → List ℕ
or_any [] = codes "*"
or_any (b ∷ name) = b ∷ name

-- a name, a dot, and a domain
abbrev pub dotted : List ℕ → List ℕ → List ℕ
dotted name domain = name ++ 46 ∷ domain

-- the key of a triple; domains are without ASCII case
abbrev pub key_of : Field → Triple → List ℕ
key_of field triple =
    dotted (or_any (folded field (part_of field triple))) (or_any (str_to_ascii_lowercase triple.domain))

-- one of the members is a triple that counts and has this key
abbrev pub has_key : Field → List ℕ → List Part → Bool
has_key field key members =
    list_any (λ triple. counts field triple && bytes_eq (key_of field triple) key) (triples members)
