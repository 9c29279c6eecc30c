-- The groups that are reached from a group of a netgroup map, and who is a member (manuals of netgroup(5), innetgr(3)).
use Rattle.std.specs.Prelude.{ℕ, Bool, true, not, ◌||◌, ◌&&◌, ◌==◌, List, [], length, Contains}
use Rattle.std.specs.Prelude.{Option, Some, None, unwrap_or, bytes_eq, codes}
use Rattle.std.specs.List.{list_any}
use Rattle.std.specs.Str.{str_eq_ignore_ascii_case}
use Rattle.yp_version.specs.Rows.{Row, value_of}
use Rattle.yp_netgroup.specs.Parts.{Triple, Part, parts, names, triples}

-- ---- groups

-- the text of a group: the value of its row; one without a row has none
abbrev pub group_text : List Row → List ℕ → List ℕ
group_text rows group = unwrap_or (value_of group rows) []

-- the members of a group
abbrev pub members_of : List Row → List ℕ → List Part
members_of rows group = parts (group_text rows group)

-- the text of one group names another
abbrev pub NamesGroup : List Row → List ℕ → List ℕ → Type 0
NamesGroup rows group name = Contains (names (members_of rows group)) name

-- A group reaches itself, and where it reaches one that names another, that one.
pub data Reaches (rows : List Row) (group : List ℕ) : List ℕ → Type 0 where
  Itself : Reaches rows group group
  Onward : {via name : List ℕ} → Reaches rows group via → NamesGroup rows via name → Reaches rows group name

-- ---- membership

-- who is asked for; what isn't given may be any
pub record SoughtMember : Type 0 where
  pub host : Option (List ℕ)
  pub user : Option (List ℕ)
  pub domain : Option (List ℕ)

-- A field that is empty stands for any, and one that is `-` for none.
abbrev pub field_fits : (List ℕ → List ℕ → Bool) → List ℕ → Option (List ℕ) → Bool
field_fits same field None = true
field_fits same field (Some given) =
    length field == 0 || (same field given && not (bytes_eq field (codes "-")))

-- Hosts and domains are compared without ASCII case, users byte by byte.
abbrev pub fits : SoughtMember → Triple → Bool
fits asked triple =
    field_fits str_eq_ignore_ascii_case triple.host asked.host && field_fits bytes_eq triple.user asked.user
    && field_fits str_eq_ignore_ascii_case triple.domain asked.domain

-- One of the members of a group is a triple that fits.
abbrev pub has_fitting : SoughtMember → List Part → Bool
has_fitting asked members = list_any (fits asked) (triples members)
