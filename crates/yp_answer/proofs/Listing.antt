-- The maps of a domain, listed by their numbers.
use Rattle.std.proofs.Common.{◌≡◌, ℕ, zero, suc, ◌+◌, ◌<◌, ◌≤◌, Bool, true, false, cond, ◌&&◌, List, [], ◌∷◌, ◌++◌, length, slice_get, Option, Some, None, refl, sym, ap, subst, ◌∙◌, append_assoc, arith}
use Rattle.std.specs.List.{IsDistinct, AllByRecursion, position_or_len, position}
use Rattle.std.proofs.lemmas.Option.{slice_get_within, get_or_from_slice_get}
use Rattle.std.proofs.lemmas.Bool.{lt-ltb}
use Rattle.std.proofs.lemmas.Slice.Eq.{bytes_eq-Decides}
use Rattle.std.specs.Prelude.{is_some, bytes_eq, flat_map, filter, map, option_map, slice_index_or}
use Rattle.std.specs.Option.{option_and_then}
use Rattle.std.specs.Ordering.{match_ordering}
use Rattle.std.specs.declared.cmp.Ordering.{Ordering}
use Rattle.std.specs.declared.cmp.Ordering.TheVariants.{Less, Equal, Greater}
use Rattle.yp_xdr.specs.Kind.{ListOf}
use Rattle.yp_xdr.specs.Spelling.{spelling}
use Rattle.yp_messages.specs.Messages.{name}
use Rattle.yp_messages.specs.inside.MapLists.{map_item}
use Rattle.yp_board.specs.Catalogues.{Name, Catalogue, IsCatalogue, name_max, is_named, is_same, listed, inserted, name_cmp}
use Rattle.yp_board.specs.Logs.{shown}
use Rattle.yp_answer.specs.Maps.{Maps, version_of}
use Rattle.yp_answer.specs.Results.{is_listed}
use Rattle.yp_answer.specs.inside.Results.{map_part}

-- a name is the one of its parts
is_own : (name : Name) → is_named name.0 name.1 name ≡ true
is_own name = rw ((bytes_eq-Decides name.0 name.0).1 refl, (bytes_eq-Decides name.1 name.1).1 refl) refl

-- what holds of each holds of one
each : {X : Type 0} (P : X → Type 0) (xs : List X) (i : ℕ) (x : X) → AllByRecursion P xs → slice_get xs i ≡ Some x → P x
each P [] i x all there = absurd (omega (arith, slice_get_within [] i x there))
each P (y ∷ ys) zero x all there = let same : y ≡ x = cc in subst P same all.0
each P (y ∷ ys) (suc i) x all there = each P ys i x all.1 there

-- among distinct names the first with the parts of one of them is that one
first_own : (maps : List Name) (i : ℕ) (name : Name) → IsDistinct is_same maps → slice_get maps i ≡ Some name → position_or_len (is_named name.0 name.1) maps ≡ i
unfolding IsDistinct
first_own [] i name distinct there = absurd (omega (arith, slice_get_within [] i name there))
first_own (x ∷ xs) zero name distinct there =
    let same : x ≡ name = cc in
    let own : is_named name.0 name.1 x ≡ true = ap (is_named name.0 name.1) same ∙ is_own name in
    rw own refl
first_own (x ∷ xs) (suc i) name distinct there =
    let other : is_named name.0 name.1 x ≡ false = each (λ y. is_same x y ≡ false) xs i name distinct.0 there in
    let rest : position_or_len (is_named name.0 name.1) xs ≡ i = first_own xs i name distinct.1 there in
    rw (other, rest) (omega arith)

-- so its number is found again
pub own_number : (maps : List Name) (i : ℕ) (name : Name) → IsDistinct is_same maps → slice_get maps i ≡ Some name → position (is_named name.0 name.1) maps ≡ Some i
own_number maps i name distinct there =
    let within : i < length maps = slice_get_within maps i name there in
    rw (first_own maps i name distinct there, lt-ltb i (length maps) within) refl

-- ---- which maps are listed

-- a map's version, by its own name
version_own : (maps : Maps) (map : ℕ) (named : Name) → IsDistinct is_same maps.catalogue.maps → slice_get maps.catalogue.maps map ≡ Some named → version_of maps named.0 named.1 ≡ shown map maps.log
version_own maps map named distinct there =
    ap (option_and_then (λ (number : ℕ). shown number maps.log)) (own_number maps.catalogue.maps map named distinct there)

-- it is listed where its domain is the one, and it has a version
pub listed_as : (maps : Maps) (domain : List ℕ) (map : ℕ) (named : Name) (same held : Bool) → IsDistinct is_same maps.catalogue.maps → slice_get maps.catalogue.maps map ≡ Some named
    → bytes_eq named.0 domain ≡ same → is_some (shown map maps.log) ≡ held → is_listed maps domain named ≡ same && held
listed_as maps domain map named same held distinct there domains versions =
    let version : is_some (version_of maps named.0 named.1) ≡ held = ap is_some (version_own maps map named distinct there) ∙ versions in
    rw (domains, version) refl

-- a version that is lent is there
pub is_some-option_map : {X Y : Type 0} (f : X → Y) (o : Option X) → is_some (option_map f o) ≡ is_some o
is_some-option_map f None = refl
is_some-option_map f (Some x) = refl

-- the bytes of a map that is listed, and of one that isn't
pub part_listed : (maps : Maps) (domain : List ℕ) (named : Name) → is_listed maps domain named ≡ true → map_part maps domain named ≡ spelling map_item (Some named.1)
part_listed maps domain named is = rw is refl

pub part_left_out : (maps : Maps) (domain : List ℕ) (named : Name) → is_listed maps domain named ≡ false → map_part maps domain named ≡ []
part_left_out maps domain named is = rw is refl

-- ---- the whole list

-- parts and the end are the list of the names that are listed
pub list_parts : (maps : Maps) (domain : List ℕ) (names : List Name)
    → flat_map (map_part maps domain) names ++ spelling map_item None ≡ spelling (ListOf name) (map (λ named. named.1) (filter (is_listed maps domain) names))
list_parts maps domain [] = refl
list_parts maps domain (named ∷ names) =
    let rest = list_parts maps domain names in
    elim (is_listed maps domain named) as (λ (listed : Bool). cond listed (spelling map_item (Some named.1)) [] ++ flat_map (map_part maps domain) names ++ spelling map_item None
    ≡ spelling (ListOf name) (map (λ (n : Name). n.1) (cond listed (named ∷ filter (is_listed maps domain) names) (filter (is_listed maps domain) names)))) [
      | true ↦ append_assoc (spelling map_item (Some named.1)) (flat_map (map_part maps domain) names) (spelling map_item None)
          ∙ ap (λ (bytes : List ℕ). spelling map_item (Some named.1) ++ bytes) rest ∙ sym (append_assoc (spelling map_item (Some named.1)) _ _)
      | false ↦ rest
    ]

-- no more maps are listed than there are
inserted_few : (one : Name) (names : List Name) → length (inserted one names) ≤ length names + 1
inserted_few one [] = omega arith
inserted_few one (other ∷ names) =
    elim (name_cmp one other) as (λ (order : Ordering). length (match_ordering order (one ∷ other ∷ names) (one ∷ names) (other ∷ inserted one names)) ≤ length (other ∷ names) + 1) [
      | Less ↦ omega arith
      | Equal ↦ omega arith
      | Greater ↦ omega (arith, inserted_few one names)
    ]

pub listed_few : (names : List Name) → length (listed names) ≤ length names
listed_few [] = omega arith
listed_few (one ∷ names) = omega (arith, inserted_few one (listed names), listed_few names)

-- what is known of a map that a catalogue names
pub record IsNamed (catalogue : Catalogue) (map : ℕ) (named : Name) : Type 0 where
  pub there : slice_get catalogue.maps map ≡ Some named
  pub distinct : IsDistinct is_same catalogue.maps
  pub is : slice_index_or catalogue.maps map ([], []) ≡ named
  pub len : length named.1 ≤ name_max

pub named_by : (old now : Catalogue) (map : ℕ) (named : Name) → old ≡ now → IsCatalogue old → slice_get old.maps map ≡ Some named → IsNamed now map named
named_by old now map named same h there =
    let is : slice_index_or old.maps map ([], []) ≡ named = get_or_from_slice_get old.maps map named ([], []) there in
    let is_name = h.maps map ([], []) (slice_get_within old.maps map named there) in
    subst (λ catalogue. IsNamed catalogue map named) same (record {
      there = there;
      distinct = h.distinct;
      is = is;
      len = subst (λ (n : Name). length n.1 ≤ name_max) is is_name.within;
    })
