-- The groups that lead to those that list a key are those that have it.
use Rattle.std.proofs.Common.{◌≡◌, ℕ, Bool, true, false, cond, List, [], ◌∷◌, ◌++◌, map, bytes_eq, Option, Some, None}
use Rattle.std.proofs.Common.{Contains, refl, sym, ap, ◌∙◌, subst, inl, inr, true≢false}
use Rattle.std.specs.Prelude.{◌↔◌, ◌&&◌, flat_map, is_some, unwrap_or, filter}
use Rattle.std.specs.List.{filter_map}
use Rattle.std.specs.List.Sorted.{IsStrictlySortedBy}
use Rattle.std.specs.Map.{keys_of, lookup}
use Rattle.std.proofs.lemmas.Cmp.{nat_list_eq_equiv}
use Rattle.std.proofs.lemmas.List.Elements.{Contains-append_left, Contains-append_right, Contains-append_cases}
use Rattle.std.proofs.lemmas.Map.Views.{lookup-from_Contains}
use Rattle.yp_version.specs.Rows.{Row, key_cmp, value_of}
use Rattle.yp_version.specs.inside.Rows.{HasDistinctKeys}
use Rattle.yp_netgroup.specs.Parts.{Part, Triple, Includes, Lists, parts, names, triples, name_of, triple_in_part}
use Rattle.yp_netgroup.specs.Reach.{NamesGroup, Reaches, Itself, Onward, members_of}
use Rattle.yp_netgroup.specs.declared.reverse.field.Field.{Field}
use Rattle.yp_netgroup.specs.reverse.Keys.{counts, key_of, has_key}
use Rattle.yp_netgroup.specs.inside.reverse.Links.{Link, source, sources, naming, listing, key_in}
use Rattle.yp_netgroup.specs.inside.reverse.Back.{LeadsBack, Start, Back}
use Rattle.yp_netgroup.specs.reverse.Reverse.{is_name, HasKey}
use Rattle.yp_netgroup.specs.inside.reverse.Groups.{IsGroups}
use Rattle.yp_netgroup.proofs.reverse.Dots.{both, parted, same, equal}
use Rattle.yp_netgroup.proofs.reverse.Linking.{sources-append}
use Rattle.yp_netgroup.proofs.reverse.Looking.{Found, found, finds, row_of, no_parts}
use Rattle.yp_netgroup.proofs.reverse.Meeting.{contains-none}
use Rattle.yp_netgroup.proofs.reverse.Pieces.{first-in, later-in, in-cases, Contains-map, Contains-filter, from-filter, picked, Contains-pick}

abbrev Name : Type 0
Name = List ℕ

-- ---- a group under a name

abbrev links_of : (Part → Option Name) → Row → List Link
links_of pick row = map (λ name. (name, row.0)) (filter_map pick (parts row.1))

-- a row of the group whose text has the name
pub record Linked (pick : Part → Option Name) (rows : List Row) (name group : Name) : Type 0 where
  pub text : Name
  pub row : Contains rows (group, text)
  pub has : Contains (filter_map pick (parts text)) name

one_link : (name group other : Name) (names : List Name) → Contains (sources name (map (λ name. (name, group)) names)) other
    → (group ≡ other) × Contains names name
one_link name group other [] h = absurd (contains-none other h)
one_link name group other (n ∷ names) h = by (bytes_eq n name) refl (one_link name group other names) h
  where
    by : (t : Bool) → bytes_eq n name ≡ t
        → (Contains (sources name (map (λ name. (name, group)) names)) other → (group ≡ other) × Contains names name)
        → Contains (cond t (group ∷ []) [] ++ sources name (map (λ name. (name, group)) names)) other
        → (group ≡ other) × Contains (n ∷ names) name
    by true e rest h = elim (in-cases group (sources name (map (λ name. (name, group)) names)) other h) [
      | inl is ↦ (is, subst (Contains (n ∷ names)) (same n name e) (first-in n names))
      | inr later ↦ let two = rest later in (two.0, later-in n names name two.1)
    ]
    by false e rest h = let two = rest h in (two.0, later-in n names name two.1)

link_there : (name group : Name) (names : List Name) → Contains names name → Contains (sources name (map (λ name. (name, group)) names)) group
link_there name group [] h = absurd (contains-none name h)
link_there name group (n ∷ names) h =
    elim (in-cases n names name h) [
      | inl is ↦ Contains-append_left (source name (n, group)) (sources name (map (λ name. (name, group)) names)) group
          (subst (λ t. Contains (cond t (group ∷ []) []) group) (sym (equal n name is)) (first-in group []))
      | inr later ↦ Contains-append_right (source name (n, group)) (sources name (map (λ name. (name, group)) names)) group
          (link_there name group names later)
    ]

pub linked : (pick : Part → Option Name) (rows : List Row) (name group : Name)
    → Contains (sources name (flat_map (links_of pick) rows)) group → Linked pick rows name group
linked pick [] name group h = absurd (contains-none group h)
linked pick (row ∷ rows) name group h =
    let apart = subst (λ groups. Contains groups group) (sources-append name (links_of pick row) (flat_map (links_of pick) rows)) h in
    elim (Contains-append_cases (sources name (links_of pick row)) (sources name (flat_map (links_of pick) rows)) group apart) [
      | inl here ↦
          let two = one_link name row.0 group (filter_map pick (parts row.1)) here in
          record {
            text = row.1;
            row = subst (λ (g : Name). Contains (row ∷ rows) (g, row.1)) two.0 (first-in row rows);
            has = two.1;
          }
      | inr later ↦
          let at = linked pick rows name group later in
          record { text = at.text; row = later-in row rows (group, at.text) at.row; has = at.has }
    ]

pub links_there : (pick : Part → Option Name) (rows : List Row) (name group text : Name) → Contains rows (group, text)
    → Contains (filter_map pick (parts text)) name → Contains (sources name (flat_map (links_of pick) rows)) group
links_there pick [] name group text h has = absurd (contains-none (group, text) h)
links_there pick (row ∷ rows) name group text h has =
    let more = flat_map (links_of pick) rows in
    subst (λ groups. Contains groups group) (sym (sources-append name (links_of pick row) more)) (elim (in-cases row rows (group, text) h) [
      | inl is ↦ Contains-append_left (sources name (links_of pick row)) (sources name more) group
          (subst (λ (r : Row). Contains (sources name (links_of pick r)) group) (sym is)
          (link_there name group (filter_map pick (parts text)) has))
      | inr later ↦ Contains-append_right (sources name (links_of pick row)) (sources name more) group
          (links_there pick rows name group text later has)
    ])

-- ---- a key of members

key_case : (field : Field) (key : Name) (members : List Part) (part : Part) → Contains members part → key_in field part ≡ Some key
    → has_key field key members ≡ true
key_case field key members (Includes name) there e = absurd (true≢false (sym (ap is_some e)))
key_case field key members (Lists triple) there e = by (counts field triple) refl e
  where
    test : Triple → Bool
    test triple = counts field triple && bytes_eq (key_of field triple) key

    by : (c : Bool) → counts field triple ≡ c → cond c (Some (key_of field triple)) None ≡ Some key → has_key field key members ≡ true
    by false f e = absurd (true≢false (sym (ap is_some e)))
    by true f e =
        finds test (triples members) triple (Contains-pick triple_in_part members (Lists triple) triple there refl)
        (both (counts field triple) (bytes_eq (key_of field triple) key) f
        (equal (key_of field triple) key (ap (λ k. unwrap_or k key) e)))

pub picked_key : (field : Field) (key : Name) (members : List Part) → Contains (filter_map (key_in field) members) key
    → has_key field key members ≡ true
picked_key field key members h =
    let at = picked (key_in field) members key h in
    key_case field key members at.it at.there at.is

listing_part : (part : Part) (triple : Triple) → triple_in_part part ≡ Some triple → part ≡ Lists triple
listing_part (Includes name) triple e = absurd (true≢false (sym (ap is_some e)))
listing_part (Lists other) triple e = ap (λ t. Lists (unwrap_or t triple)) e

pub key_picked : (field : Field) (key : Name) (members : List Part) → has_key field key members ≡ true
    → Contains (filter_map (key_in field) members) key
key_picked field key members h =
    let test : Triple → Bool = λ triple. counts field triple && bytes_eq (key_of field triple) key in
    let at : Found test (triples members) = found test (triples members) h in
    let two = parted (counts field at.it) (bytes_eq (key_of field at.it) key) at.passes in
    let part = picked triple_in_part members at.it at.there in
    let is : key_in field part.it ≡ Some key =
    ap (key_in field) (listing_part part.it at.it part.is)
    ∙ ap (λ c. cond c (Some (key_of field at.it)) None) two.0 ∙ ap Some (same (key_of field at.it) key two.1) in
    Contains-pick (key_in field) members part.it key part.there is

-- ---- what leads to a key

-- the test of a key may have its names the other way round
eq_flip : (key : Name) → (λ other. bytes_eq other key) ≡ bytes_eq key
eq_flip key i other = nat_list_eq_equiv.symm other key i

module _ (rows : List Row) where
  text_is : HasDistinctKeys rows → (group text : Name) → Contains rows (group, text) → members_of rows group ≡ parts text
  text_is distinct group text h =
      let value : value_of group rows ≡ Some text =
      ap (λ test. lookup test rows) (eq_flip group) ∙ lookup-from_Contains nat_list_eq_equiv group text rows distinct h in
      ap (λ v. parts (unwrap_or v [])) value

  link_names : HasDistinctKeys rows → (pick : Part → Option Name) (name group : Name)
      → Contains (sources name (flat_map (links_of pick) rows)) group
      → Contains (filter_map pick (members_of rows group)) name
  link_names distinct pick name group h =
      let at = linked pick rows name group h in
      subst (λ members. Contains (filter_map pick members) name) (sym (text_is distinct group at.text at.row)) at.has

  value_links : (pick : Part → Option Name) (name group : Name) (value : Option Name) → value_of group rows ≡ value
      → Contains (filter_map pick (parts (unwrap_or value []))) name → Contains (sources name (flat_map (links_of pick) rows)) group
  value_links pick name group None e h =
      absurd (contains-none name (subst (λ members. Contains (filter_map pick members) name) no_parts h))
  value_links pick name group (Some text) e h = links_there pick rows name group text (row_of rows group text e).row h

  pub names_link : (pick : Part → Option Name) (name group : Name) → Contains (filter_map pick (members_of rows group)) name
      → Contains (sources name (flat_map (links_of pick) rows)) group
  names_link pick name group h = value_links pick name group (value_of group rows) refl h

  link_row : (pick : Part → Option Name) (name group : Name) → Contains (sources name (flat_map (links_of pick) rows)) group
      → Contains (keys_of rows) group
  link_row pick name group h =
      let at = linked pick rows name group h in
      Contains-map (λ (row : Row). row.0) rows (group, at.text) at.row

  -- a group that names one that reaches another reaches it, too
  reaches_front : (group name via : Name) → NamesGroup rows group name → Reaches rows name via → Reaches rows group via
  reaches_front group name via named Itself = Onward Itself named
  reaches_front group name via named (Onward {via = mid} reached last) = Onward (reaches_front group name mid named reached) last

  module _ (distinct : HasDistinctKeys rows) (field : Field) (key : Name) (under : Name → List Name) (starts : List Name)
      (are : (name : Name) → under name ≡ sources name (naming rows)) (begin : starts ≡ sources key (listing field rows)) where
    leads_has : (group : Name) → LeadsBack under starts group → HasKey rows field key group
    leads_has group (Start h) = record {
      via = group;
      reached = Itself;
      listed = picked_key field key (members_of rows group)
          (link_names distinct (key_in field) key group (subst (λ groups. Contains groups group) begin h));
    }
    leads_has group (Back {via} led below) =
        let has = leads_has via led in record {
          via = has.via;
          reached = reaches_front group via has.via
              (link_names distinct name_of via group (subst (λ groups. Contains groups group) (are via) below)) has.reached;
          listed = has.listed;
        }

    leads_row : (group : Name) → LeadsBack under starts group → Contains (keys_of rows) group
    leads_row group (Start h) = link_row (key_in field) key group (subst (λ groups. Contains groups group) begin h)
    leads_row group (Back {via} led below) = link_row name_of via group (subst (λ groups. Contains groups group) (are via) below)

    reaches_leads : (group via : Name) → Reaches rows group via → LeadsBack under starts via → LeadsBack under starts group
    reaches_leads group via Itself led = led
    reaches_leads group via (Onward {via = mid} reached named) led =
        reaches_leads group mid reached
        (Back led (subst (λ groups. Contains groups mid) (sym (are via)) (names_link name_of via mid named)))

    has_leads : (group : Name) → HasKey rows field key group → LeadsBack under starts group
    has_leads group has =
        reaches_leads group has.via has.reached
        (Start (subst (λ groups. Contains groups has.via) (sym begin)
        (names_link (key_in field) key has.via (key_picked field key (members_of rows has.via) has.listed))))

    -- of the groups that lead to it, those with names that a text can spell are those of the key
    pub leading_groups : (seen groups : List Name) → ((group : Name) → Contains seen group ↔ LeadsBack under starts group)
        → IsStrictlySortedBy key_cmp groups → ((group : Name) → Contains groups group ↔ Contains (filter is_name seen) group)
        → IsGroups rows field key groups
    leading_groups seen groups led sorted spelled = record {
      rising = sorted;
      exactly = λ group. (
        λ h.
            let two = from-filter is_name seen group ((spelled group).0 h) in
            let leads = (led group).0 two.0 in
            record { row = leads_row group leads; name = two.1; has = leads_has group leads },
        λ listed. (spelled group).1 (Contains-filter is_name seen group ((led group).1 (has_leads group listed.has)) listed.name),
      );
    }
