-- Each key that a group has is among those of the listings.
use Rattle.std.proofs.Common.{◌≡◌, ℕ, Bool, true, false, cond, List, [], ◌∷◌, ◌++◌, map, bytes_eq, Contains, refl, sym, ap, ◌∙◌, subst}
use Rattle.std.specs.Prelude.{◌↔◌}
use Rattle.std.specs.Borrow.{Bor}
use Rattle.std.specs.List.Sorted.{IsStrictlySortedBy}
use Rattle.yp_version.specs.Rows.{Row, key_cmp}
use Rattle.yp_netgroup.specs.Reach.{members_of}
use Rattle.yp_netgroup.specs.declared.reverse.field.Field.{Field}
use Rattle.yp_netgroup.specs.declared.reverse.keys.Listing.{Listing}
use Rattle.yp_netgroup.specs.inside.reverse.Links.{Link, LinkTable, bytes_in, under, sources, listing, key_in}
use Rattle.yp_netgroup.specs.inside.reverse.Listings.{link_of}
use Rattle.yp_netgroup.specs.inside.reverse.Refused.{HasAllKeys}
use Rattle.yp_netgroup.specs.reverse.Reverse.{IsListed}
use Rattle.yp_netgroup.specs.inside.reverse.Groups.{IsKeptOf, IsReadOf}
use Rattle.yp_netgroup.proofs.reverse.Dots.{same}
use Rattle.yp_netgroup.proofs.reverse.Leading.{names_link, key_picked}
use Rattle.yp_netgroup.proofs.reverse.Meeting.{contains-none}
use Rattle.yp_netgroup.proofs.reverse.Pieces.{first-in, later-in}

abbrev Name : Type 0
Name = List ℕ

abbrev name_of_link : Link → Name
name_of_link link = link.0

source_name : (name other : Name) (links : List Link) → Contains (sources name links) other → Contains (map name_of_link links) name
source_name name other [] h = absurd (contains-none other h)
source_name name other (link ∷ links) h = by (bytes_eq link.0 name) refl (source_name name other links) h
  where
    by : (t : Bool) → bytes_eq link.0 name ≡ t → (Contains (sources name links) other → Contains (map name_of_link links) name)
        → Contains (cond t (link.1 ∷ []) [] ++ sources name links) other → Contains (link.0 ∷ map name_of_link links) name
    by true e rest h = subst (Contains (link.0 ∷ map name_of_link links)) (same link.0 name e) (first-in link.0 (map name_of_link links))
    by false e rest h = later-in link.0 (map name_of_link links) name (rest h)

link_names : (listings : List Listing) → map name_of_link (map link_of listings) ≡ map (λ (listing : Listing). listing.key.items) listings
link_names [] = refl
link_names (first ∷ listings) = ap (λ names. first.key.items ∷ names) (link_names listings)

pub listed_key : (rows : List Row) (field : Field) (listings : List Listing) (keys : List Name)
    → map link_of listings ≡ listing field rows
    → ((name : Name) → Contains keys name ↔ Contains (map (λ (listing : Listing). listing.key.items) listings) name)
    → (key group : Name) → IsListed rows field key group → Contains keys key
listed_key rows field listings keys are all key group listed =
    let via = listed.has.via in
    let link = names_link rows (key_in field) key via (key_picked field key (members_of rows via) listed.has.listed) in
    let named = source_name key via (listing field rows) link in
    (all key).1 (subst (λ names. Contains names key) (sym (ap (map name_of_link) are) ∙ link_names listings) named)

-- ---- what is read of a map

module _ (rows : List Row) (field : Field) (named : LinkTable) (listings : List Listing)
    (read : IsReadOf rows field named (map link_of listings)) where
  -- and kept of it
  pub kept_of : (by_key : LinkTable) → ((key : Name) → under by_key key ≡ sources key (map link_of listings)) → IsKeptOf rows field named by_key
  kept_of by_key keys = record {
    rising = read.rising;
    by_name = read.by_name;
    by_key = λ key. keys key ∙ ap (sources key) read.all;
  }

  -- names in order that are those of the listings have all keys
  pub keys_whole : (put sorted lent : List (Bor (List ℕ)))
      → bytes_in put ≡ map (λ (listing : Listing). listing.key.items) listings → lent ≡ sorted
      → ((name : Name) → Contains (bytes_in sorted) name ↔ Contains (bytes_in put) name)
      → HasAllKeys rows field (bytes_in lent)
  keys_whole put sorted lent puts same_lent moved key group listed =
      let from : (name : Name) → Contains (bytes_in sorted) name ↔ Contains (map (λ (listing : Listing). listing.key.items) listings) name =
      subst (λ names. (name : Name) → Contains (bytes_in sorted) name ↔ Contains names name) puts moved in
      subst (λ names. Contains (bytes_in names) key) (sym same_lent)
      (listed_key rows field listings (bytes_in sorted) read.all from key group listed)

pub sorted_keys : (sorted read : List (Bor (List ℕ))) → read ≡ sorted → IsStrictlySortedBy key_cmp (bytes_in sorted)
    → IsStrictlySortedBy key_cmp (bytes_in read)
sorted_keys sorted read same rises = subst (λ names. IsStrictlySortedBy key_cmp (bytes_in names)) (sym same) rises
