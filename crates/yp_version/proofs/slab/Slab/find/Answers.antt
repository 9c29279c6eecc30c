use Rattle.std.proofs.Common.{ℕ, List, subst, sym, MatchOption, length, map, rules}
use Rattle.std.proofs.lemmas.Fn.{always_returns_same}
use Rattle.std.specs.List.Sorted.{IsSearchInRange, IsBinarySearchResult}
use Rattle.yp_version.specs.inside.Places.{StandsAt, IsAbsent}
use Rattle.yp_version.specs.Rows.{key_cmp, IsRising}
use Rattle.yp_version.specs.inside.Slabs.{Packed, key_from, row_from}
use Rattle.yp_version.proofs.Search.{searched}
use Rattle.yp_version.proofs.slab.Slab.find.Goals as goal

pub returns : goal.returns
returns c =
    let bytes = c.self.inside.bytes.items in
    let places = c.self.inside.places.items in
    let key = c.args.key.now in
    let bound = subst (λ (l : List ℕ). IsSearchInRange c.binary_search_by.result (length l)) c.deref.ensures.value c.binary_search_by.ensures.bound in
    let of_lent = c.binary_search_by.ensures.position (λ place. key_cmp (key_from c.as_slice-bytes.result.now place) key)
    (always_returns_same _ _ _ (λ a r f k. search rules)) in
    let of_slab = subst (λ (l : List ℕ). IsBinarySearchResult (λ place. key_cmp (key_from l place) key) c.deref.result.now c.binary_search_by.result) c.as_slice-bytes.ensures.value of_lent in
    let split = subst (λ (l : List ℕ). IsBinarySearchResult (λ place. key_cmp (key_from bytes place) key) l c.binary_search_by.result) c.deref.ensures.value of_slab in
    let rising = subst (λ (p : Packed). IsRising p.rows) (sym c.self.view_is) c.requires in
    let found = searched (row_from bytes) places key c.binary_search_by.result rising bound split in
    subst (λ (p : Packed). MatchOption c.ok.result (IsAbsent key p.rows) (StandsAt key p.rows)) c.self.view_is
    (subst (λ o. MatchOption o (IsAbsent key (map (row_from bytes) places)) (StandsAt key (map (row_from bytes) places))) (sym c.ok.ensures.value) found)
