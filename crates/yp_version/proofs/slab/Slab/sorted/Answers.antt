use Rattle.std.proofs.Common.{◌≡◌, ℕ, List, length, map, ap, ◌∙◌, sym, subst, arith, All, IsPermutation}
use Rattle.std.proofs.lemmas.List.Sorted.{All-permutation, IsPermutation-map, sum_by-IsPermutation}
use Rattle.yp_version.specs.Rows.{Row, IsRising, row_len, rows_len}
use Rattle.yp_version.specs.inside.Rows.{HasDistinctKeys}
use Rattle.yp_version.specs.inside.Slabs.{Packed, IsRowAt, row_from}
use Rattle.yp_version.specs.inside.Slab.{packed_of}
use Rattle.yp_version.proofs.Packing.{slab_rows_at, bytes_len, if_gathered}
use Rattle.yp_version.proofs.Sorted.{sorted_rises}
use Rattle.yp_version.proofs.slab.Slab.sorted.Goals as goal

pub gathered-requires-clause-rows : goal.gathered-requires-clause-rows
gathered-requires-clause-rows c =
    let bytes = c.self.inside.bytes.items in
    let places = c.in_ok-sorted.ensures.moved in
    let there = All-permutation (IsRowAt bytes) c.self.inside.places.items c.in_ok-sorted.sorted.items places (slab_rows_at c.self.inside c.self.invariant) in
    subst (λ (l : List ℕ). All (IsRowAt l) c.deref.result.now) (sym c.as_slice-all.ensures.value)
    (subst (λ (l : List ℕ). All (IsRowAt bytes) l) (sym c.deref.ensures.value) there)

pub gathered-requires-clause-room : goal.gathered-requires-clause-room
gathered-requires-clause-room c =
    let places = c.in_ok-sorted.ensures.moved in
    let moved = IsPermutation-map (row_from c.self.inside.bytes.items) c.self.inside.places.items c.in_ok-sorted.sorted.items places in
    let sums = sum_by-IsPermutation row_len (packed_of c.self.inside).rows (map (row_from c.self.inside.bytes.items) c.in_ok-sorted.sorted.items) moved in
    let rows : rows_len (map (row_from c.as_slice-all.result.now) c.deref.result.now) ≡ rows_len (map (row_from c.self.inside.bytes.items) c.in_ok-sorted.sorted.items) =
    (λ i. rows_len (map (row_from (c.as_slice-all.ensures.value i)) (c.deref.ensures.value i))) in
    let head = c.requires.head ∙ ap (λ (p : Packed). length p.head) (sym c.self.view_is) in
    let len = bytes_len c.self.inside c.self.invariant in
    let small = c.self.invariant.lies.small in
    omega arith

pub returns-clause-moved : goal.returns-clause-moved
returns-clause-moved c =
    let places = c.in_ok-sorted.ensures.moved in
    let moved = IsPermutation-map (row_from c.self.inside.bytes.items) c.self.inside.places.items c.in_ok-sorted.sorted.items places in
    let rows : map (row_from c.self.inside.bytes.items) c.in_ok-sorted.sorted.items ≡ map (row_from c.as_slice-all.result.now) c.deref.result.now =
    (λ i. map (row_from (sym c.as_slice-all.ensures.value i)) (sym c.deref.ensures.value i)) in
    if_gathered (λ slab. IsPermutation c.args.self.rows slab.rows) c.gathered.result _ c.gathered.ensures
    (subst (λ (l : List Row). IsPermutation c.args.self.rows l) rows
    (subst (λ (p : Packed). IsPermutation p.rows (map (row_from c.self.inside.bytes.items) c.in_ok-sorted.sorted.items)) c.self.view_is moved))

pub returns-clause-rising : goal.returns-clause-rising
returns-clause-rising c =
    let bytes = c.as_slice-all.result.now in
    let places = c.in_ok-sorted.ensures.moved in
    let distinct : HasDistinctKeys (map (row_from bytes) c.self.inside.places.items) =
    subst (λ (l : List ℕ). HasDistinctKeys (map (row_from l) c.self.inside.places.items)) (sym c.as_slice-all.ensures.value)
    (subst (λ (p : Packed). HasDistinctKeys p.rows) (sym c.self.view_is) c.requires.distinct) in
    let rises = sorted_rises (row_from bytes) c.self.inside.places.items c.in_ok-sorted.sorted.items distinct places c.in_ok-sorted.ensures.sorted in
    if_gathered (λ slab. IsRising slab.rows) c.gathered.result _ c.gathered.ensures
    (subst (λ (l : List ℕ). IsRising (map (row_from bytes) l)) (sym c.deref.ensures.value) rises)
