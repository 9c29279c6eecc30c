-- Chains of row numbers, and the walk along one of them.
use Rattle.std.proofs.Common.{◌≡◌, ℕ, zero, suc, ◌-◌, ◌<◌, ◌≤◌, Bool, true, false, cond, List, [], ◌∷◌, ◌++◌, length, Option, Some, None, slice_get, get_or, set, bytes_eq, nat_eq, option_map, refl, sym, ap, ◌∙◌, subst, inl, inr, true≢false, arith}
use Rattle.std.proofs.Math.ListN.{get_or-append}
use Rattle.std.proofs.Math.Seq.{get_or-append_seam}
use Rattle.std.proofs.lemmas.Bool.{cases_Bool, cond-true, cond-false, eq-eqb, eqb-true}
use Rattle.std.proofs.lemmas.Bool.Decides.{eqb_tells}
use Rattle.std.proofs.lemmas.Grind.{get_or-set_at}
use Rattle.std.proofs.lemmas.List.{length-append, length-set, get_or-set_other}
use Rattle.std.proofs.lemmas.Option.{none-some, same_Some, slice_get_cases}
use Rattle.std.specs.Option.{option_map_or}
use Rattle.std.specs.declared.hash.RandomState.{RandomState}
use Rattle.yp_version.specs.Rows.{Row}
use Rattle.yp_version.specs.Tables.{last_below, bucket_of, mark_of, number_in, mark_in, linked, IsMarked, bucket_at}
use Rattle.yp_version.specs.Tables.{is_in, HasChains}
use Rattle.yp_version.specs.inside.Tables.{has_key}
use Rattle.yp_version.specs.declared.table.Link.{Link}
use Rattle.yp_version.proofs.Keys.{same_key}

-- the last number is below the bound and passes the test
pub last_passes : (test : ℕ → Bool) (n i : ℕ) → last_below test n ≡ Some i → (i < n) × (test i ≡ true)
last_passes test zero i e = absurd (none-some i e)
last_passes test (suc n) i e = elim (cases_Bool (test n)) [
  | inl holds ↦
      let same : n ≡ i = same_Some n i (sym (cond-true (test n) (Some n) (last_below test n) holds) ∙ e) in
      (omega arith, ap test (sym same) ∙ holds)
  | inr fails ↦
      let h = last_passes test n i (sym (cond-false (test n) (Some n) (last_below test n) fails) ∙ e) in
      let low = h.0 in
      (omega arith, h.1)
]

-- where no number passes one test, none passes a narrower one
pub none_narrower : (test narrow : ℕ → Bool) (n : ℕ) → ((j : ℕ) → narrow j ≡ true → test j ≡ true)
    → last_below test n ≡ None → last_below narrow n ≡ None
none_narrower test narrow zero within e = refl
none_narrower test narrow (suc n) within e = elim (cases_Bool (test n)) [
  | inl holds ↦ absurd (none-some n (sym e ∙ cond-true (test n) (Some n) (last_below test n) holds))
  | inr fails ↦ elim (cases_Bool (narrow n)) [
    | inl narrow_yes ↦ absurd (true≢false (sym (within n narrow_yes) ∙ fails))
    | inr narrow_no ↦
        cond-false (narrow n) (Some n) (last_below narrow n) narrow_no
        ∙ none_narrower test narrow n within (sym (cond-false (test n) (Some n) (last_below test n) fails) ∙ e)
  ]
]

-- and the last that passes the narrower one isn't above the last that passes the other
pub last_narrower : (test narrow : ℕ → Bool) (n i : ℕ) → ((j : ℕ) → narrow j ≡ true → test j ≡ true)
    → last_below test n ≡ Some i → last_below narrow n ≡ last_below narrow (suc i)
last_narrower test narrow zero i within e = absurd (none-some i e)
last_narrower test narrow (suc n) i within e = elim (cases_Bool (test n)) [
  | inl holds ↦ ap (λ k. last_below narrow (suc k)) (same_Some n i (sym (cond-true (test n) (Some n) (last_below test n) holds) ∙ e))
  | inr fails ↦ elim (cases_Bool (narrow n)) [
    | inl narrow_yes ↦ absurd (true≢false (sym (within n narrow_yes) ∙ fails))
    | inr narrow_no ↦
        cond-false (narrow n) (Some n) (last_below narrow n) narrow_no
        ∙ last_narrower test narrow n i within (sym (cond-false (test n) (Some n) (last_below test n) fails) ∙ e)
  ]
]

-- How far a walk has come: what is looked for is the last below a bound that passes the narrow test, and the link is
-- the last below it that passes the other.
pub record Walks (test narrow : ℕ → Bool) (n : ℕ) (link : Option ℕ) : Type 0 where
  pub bound : ℕ
  pub low : bound ≤ n
  pub link_is : link ≡ last_below test bound
  pub sought : last_below narrow n ≡ last_below narrow bound

pub walk_begins : (test narrow : ℕ → Bool) (n : ℕ) (link : Option ℕ) → link ≡ last_below test n → Walks test narrow n link
walk_begins test narrow n link is = record { bound = n; low = omega arith; link_is = is; sought = refl }

pub walk_ends : (test narrow : ℕ → Bool) (n : ℕ) → ((j : ℕ) → narrow j ≡ true → test j ≡ true)
    → Walks test narrow n None → None ≡ last_below narrow n
walk_ends test narrow n within walk =
    sym (walk.sought ∙ none_narrower test narrow walk.bound within (sym walk.link_is))

pub walk_finds : (test narrow : ℕ → Bool) (n i : ℕ) → ((j : ℕ) → narrow j ≡ true → test j ≡ true)
    → Walks test narrow n (Some i) → narrow i ≡ true → Some i ≡ last_below narrow n
walk_finds test narrow n i within walk here =
    sym (walk.sought ∙ last_narrower test narrow walk.bound i within (sym walk.link_is)
    ∙ cond-true (narrow i) (Some i) (last_below narrow i) here)

pub walk_within : (test narrow : ℕ → Bool) (n i : ℕ) → Walks test narrow n (Some i) → (i < n) × (test i ≡ true)
walk_within test narrow n i walk =
    let h = last_passes test walk.bound i (sym walk.link_is) in
    let low = h.0 in
    let bound = walk.low in
    (omega arith, h.1)

pub walk_goes : (test narrow : ℕ → Bool) (n i : ℕ) (next : Option ℕ) → ((j : ℕ) → narrow j ≡ true → test j ≡ true)
    → Walks test narrow n (Some i) → narrow i ≡ false → next ≡ last_below test i → Walks test narrow n next
walk_goes test narrow n i next within walk elsewhere is = record {
  bound = i;
  low = let h = (walk_within test narrow n i walk).0 in omega arith;
  link_is = is;
  sought = walk.sought ∙ last_narrower test narrow walk.bound i within (sym walk.link_is)
      ∙ cond-false (narrow i) (Some i) (last_below narrow i) elsewhere;
}

-- ---- the chains of rows

-- a row with a key is in its bucket
pub key_in_bucket : (state : RandomState) (size : ℕ) (rows : List Row) (key : List ℕ) (j : ℕ)
    → has_key key rows j ≡ true → is_in state size rows (bucket_of state size key) j ≡ true
key_in_bucket state size rows key j here = by (slice_get rows j) here
  where
    by : (row : Option Row) → option_map_or (λ (row : Row). bytes_eq row.0 key) row false ≡ true
        → nat_eq (option_map_or (λ (row : Row). bucket_of state size row.0) row size) (bucket_of state size key) ≡ true
    by None here = absurd (true≢false (sym here))
    by (Some row) here = eq-eqb (bucket_of state size row.0) (bucket_of state size key) (ap (bucket_of state size) (same_key row.0 key here))

-- no rows have empty chains
pub no_chains : (state : RandomState) (heads before : List Link) (rows : List Row) → 0 < length heads → length before ≡ 0
    → ((bucket : ℕ) (any : Link) → bucket < length heads → linked (get_or heads bucket any) ≡ None)
    → HasChains state heads before rows (length before)
no_chains state heads before rows some none empty = record {
  buckets = some;
  count = refl;
  within = omega arith;
  last = λ bucket any low. empty bucket any low ∙ ap (last_below (is_in state (length heads) rows bucket)) (sym none);
  former = λ i any low. absurd (omega (arith, low, none));
  last_marked = λ bucket any low. record { mark = λ i is. absurd (none-some i (sym (empty bucket any low) ∙ is)) };
  former_marked = λ i any low. absurd (omega (arith, low, none));
}

-- the last that passes is the same by tests that agree below the bound
last_same : (test other : ℕ → Bool) (n : ℕ) → ((j : ℕ) → j < n → test j ≡ other j) → last_below test n ≡ last_below other n
last_same test other zero agree = refl
last_same test other (suc n) agree =
    (λ i. cond (agree n (omega arith) i) (Some n) (last_below test n))
    ∙ ap (λ rest. cond (other n) (Some n) rest) (last_same test other n (λ j low. agree j (omega (arith, low))))

-- a row among the first is the same whatever follows
get_front : (rows more : List Row) (j : ℕ) → j < length rows → slice_get (rows ++ more) j ≡ slice_get rows j
get_front [] more j low = absurd (omega (arith, low))
get_front (row ∷ rows) more zero low = refl
get_front (row ∷ rows) more (suc j) low = get_front rows more j (omega (arith, low))

-- and so are the chains of the first rows
pub chains_more : (state : RandomState) (heads before : List Link) (rows more : List Row) (n : ℕ)
    → HasChains state heads before rows n → HasChains state heads before (rows ++ more) n
chains_more state heads before rows more n chains = record {
  buckets = chains.buckets;
  count = chains.count;
  within = let w = chains.within in omega (arith, w, length-append rows more);
  last = λ bucket any low. chains.last bucket any low ∙ same bucket n (let w = chains.within in w);
  former = λ i any low.
      let w = chains.within in
      let there : i < length rows = omega (arith, low, w) in
      chains.former i any low ∙ same (bucket_at state (length heads) rows i) i (omega (arith, there))
      ∙ ap (λ b. last_below (is_in state (length heads) (rows ++ more) b) i) (sym (at_same i there));
  last_marked = λ bucket any low. marked_more (get_or heads bucket any) (chains.last_marked bucket any low);
  former_marked = λ i any low. marked_more (get_or before i any) (chains.former_marked i any low);
}
  where
    marked_more : (link : Link) → IsMarked state rows link → IsMarked state (rows ++ more) link
    marked_more link marked = record {
      mark = λ i is. elim (slice_get_cases rows i).1 [
        | inl (row, here, s, r) ↦ ap (option_map (λ (row : Row). mark_of state row.0)) (get_front rows more i here) ∙ marked.mark i is
        | inr (past, none) ↦ absurd (none-some (mark_in link) (sym (ap (option_map (λ (row : Row). mark_of state row.0)) none) ∙ marked.mark i is))
      ];
    }

    at_same : (j : ℕ) → j < length rows → bucket_at state (length heads) (rows ++ more) j ≡ bucket_at state (length heads) rows j
    at_same j low = ap (λ (row : Option Row). option_map_or (λ (row : Row). bucket_of state (length heads) row.0) row (length heads)) (get_front rows more j low)

    same : (bucket m : ℕ) → m ≤ length rows → last_below (is_in state (length heads) rows bucket) m ≡ last_below (is_in state (length heads) (rows ++ more) bucket) m
    same bucket m low = last_same (is_in state (length heads) rows bucket) (is_in state (length heads) (rows ++ more) bucket) m
        (λ j under. ap (λ at. nat_eq at bucket) (sym (at_same j (omega (arith, under, low)))))

-- one more row is put before the chain of its bucket
pub chained : (state : RandomState) (heads before : List Link) (rows : List Row) (n bucket : ℕ) (head former : Link)
    → HasChains state heads before rows n → n < length rows → bucket < length heads
    → bucket ≡ bucket_at state (length heads) rows n
    → linked head ≡ Some n → linked former ≡ last_below (is_in state (length heads) rows bucket) n
    → IsMarked state rows head → IsMarked state rows former
    → HasChains state (set heads bucket head) (before ++ former ∷ []) rows (suc n)
chained state heads before rows n bucket head former chains low within is head_is former_is head_marked former_marked =
    let size = length-set heads bucket head in
    let count = chains.count in
    let buckets = chains.buckets in
    record {
      buckets = omega arith;
      count = omega (arith, length-append before (former ∷ []));
      within = omega arith;
      last = λ other any there. last other any (omega arith);
      former = λ i any there. earlier i any there;
      last_marked = λ other any there. last_marked other any (omega arith);
      former_marked = λ i any there. earlier_marked i any there;
    }
  where
    size_is : length (set heads bucket head) ≡ length heads
    size_is = length-set heads bucket head

    test : ℕ → ℕ → Bool
    test = is_in state (length heads) rows

    last : (other : ℕ) (any : Link) → other < length heads
        → linked (get_or (set heads bucket head) other any) ≡ last_below (is_in state (length (set heads bucket head)) rows other) (suc n)
    last other any there = elim (eqb_tells (bucket_at state (length heads) rows n) other) [
      | inl (yes_is, same) ↦
          ap linked (get_or-set_at heads bucket other head any (omega (arith, is, same)) within) ∙ head_is
          ∙ sym (cond-true (test other n) (Some n) (last_below (test other) n) yes_is)
          ∙ ap (λ size. last_below (is_in state size rows other) (suc n)) (sym size_is)
      | inr (no_is, apart) ↦
          ap linked (get_or-set_other heads bucket other head any (λ e. apart (sym is ∙ sym e)))
          ∙ chains.last other any there
          ∙ sym (cond-false (test other n) (Some n) (last_below (test other) n) no_is)
          ∙ ap (λ size. last_below (is_in state size rows other) (suc n)) (sym size_is)
    ]

    earlier : (i : ℕ) (any : Link) → i < suc n → linked (get_or (before ++ former ∷ []) i any)
        ≡ last_below (is_in state (length (set heads bucket head)) rows (bucket_at state (length (set heads bucket head)) rows i)) i
    earlier i any there = elim (eqb_tells i n) [
      | inl (_, same) ↦
          ap linked (ap (λ k. get_or (before ++ former ∷ []) k any) (same ∙ sym chains.count) ∙ get_or-append_seam before former [] any)
          ∙ former_is ∙ (λ j. last_below (is_in state (length heads) rows (is j)) n)
          ∙ (λ j. last_below (is_in state (sym size_is j) rows (bucket_at state (sym size_is j) rows (sym same j))) (sym same j))
      | inr (_, apart) ↦
          let count = chains.count in
          let low : i < n = omega (arith, there, apart) in
          ap linked (get_or-append before (former ∷ []) any i (omega (arith, low, count))) ∙ chains.former i any low
          ∙ (λ j. last_below (is_in state (sym size_is j) rows (bucket_at state (sym size_is j) rows i)) i)
    ]

    last_marked : (other : ℕ) (any : Link) → other < length heads → IsMarked state rows (get_or (set heads bucket head) other any)
    last_marked other any there = elim (eqb_tells other bucket) [
      | inl (_, same) ↦ subst (IsMarked state rows) (sym (get_or-set_at heads bucket other head any (omega (arith, same)) within)) head_marked
      | inr (_, apart) ↦ subst (IsMarked state rows) (sym (get_or-set_other heads bucket other head any apart)) (chains.last_marked other any there)
    ]

    earlier_marked : (i : ℕ) (any : Link) → i < suc n → IsMarked state rows (get_or (before ++ former ∷ []) i any)
    earlier_marked i any there = elim (eqb_tells i n) [
      | inl (_, same) ↦
          subst (IsMarked state rows)
          (sym (ap (λ k. get_or (before ++ former ∷ []) k any) (same ∙ sym chains.count) ∙ get_or-append_seam before former [] any)) former_marked
      | inr (_, apart) ↦
          let count = chains.count in
          let low : i < n = omega (arith, there, apart) in
          subst (IsMarked state rows) (sym (get_or-append before (former ∷ []) any i (omega (arith, low, count)))) (chains.former_marked i any low)
    ]

-- the bucket of a row is that of its key
pub bucket_of_key : (state : RandomState) (size : ℕ) (rows : List Row) (n : ℕ) (key : List ℕ)
    → option_map (λ (row : Row). row.0) (slice_get rows n) ≡ Some key → bucket_of state size key ≡ bucket_at state size rows n
bucket_of_key state size rows n key is = by (slice_get rows n) is
  where
    by : (row : Option Row) → option_map (λ (row : Row). row.0) row ≡ Some key
        → bucket_of state size key ≡ option_map_or (λ (row : Row). bucket_of state size row.0) row size
    by None e = absurd (none-some key e)
    by (Some row) e = ap (bucket_of state size) (sym (same_Some row.0 key e))

-- a link to a row with the mark of the row's key
pub link_marked : (state : RandomState) (rows : List Row) (n : ℕ) (key : List ℕ) (link : Link)
    → option_map (λ (row : Row). row.0) (slice_get rows n) ≡ Some key → linked link ≡ Some n → mark_in link ≡ mark_of state key
    → IsMarked state rows link
link_marked state rows n key link is there mark = record {
  mark = λ i here. ap (λ k. option_map (λ (row : Row). mark_of state row.0) (slice_get rows k)) (same_Some i n (sym here ∙ there))
      ∙ by (slice_get rows n) is ∙ ap Some (sym mark);
}
  where
    by : (row : Option Row) → option_map (λ (row : Row). row.0) row ≡ Some key
        → option_map (λ (row : Row). mark_of state row.0) row ≡ Some (mark_of state key)
    by None e = absurd (none-some key e)
    by (Some row) e = ap (λ k. Some (mark_of state k)) (same_Some row.0 key e)

-- where the mark of a link is another than that of a key, the row that it leads to hasn't the key
pub mark_tells : (state : RandomState) (rows : List Row) (i : ℕ) (key : List ℕ) (link : Link)
    → IsMarked state rows link → linked link ≡ Some i → ¬ (mark_in link ≡ mark_of state key) → has_key key rows i ≡ false
mark_tells state rows i key link marked is apart = by (slice_get rows i) (marked.mark i is)
  where
    by : (row : Option Row) → option_map (λ (row : Row). mark_of state row.0) row ≡ Some (mark_in link)
        → option_map_or (λ (row : Row). bytes_eq row.0 key) row false ≡ false
    by None e = refl
    by (Some row) e = elim (cases_Bool (bytes_eq row.0 key)) [
      | inl same ↦ absurd (apart (sym (same_Some (mark_of state row.0) (mark_in link) e) ∙ ap (mark_of state) (same_key row.0 key same)))
      | inr other ↦ other
    ]

-- whether a row has a key, by its own key
pub key_tells : (rows : List Row) (i : ℕ) (own key : List ℕ) → option_map (λ (row : Row). row.0) (slice_get rows i) ≡ Some own
    → has_key key rows i ≡ bytes_eq own key
key_tells rows i own key is = by (slice_get rows i) is
  where
    by : (row : Option Row) → option_map (λ (row : Row). row.0) row ≡ Some own
        → option_map_or (λ (row : Row). bytes_eq row.0 key) row false ≡ bytes_eq own key
    by None e = absurd (none-some own e)
    by (Some row) e = ap (λ k. bytes_eq k key) (same_Some row.0 own e)

-- a row in a bucket has that bucket
pub bucket_is : (state : RandomState) (size : ℕ) (rows : List Row) (bucket i : ℕ) → is_in state size rows bucket i ≡ true
    → bucket_at state size rows i ≡ bucket
bucket_is state size rows bucket i e = eqb-true (bucket_at state size rows i) bucket e

-- no number below the bound passes
pub all_fail : (test : ℕ → Bool) (n : ℕ) → last_below test n ≡ None → (j : ℕ) → j < n → test j ≡ false
all_fail test zero none j low = absurd (omega (arith, low))
all_fail test (suc n) none j low = elim (cases_Bool (test n)) [
  | inl holds ↦ absurd (none-some n (sym none ∙ cond-true (test n) (Some n) (last_below test n) holds))
  | inr fails ↦ elim (eqb_tells j n) [
    | inl (_, same) ↦ ap test same ∙ fails
    | inr (_, apart) ↦ all_fail test n (sym (cond-false (test n) (Some n) (last_below test n) fails) ∙ none) j (omega (arith, low, apart))
  ]
]

-- a walk comes nearer to its end
pub walk_shrinks : (link next : Link) (test : ℕ → Bool) (row : ℕ) → linked link ≡ Some row → linked next ≡ last_below test row → number_in next < number_in link
walk_shrinks link next test row here there = elim (eqb_tells (number_in link) 0) [
  | inl (zero_is, _) ↦ absurd (none-some row (sym (cond-true (nat_eq (number_in link) 0) None (Some (number_in link - 1)) zero_is) ∙ here))
  | inr (not_zero, apart) ↦
      let at : number_in link - 1 ≡ row = same_Some (number_in link - 1) row (sym (cond-false (nat_eq (number_in link) 0) None (Some (number_in link - 1)) not_zero) ∙ here) in
      elim (eqb_tells (number_in next) 0) [
        | inl (_, none) ↦ omega (arith, apart, none)
        | inr (not_zero_there, apart_there) ↦
            let h = (last_passes test row (number_in next - 1) (sym there ∙ cond-false (nat_eq (number_in next) 0) None (Some (number_in next - 1)) not_zero_there)).0 in
            omega (arith, apart, apart_there, at, h)
      ]
]
