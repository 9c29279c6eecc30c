-- The rows of a reverse map are put one behind the other.
use Rattle.std.proofs.Common.{◌≡◌, ℕ, suc, ◌+◌, ◌<◌, cond, List, [], ◌∷◌, ◌++◌, take, drop, length, get_or}
use Rattle.std.proofs.Common.{Option, Some, None, Contains, refl, sym, ap, ◌∙◌, subst, inl, inr, ◌⊎◌, true≢false, bytes_eq, Less}
use Rattle.std.proofs.Common.{add-one, take-suc, take_all, drop-cons, is_eq, ◌≤◌}
use Rattle.std.specs.Prelude.{All, is_some}
use Rattle.std.specs.List.{AllByRecursion}
use Rattle.std.specs.List.Sorted.{IsStrictlySortedBy}
use Rattle.std.specs.Map.{keys_of}
use Rattle.std.specs.Option.{option_map_or}
use Rattle.std.specs.Cmp.Lexicographic.{texts_ties}
use Rattle.std.proofs.lemmas.Bool.{cond-false}
use Rattle.std.proofs.lemmas.List.{take-append-drop}
use Rattle.std.proofs.lemmas.List.Elements.{Contains-append_left, Contains-append_right, Contains-append_cases, All-nil, All-push}
use Rattle.std.proofs.lemmas.List.Sums.{fold-append}
use Rattle.yp_version.specs.Rows.{Row, IsRising, key_cmp, value_of}
use Rattle.yp_version.specs.Drafts.{Draft, with_new, with_row, with_rows, refused, refused_from, first_refused}
use Rattle.yp_version.specs.declared.builder.VersionFault.{VersionFault}
use Rattle.yp_version.specs.declared.builder.VersionFault.TheVariants.{KeyLong, ValueLong, TooManyRows, TooBig, NoMemory}
use Rattle.yp_netgroup.specs.declared.reverse.field.Field.{Field}
use Rattle.yp_netgroup.specs.declared.reverse.fault.RevFault.{RevFault}
use Rattle.yp_netgroup.specs.reverse.Reverse.{IsListed, IsReversed, IsReverse}
use Rattle.yp_netgroup.specs.reverse.Refused.{RefusesRow, rule_of}
use Rattle.yp_netgroup.specs.inside.reverse.Refused.{IsReverseCause, row_fault, IsPut, Without, With, IsReverseRefusal}
use Rattle.yp_netgroup.specs.inside.reverse.Refused.{IsSoFar}
use Rattle.yp_netgroup.proofs.reverse.Meeting.{contains-none, contains-one}
use Rattle.yp_netgroup.proofs.reverse.Pieces.{first-in, later-in, in-cases}

abbrev Name : Type 0
Name = List ℕ

-- ---- keys in order

keys_of-push : (rows : List Row) (row : Row) → keys_of (rows ++ row ∷ []) ≡ keys_of rows ++ row.0 ∷ []
keys_of-push [] row = refl
keys_of-push (other ∷ rows) row = ap (λ keys. other.0 ∷ keys) (keys_of-push rows row)

rising_none : IsRising []
unfolding IsStrictlySortedBy
rising_none = tt

all_at : (P : Name → Type 0) (names : List Name) (name : Name) → AllByRecursion P names → Contains names name → P name
all_at P [] name all h = absurd (contains-none name h)
all_at P (first ∷ names) name all h =
    elim (in-cases first names name h) [ inl is ↦ subst P is all.0 | inr later ↦ all_at P names name all.1 later ]

sorted_below : (front : List Name) (key : Name) (back : List Name) → IsStrictlySortedBy key_cmp (front ++ key ∷ back)
    → (name : Name) → Contains front name → key_cmp name key ≡ Less
unfolding IsStrictlySortedBy
sorted_below [] key back sorted name h = absurd (contains-none name h)
sorted_below (first ∷ front) key back sorted name h =
    elim (in-cases first front name h) [
      | inl is ↦ subst (λ (n : Name). key_cmp n key ≡ Less) is
          (all_at (λ other. key_cmp first other ≡ Less) (front ++ key ∷ back) key sorted.0 (Contains-append_right front (key ∷ back) key (first-in key back)))
      | inr later ↦ sorted_below front key back sorted.1 name later
    ]

sorted_above : (front : List Name) (key : Name) (back : List Name) → IsStrictlySortedBy key_cmp (front ++ key ∷ back)
    → (name : Name) → Contains back name → key_cmp key name ≡ Less
unfolding IsStrictlySortedBy
sorted_above [] key back sorted name h = all_at (λ other. key_cmp key other ≡ Less) back name sorted.0 h
sorted_above (first ∷ front) key back sorted name h = sorted_above front key back sorted.1 name h

all_push : (P : Name → Type 0) (names : List Name) (name : Name) → AllByRecursion P names → P name → AllByRecursion P (names ++ name ∷ [])
all_push P [] name all last = (last, tt)
all_push P (first ∷ names) name all last = (all.0, all_push P names name all.1 last)

sorted_push : (names : List Name) (key : Name) → IsStrictlySortedBy key_cmp names
    → ((name : Name) → Contains names name → key_cmp name key ≡ Less) → IsStrictlySortedBy key_cmp (names ++ key ∷ [])
unfolding IsStrictlySortedBy
sorted_push [] key sorted below = (tt, tt)
sorted_push (first ∷ names) key sorted below = (
  all_push (λ other. key_cmp first other ≡ Less) names key sorted.0 (below first (first-in first names)),
  sorted_push names key sorted.1 (λ name h. below name (later-in first names name h)),
)

below_no_value : (key : Name) (rows : List Row) → ((name : Name) → Contains (keys_of rows) name → key_cmp name key ≡ Less)
    → value_of key rows ≡ None
below_no_value key [] below = refl
below_no_value key (row ∷ rows) below =
    cond-false (bytes_eq row.0 key) (Some row.1) (value_of key rows)
    (texts_ties row.0 key ∙ ap is_eq (below row.0 (first-in row.0 (keys_of rows))))
    ∙ below_no_value key rows (λ name h. below name (later-in row.0 (keys_of rows) name h))

-- ---- rows that are taken

taken_case : (at : ℕ) (draft : Draft) (row : Row) (fault : Option VersionFault) → refused draft row ≡ fault
    → (rest : Option (ℕ × VersionFault)) → option_map_or (λ fault. Some (at, fault)) fault rest ≡ None → (refused draft row ≡ None) × (rest ≡ None)
taken_case at draft row None e rest h = (e, h)
taken_case at draft row (Some fault) e rest h = absurd (true≢false (ap is_some h))

taken_push : (at : ℕ) (draft : Draft) (rows : List Row) (row : Row) → refused_from at draft rows ≡ None
    → refused (with_rows draft rows) row ≡ None → refused_from at draft (rows ++ row ∷ []) ≡ None
taken_push at draft [] row taken fits = ap (λ f. option_map_or (λ fault. Some (at, fault)) f None) fits
taken_push at draft (first ∷ rows) row taken fits =
    let two = taken_case at draft first (refused draft first) refl (refused_from (at + 1) (with_row draft first) rows) taken in
    ap (λ f. option_map_or (λ fault. Some (at, fault)) f (refused_from (at + 1) (with_row draft first) (rows ++ row ∷ []))) two.0
    ∙ taken_push (at + 1) (with_row draft first) rows row two.1 fits

module _ (rows : List Row) (field : Field) (start : Draft) where
  -- before the first key
  pub so_far-none : start.rows ≡ [] → IsSoFar rows field start start []
  so_far-none none = record {
    head = (refl, refl);
    same = sym (ap (with_rows start) none);
    taken = ap (first_refused start) none;
    rising = subst IsRising (sym none) rising_none;
    each = subst (All (IsReversed rows field)) (sym none) (All-nil (IsReversed rows field));
    whole = λ key group h. absurd (contains-none key h);
    within = λ key h. absurd (contains-none key (subst (λ (rows : List Row). Contains (keys_of rows) key) none h));
  }

  module _ (draft : Draft) (keys : List Name) (key : Name) (is : IsSoFar rows field start draft keys)
      (below : (name : Name) → Contains keys name → key_cmp name key ≡ Less) where
    pushed : (row : Row) → row.0 ≡ key → IsReversed rows field row → refused draft row ≡ None
        → IsSoFar rows field start (with_new draft row) (keys ++ key ∷ [])
    pushed row at reversed fits =
        let new : with_row draft row ≡ with_new draft row =
        ap (λ value. cond (is_some value) draft (with_new draft row))
        (below_no_value row.0 draft.rows
        (λ name h. subst (λ (k : Name). key_cmp name k ≡ Less) (sym at) (below name (is.within name h)))) in
        record {
          head = is.head;
          same = sym (fold-append with_row start draft.rows (row ∷ []) ∙ ap (λ (d : Draft). with_row d row) (sym is.same) ∙ new);
          taken = taken_push 0 start draft.rows row is.taken (ap (λ (d : Draft). refused d row) (sym is.same) ∙ fits);
          rising = subst (IsStrictlySortedBy key_cmp) (sym (keys_of-push draft.rows row))
              (sorted_push (keys_of draft.rows) row.0 is.rising
              (λ name h. subst (λ (k : Name). key_cmp name k ≡ Less) (sym at) (below name (is.within name h))));
          each = All-push (IsReversed rows field) draft.rows row is.each reversed;
          whole = λ other group h listed. subst (λ names. Contains names other) (sym (keys_of-push draft.rows row))
              (elim (Contains-append_cases keys (key ∷ []) other h) [
                | inl before ↦ Contains-append_left (keys_of draft.rows) (row.0 ∷ []) other (is.whole other group before listed)
                | inr last ↦ Contains-append_right (keys_of draft.rows) (row.0 ∷ []) other
                    (subst (Contains (row.0 ∷ [])) (at ∙ contains-one key other last) (first-in row.0 []))
              ]);
          within = λ other h. elim (Contains-append_cases (keys_of draft.rows) (row.0 ∷ []) other
              (subst (λ names. Contains names other) (keys_of-push draft.rows row) h)) [
                | inl before ↦ Contains-append_left keys (key ∷ []) other (is.within other before)
                | inr last ↦ Contains-append_right keys (key ∷ []) other
                    (subst (Contains (key ∷ [])) (sym at ∙ contains-one row.0 other last) (first-in key []))
              ];
        }

    -- the row of the next key is put
    pub so_far-put : (new : Draft) → IsPut rows field key draft new → IsSoFar rows field start new (keys ++ key ∷ [])
    so_far-put new (Without none) = record {
      head = is.head;
      same = is.same;
      taken = is.taken;
      rising = is.rising;
      each = is.each;
      whole = λ other group h listed. elim (Contains-append_cases keys (key ∷ []) other h) [
        | inl before ↦ is.whole other group before listed
        | inr last ↦ absurd (none group (subst (λ (k : Name). IsListed rows field k group) (sym (contains-one key other last)) listed))
      ];
      within = λ other h. Contains-append_left keys (key ∷ []) other (is.within other h);
    }
    so_far-put new (With row at reversed fits) =
        let there : with_row draft row ≡ with_new draft row =
        ap (λ value. cond (is_some value) draft (with_new draft row))
        (below_no_value row.0 draft.rows
        (λ name h. subst (λ (k : Name). key_cmp name k ≡ Less) (sym at) (below name (is.within name h)))) in
        subst (λ (d : Draft). IsSoFar rows field start d (keys ++ key ∷ [])) (sym there) (pushed row at reversed fits)

    -- or it is the first that is refused
    pub so_far-refused : (fault : RevFault) → IsReverseRefusal rows field key draft fault
        → ((other group : Name) → IsListed rows field other group → Contains keys other ⊎ ((key ≡ other) ⊎ (key_cmp key other ≡ Less)))
        → IsReverseCause rows field start fault
    so_far-refused fault refusal all = subst (IsReverseCause rows field start) (sym refusal.says) (by refusal.cause refusal.refuses)
      where
        row : Row
        row = refusal.row

        by_rule : (cause : VersionFault) → refused draft row ≡ Some cause → (rule : ℕ) → rule ≡ rule_of cause
            → RefusesRow rows field start (length draft.rows + 1) rule
        by_rule cause e rule is_rule = record {
          front = draft.rows;
          row = row;
          fault = cause;
          rising = subst (IsStrictlySortedBy key_cmp) (sym (keys_of-push draft.rows row))
              (sorted_push (keys_of draft.rows) row.0 is.rising
              (λ name h. subst (λ (k : Name). key_cmp name k ≡ Less) (sym refusal.at) (below name (is.within name h))));
          each = All-push (IsReversed rows field) draft.rows row is.each refusal.is;
          whole = λ other group listed. elim (all other group listed) [
            | inl before ↦ inr (subst (λ names. Contains names other) (sym (keys_of-push draft.rows row))
                (Contains-append_left (keys_of draft.rows) (row.0 ∷ []) other (is.whole other group before listed)))
            | inr from ↦ elim from [
              | inl here ↦ inr (subst (λ names. Contains names other) (sym (keys_of-push draft.rows row))
                  (Contains-append_right (keys_of draft.rows) (row.0 ∷ []) other
                  (subst (Contains (row.0 ∷ [])) (refusal.at ∙ here) (first-in row.0 []))))
              | inr over ↦ inl (subst (λ (k : Name). key_cmp k other ≡ Less) (sym refusal.at) over)
            ]
          ];
          taken = is.taken;
          refuses = ap (λ (d : Draft). refused d row) (sym is.same) ∙ e;
          number_is = refl;
          rule_is = is_rule;
        }

        by : (cause : VersionFault) → refused draft row ≡ Some cause → IsReverseCause rows field start (row_fault (length draft.rows) cause)
        by (KeyLong len) e = by_rule (KeyLong len) e 1 refl
        by (ValueLong len) e = by_rule (ValueLong len) e 2 refl
        by TooManyRows e = by_rule TooManyRows e 3 refl
        by TooBig e = by_rule TooBig e 4 refl
        by NoMemory e = tt

  -- behind the last key
  pub so_far-whole : (draft : Draft) (keys : List Name) → IsSoFar rows field start draft keys
      → ((key group : Name) → IsListed rows field key group → Contains keys key) → IsReverse rows field draft.rows
  so_far-whole draft keys is all = record {
    rising = is.rising;
    each = is.each;
    whole = λ key group listed. is.whole key group (all key group listed) listed;
  }

-- ---- keys up to a place

module _ (keys : List Name) (i : ℕ) (within : i < length keys) (sorted : IsStrictlySortedBy key_cmp keys) where
  split_there : keys ≡ take i keys ++ get_or keys i [] ∷ drop (suc i) keys
  split_there = sym (take-append-drop i keys) ∙ ap (λ back. take i keys ++ back) (drop-cons keys i [] within)

  sorted_there : IsStrictlySortedBy key_cmp (take i keys ++ get_or keys i [] ∷ drop (suc i) keys)
  sorted_there = subst (IsStrictlySortedBy key_cmp) split_there sorted

  pub keys_below : (name : Name) → Contains (take i keys) name → key_cmp name (get_or keys i []) ≡ Less
  keys_below = sorted_below (take i keys) (get_or keys i []) (drop (suc i) keys) sorted_there

  pub keys_cases : (name : Name) → Contains keys name
      → Contains (take i keys) name ⊎ ((get_or keys i [] ≡ name) ⊎ (key_cmp (get_or keys i []) name ≡ Less))
  keys_cases name h =
      elim (Contains-append_cases (take i keys) (get_or keys i [] ∷ drop (suc i) keys) name (subst (λ names. Contains names name) split_there h)) [
        | inl before ↦ inl before
        | inr from ↦ elim (in-cases (get_or keys i []) (drop (suc i) keys) name from) [
          | inl here ↦ inr (inl here)
          | inr later ↦ inr (inr (sorted_above (take i keys) (get_or keys i []) (drop (suc i) keys) sorted_there name later))
        ]
      ]

  pub keys_more : take (i + 1) keys ≡ take i keys ++ get_or keys i [] ∷ []
  keys_more = ap (λ n. take n keys) (add-one i) ∙ take-suc keys i [] within

pub take_whole : (names : List Name) (n : ℕ) → length names ≤ n → take n names ≡ names
take_whole names n h = take_all n names h
