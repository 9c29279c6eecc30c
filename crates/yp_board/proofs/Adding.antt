-- The steps on a book keep its rule.
use Rattle.std.proofs.Common.{◌≡◌, ◌≢◌, ℕ, ◌+◌, ◌-◌, ◌<◌, ◌≤◌, eqb, ltb, Bool, true, false, List, [], ◌∷◌, ◌++◌}
use Rattle.std.proofs.Common.{length, set, refl, ap, sym, ◌∙◌, subst, arith, inl, length-append, None}
use Rattle.std.proofs.lemmas.List.{append-nil, set-get_or, length-set, get_or-set_same, get_or-set_other}
use Rattle.std.proofs.lemmas.List.{get_or_append_left, get_or-append_right}
use Rattle.std.proofs.lemmas.Grind.{get_or-set_at}
use Rattle.std.proofs.lemmas.Bool.Decides.{nat_tests}
use prog.Atomic.{either}
use Rattle.logbook.specs.Pages.{Cell, cell, keeps, gives, adds, Nib}
use Rattle.logbook.specs.Pages.{nib, no_nib, may_write, may_make, step, Moves, Goes}
use Rattle.yp_board.specs.inside.Histories.{IsCounted, IsNext, OpensHistory, Adds, Looks}
use Rattle.yp_board.proofs.Fronts.{prefix_whole}

-- an exchange of 0 for 0 writes nothing
same_on : (n : ℕ) (b : Bool) → eqb n 0 ≡ b → either b 0 n ≡ n
same_on n true is = grind (arith, nat_tests)
same_on n false is = refl

-- below one more
below_more : (key n : ℕ) (b : Bool) → ltb key n ≡ b → key ≢ n → b ≡ ltb key (n + 1)
below_more key n true is other = grind (arith, nat_tests)
below_more key n false is other =
    let past : n ≤ key = grind (arith, nat_tests) in
    let apart : n < key = omega (arith, other) in
    grind (arith, nat_tests)

module _ {E : Type 0} where
  abbrev pub shown : List E → List E
  shown log = []

  abbrev pub moved : List E → List E → ℕ → Type 0
  moved xs ys n = Unit {0}

  counted : (cs : List Cell) (log : List E) → IsCounted cs log → (cell cs 0).0 ≡ length cs
  counted cs log kept = ap (λ (c : Cell). c.0) kept.count

  untouched : (cs : List Cell) (log : List E) (n : ℕ) → IsCounted cs log → n ≡ length cs → set cs 0 (n, true) ≡ cs
  untouched cs log n kept e =
      ap (λ (k : ℕ). set cs 0 (k, true)) e
      ∙ ap (λ (c : Cell). set cs 0 c) (sym kept.count)
      ∙ set-get_or cs 0 (0, false)

  unwritten : (cs : List Cell) (log : List E) → IsCounted cs log
      → set cs 0 (either (eqb (cell cs 0).0 0) 0 (cell cs 0).0, true) ≡ cs
  unwritten cs log kept =
      let n = (cell cs 0).0 in
      untouched cs log (either (eqb n 0) 0 n) kept (same_on n (eqb n 0) refl ∙ counted cs log kept)

  -- a word that isn't at home stands behind those of the log
  away_bound : (cs : List Cell) (log : List E) (key : ℕ) → IsCounted cs log → 0 < key → key < length cs
      → (cell cs key).1 ≡ false → length log + 2 ≤ key
  away_bound cs log key kept some within away =
      let behind : ltb key (length log + 2) ≡ false = sym (kept.home key some within) ∙ away in
      grind (arith, nat_tests)

  no_more : (cs : List Cell) (log : List E) → IsCounted cs log → IsCounted cs (log ++ [])
  no_more cs log kept = subst (λ (l : List E). IsCounted cs l) (sym (append-nil log)) kept

  -- one word more
  home_more : (cs : List Cell) (log : List E) (key n : ℕ) (b : Bool) → ltb key (length cs) ≡ b → IsCounted cs log
      → 0 < key → key < length cs + 1
      → (cell (set cs 0 (n, true) ++ (0, false) ∷ []) key).1 ≡ ltb key (length log + 2)
  home_more cs log key n true is kept some within =
      let inside : key < length cs = grind (arith, nat_tests) in
      let set_inside : key < length (set cs 0 (n, true)) = rw (length-set cs 0 (n, true)) inside in
      let other : key ≢ 0 = λ e. absurd (omega arith) in
      ap (λ (c : Cell). c.1) (get_or_append_left (set cs 0 (n, true)) ((0, false) ∷ []) (0, false) key set_inside
      ∙ get_or-set_other cs 0 key (n, true) (0, false) other)
      ∙ kept.home key some inside
  home_more cs log key n false is kept some within =
      let past : length cs ≤ key = grind (arith, nat_tests) in
      let last : key ≡ length cs = omega arith in
      let left : key - length cs ≡ 0 = omega arith in
      let behind : false ≡ ltb key (length log + 2) =
      let bound = kept.within in
      grind (arith, nat_tests) in
      ap (λ (c : Cell). c.1) (get_or-append_right (set cs 0 (n, true)) ((0, false) ∷ []) (length cs) key (0, false)
      (length-set cs 0 (n, true)) past
      ∙ ap (λ k. cell ((0, false) ∷ []) k) left)
      ∙ behind

  one_more : (cs : List Cell) (log : List E) → IsCounted cs log
      → IsCounted (set cs 0 (length cs + 1, true) ++ (0, false) ∷ []) log
  one_more cs log kept =
      let word : Cell = (length cs + 1, true) in
      let some : 0 < length cs = (let bound = kept.within in omega arith) in
      let set_some : 0 < length (set cs 0 word) = rw (length-set cs 0 word) some in
      let len : length cs + 1 ≡ length (set cs 0 word ++ (0, false) ∷ []) =
      omega (arith, length-append (set cs 0 word) ((0, false) ∷ []), length-set cs 0 word) in
      record {
        count = get_or_append_left (set cs 0 word) ((0, false) ∷ []) (0, false) 0 set_some
            ∙ get_or-set_same cs 0 word (0, false) some
            ∙ ap (λ (k : ℕ). (k, true)) len;
        home = λ key pos within.
            home_more cs log key (length cs + 1) (ltb key (length cs)) refl kept pos (rw len within);
        within = (let bound = kept.within in omega (arith, len));
      }

  -- one word more that is at home, with one entry more
  home_less : (cs : List Cell) (log : List E) (at value key : ℕ) (e : E) (b : Bool) → eqb key at ≡ b → IsCounted cs log
      → at ≡ length log + 2 → at < length cs → 0 < key → key < length cs
      → (cell (set cs at (value, true)) key).1 ≡ ltb key (length (log ++ e ∷ []) + 2)
  home_less cs log at value key e true is kept next within some inside =
      let same : key ≡ at = grind (arith, nat_tests) in
      let len : length (log ++ e ∷ []) + 2 ≡ at + 1 = omega (arith, length-append log (e ∷ []), next) in
      let below : true ≡ ltb key (at + 1) = grind (arith, nat_tests) in
      ap (λ (c : Cell). c.1) (get_or-set_at cs at key (value, true) (0, false) same within)
      ∙ below ∙ ap (ltb key) (sym len)
  home_less cs log at value key e false is kept next within some inside =
      let other : key ≢ at = λ same. absurd (grind (arith, nat_tests)) in
      let len : length (log ++ e ∷ []) + 2 ≡ at + 1 = omega (arith, length-append log (e ∷ []), next) in
      ap (λ (c : Cell). c.1) (get_or-set_other cs at key (value, true) (0, false) other)
      ∙ kept.home key some inside
      ∙ ap (ltb key) (sym next)
      ∙ below_more key at (ltb key at) refl other
      ∙ ap (ltb key) (sym len)

  one_home : (cs : List Cell) (log : List E) (at value : ℕ) (e : E) → IsCounted cs log → at ≡ length log + 2
      → at < length cs → IsCounted (set cs at (value, true)) (log ++ e ∷ [])
  one_home cs log at value e kept next within =
      let len = length-set cs at (value, true) in
      let first : 0 ≢ at = λ same. absurd (omega (arith, next)) in
      record {
        count = get_or-set_other cs at 0 (value, true) (0, false) first
            ∙ kept.count
            ∙ ap (λ (k : ℕ). (k, true)) (sym len);
        home = λ key some inside.
            home_less cs log at value key e (eqb key at) refl kept next within some (rw len at inside);
        within = omega (arith, length-append log (e ∷ []), len, next, within);
      }

  -- a look with the pen of a word that isn't at home
  pub looks_moves : (v : List E) (p : Nib) (e : E) → p.right ≡ may_write → 0 < p.key
      → Moves IsCounted shown moved 0 (v, (p, None)) (λ n. either (eqb n 0) 0 n) (Looks (step 0 0 0 e) (v, (p, None)))
  looks_moves v p e right some cs log kept pre away =
      let here = away right in
      let first : 0 < length cs = (let bound = kept.within in omega arith) in
      let bound = away_bound cs log p.key kept some here.0 here.1 in
      let bound' : length (log ++ []) + 2 ≤ p.key = rw (append-nil log) bound in (
        first,
        ap (λ (c : Cell). c.1) kept.count,
        (
          keeps,
          [],
          None,
          tt,
          subst (λ (c : List Cell). IsCounted c (log ++ [])) (sym (unwritten cs log kept)) (no_more cs log kept),
          inl (refl, refl),
          (bound', refl),
        ),
      )

  -- an entry comes with the first word that isn't at home
  pub adds_moves : (v : List E) (p : Nib) (e : E) → IsNext v p
      → Moves IsCounted shown moved 0 (v, (p, None)) (λ n. either (eqb n 0) 0 n) (Adds (step 0 0 0 e) (v, (p, None)))
  adds_moves v p e next cs log kept pre away =
      let here = away next.right in
      let key = next.key in
      let some : 0 < p.key = omega (arith, key) in
      let first : 0 < length cs = (let bound = kept.within in omega arith) in
      let most = away_bound cs log p.key kept some here.0 here.1 in
      let same : v ≡ log = prefix_whole v log pre (omega (arith, key, most)) in
      let at : p.key ≡ length log + 2 = key ∙ ap (λ (l : List E). length l + 2) same in (
        first,
        ap (λ (c : Cell). c.1) kept.count,
        (
          gives,
          e ∷ [],
          None,
          next.right,
          subst (λ (c : List Cell). IsCounted (set c p.key (p.value, true)) (log ++ e ∷ []))
              (sym (unwritten cs log kept)) (one_home cs log p.key p.value e kept at here.0),
          inl (refl, refl),
          ap (λ (l : List E). l ++ e ∷ []) (sym same),
        ),
      )

  opens_goes : (cs : List Cell) (log v : List E) (e : E) (old : ℕ) → IsCounted cs log
      → (b : Bool) → eqb (cell cs 0).0 old ≡ b
      → Goes IsCounted shown moved 0 (v, (no_nib, None)) (λ n. either (eqb n old) (old + 1) n)
      (OpensHistory (step 0 old (old + 1) e) (v, (no_nib, None))) cs log
  opens_goes cs log v e old kept true is =
      let n = counted cs log kept in
      let same : length cs ≡ old = sym n ∙ grind (arith, nat_tests) in
      let word : either (eqb (cell cs 0).0 old) (old + 1) (cell cs 0).0 ≡ length cs + 1
      = rw is (omega (arith, same)) in (
        adds,
        [],
        None,
        tt,
        subst (λ (k : ℕ). IsCounted (set cs 0 (k, true) ++ (0, false) ∷ []) (log ++ [])) (sym word)
            (no_more (set cs 0 (length cs + 1, true) ++ (0, false) ∷ []) log (one_more cs log kept)),
        inl (refl, refl),
        (λ found. ap (λ (k : ℕ). nib may_make k 0) same),
      )
  opens_goes cs log v e old kept false is =
      let word : either (eqb (cell cs 0).0 old) (old + 1) (cell cs 0).0 ≡ length cs = rw is (counted cs log kept) in (
        keeps,
        [],
        None,
        tt,
        subst (λ (c : List Cell). IsCounted c (log ++ [])) (sym (untouched cs log
            (either (eqb (cell cs 0).0 old) (old + 1) (cell cs 0).0) kept word)) (no_more cs log kept),
        inl (refl, refl),
        (λ (found : (cell cs 0).0 ≡ old). absurd (grind (arith, nat_tests))),
      )

  -- one word more, where there are as many as expected
  pub opens_moves : (v : List E) (e : E) (old : ℕ)
      → Moves IsCounted shown moved 0 (v, (no_nib, None)) (λ n. either (eqb n old) (old + 1) n)
      (OpensHistory (step 0 old (old + 1) e) (v, (no_nib, None)))
  opens_moves v e old cs log kept pre away =
      let first : 0 < length cs = (let bound = kept.within in omega arith) in
      (first, ap (λ (c : Cell). c.1) kept.count, opens_goes cs log v e old kept (eqb (cell cs 0).0 old) refl)
