-- Where a text is cut: at a byte of a kind, and in fields.
use Rattle.std.proofs.Common.{◌≡◌, ℕ, suc, ◌+◌, Bool, true, false, cond, List, [], ◌∷◌, length, Some, None}
use Rattle.std.proofs.Common.{refl, ap, ◌∙◌, ltb, is_some, rules, tests, true≢false}
use Rattle.std.specs.Prelude.{position}
use Rattle.std.specs.List.{list_any, position_or_len, before_first, after_first, slice_split, onto_first}
use Rattle.std.proofs.lemmas.List.Splits.{slice_split-cons_no, slice_split_first}
use Rattle.yp_version.specs.Blanks.{bare}
use Rattle.yp_netgroup.specs.Parts.{is_open, is_comma, triple_in}

module _ (p : ℕ → Bool) where
  -- such a byte stands in a text exactly where its place is within it
  within_step : (b : ℕ) (text : List ℕ) (passes : Bool) → p b ≡ passes
      → ltb (position_or_len p text) (length text) ≡ list_any p text
      → ltb (position_or_len p (b ∷ text)) (length (b ∷ text)) ≡ list_any p (b ∷ text)
  within_step b text true e h = rw e (search (rules, tests))
  within_step b text false e h =
      let more : ltb (1 + position_or_len p text) (suc (length text)) ≡ ltb (position_or_len p text) (length text) =
      search (rules, tests) in
      rw e (more ∙ h)

  pub within-any : (text : List ℕ) → ltb (position_or_len p text) (length text) ≡ list_any p text
  within-any [] = refl
  within-any (b ∷ text) = within_step b text (p b) refl (within-any text)

  -- the place of the first such byte is there exactly where such a byte is
  found-cond : (b : Bool) (i : ℕ) → is_some (cond b (Some i) None) ≡ b
  found-cond true i = refl
  found-cond false i = refl

  pub found-any : (text : List ℕ) → is_some (position p text) ≡ list_any p text
  found-any text = found-cond (ltb (position_or_len p text) (length text)) _ ∙ within-any text

  place-cond : (b : Bool) (i place : ℕ) → cond b (Some i) None ≡ Some place → place ≡ i
  place-cond true i place e = cc
  place-cond false i place e = cc

  -- and it is the length of what stands before
  pub place-is : (text : List ℕ) (place : ℕ) → position p text ≡ Some place → place ≡ position_or_len p text
  place-is text place e = place-cond (ltb (position_or_len p text) (length text)) _ place e

  -- ---- the parts between such bytes

  split_none_step : (b : ℕ) (text : List ℕ) (passes : Bool) → p b ≡ passes → list_any p (b ∷ text) ≡ false
      → (list_any p text ≡ false → slice_split p text ≡ text ∷ []) → slice_split p (b ∷ text) ≡ (b ∷ text) ∷ []
  split_none_step b text true e none more = let some : true ≡ false = rw e at none in absurd (true≢false some)
  split_none_step b text false e none more =
      let rest : list_any p text ≡ false = rw e at none in
      slice_split-cons_no p b text e ∙ ap (onto_first b) (more rest)

  pub split-none : (text : List ℕ) → list_any p text ≡ false → slice_split p text ≡ text ∷ []
  split-none [] none = refl
  split-none (b ∷ text) none = split_none_step b text (p b) refl none (split-none text)

  pub split-some : (text : List ℕ) → list_any p text ≡ true
      → slice_split p text ≡ before_first p text ∷ slice_split p (after_first p text)
  split-some text some =
      let within : ltb (position_or_len p text) (length text) ≡ true = within-any text ∙ some in
      slice_split_first p text 0 (search (rules, tests))

  split_cons_cases : (text : List ℕ) (some : Bool) → list_any p text ≡ some
      → (first : List ℕ) × (more : List (List ℕ)) × (slice_split p text ≡ first ∷ more)
  split_cons_cases text true e = (before_first p text, slice_split p (after_first p text), split-some text e)
  split_cons_cases text false e = (text, [], split-none text e)

  -- there is one at least
  pub split-cons : (text : List ℕ) → (first : List ℕ) × (more : List (List ℕ)) × (slice_split p text ≡ first ∷ more)
  split-cons text = split_cons_cases text (list_any p text) refl

-- ---- the triple between two parentheses

abbrev pub rest_of : List ℕ → List ℕ
rest_of text = after_first is_comma text

pub triple-opened : (text : List ℕ) → list_any is_open text ≡ true → triple_in text ≡ None
triple-opened text opened = rw opened refl

-- one field
pub triple-one : (text : List ℕ) → list_any is_open text ≡ false → list_any is_comma text ≡ false
    → triple_in text ≡ None
triple-one text closed none = rw (closed, split-none is_comma text none) refl

-- two fields
pub triple-two : (text : List ℕ) → list_any is_open text ≡ false → list_any is_comma text ≡ true
    → list_any is_comma (rest_of text) ≡ false → triple_in text ≡ None
triple-two text closed one none =
    let fields : slice_split is_comma text ≡ _ =
    split-some is_comma text one ∙ ap (λ more. before_first is_comma text ∷ more) (split-none is_comma (rest_of text) none) in
    rw (closed, fields) refl

three_fields : (text : List ℕ) → list_any is_comma text ≡ true → list_any is_comma (rest_of text) ≡ true
    → slice_split is_comma text
    ≡ before_first is_comma text ∷ before_first is_comma (rest_of text) ∷ slice_split is_comma (rest_of (rest_of text))
three_fields text one two =
    split-some is_comma text one
    ∙ ap (λ more. before_first is_comma text ∷ more) (split-some is_comma (rest_of text) two)

-- three fields
pub triple-three : (text : List ℕ) → list_any is_open text ≡ false → list_any is_comma text ≡ true
    → list_any is_comma (rest_of text) ≡ true → list_any is_comma (rest_of (rest_of text)) ≡ false
    → triple_in text ≡ Some (record {
      host = bare (before_first is_comma text);
      user = bare (before_first is_comma (rest_of text));
      domain = bare (rest_of (rest_of text));
    })
triple-three text closed one two none =
    let fields : slice_split is_comma text ≡ _ =
    three_fields text one two
    ∙ ap (λ more. before_first is_comma text ∷ before_first is_comma (rest_of text) ∷ more)
    (split-none is_comma (rest_of (rest_of text)) none) in
    rw (closed, fields) refl

-- four fields or more
pub triple-more : (text : List ℕ) → list_any is_open text ≡ false → list_any is_comma text ≡ true
    → list_any is_comma (rest_of text) ≡ true → list_any is_comma (rest_of (rest_of text)) ≡ true
    → triple_in text ≡ None
triple-more text closed one two three =
    let last = rest_of (rest_of text) in
    let cut = split-cons is_comma (rest_of last) in
    let fields : slice_split is_comma text ≡ _ =
    three_fields text one two
    ∙ ap (λ more. before_first is_comma text ∷ before_first is_comma (rest_of text) ∷ more)
    (split-some is_comma last three ∙ ap (λ more. before_first is_comma last ∷ more) cut.2) in
    rw (closed, fields) refl
