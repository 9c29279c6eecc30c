-- A version that is read is the one that the bytes of its body spell.
use Rattle.std.proofs.Common.{◌≡◌, ℕ, zero, suc, ◌+◌, ◌<◌, ◌≤◌, ◌^◌, Bool, true, false, cond, eqb, ltb, List, [], ◌∷◌}
use Rattle.std.proofs.Common.{◌++◌, length, get_or, Option, Some, None, Result, Ok, Err, refl, sym, ap, subst, ◌∙◌}
use Rattle.std.proofs.Common.{append_assoc, arith, Ordering, Less, Equal, Greater}
use Rattle.std.specs.Ordering.{is_lt}
use Rattle.std.specs.Map.{keys_of}
use Rattle.std.specs.List.{flat_map, AllByRecursion}
use Rattle.std.specs.List.Sorted.{IsStrictlySortedBy}
use Rattle.std.proofs.lemmas.Bool.Decides.{nat_tests}
use Rattle.std.proofs.lemmas.Cmp.{nat_list_cmp_total}
use Rattle.std.proofs.lemmas.List.{append-nil, get_or-append-add, nil_from_length}
use Rattle.std.proofs.lemmas.List.Elements.{All-from_recursion}
use Rattle.yp_xdr.specs.declared.fault.XdrFault.{XdrFault}
use Rattle.yp_xdr.specs.Kind.{Kind, U32, Opaque, Value}
use Rattle.yp_xdr.specs.Spelling.{spelling}
use Rattle.yp_xdr.specs.inside.Spelling.{Fits}
use Rattle.yp_xdr.specs.Reading.{Remaining, reading}
use Rattle.yp_xdr.specs.inside.Reading.{IsBytes}
use Rattle.yp_xdr.specs.inside.Laws.{ReadIsSpelled}
use Rattle.yp_version.specs.Limits.{key_max, value_max, master_max, rows_max, body_max}
use Rattle.yp_version.specs.Rows.{Row, key_cmp, IsRising}
use Rattle.yp_version.specs.Versions.{MapVersion, body_len}
use Rattle.yp_map_file.specs.declared.wrong.Wrong.{Wrong}
use Rattle.yp_version.specs.Bodies.{format, front_bytes}
use Rattle.yp_version.specs.inside.Bodies.{row_bytes, body, IsBody}
use Rattle.yp_map_file.specs.Bodies.{◌>>=◌, by_xdr, item, guard, BodyHead, head_at}
use Rattle.yp_map_file.specs.Bodies.{is_over, row_at, rows_at, body_at}
use Rattle.yp_map_file.proofs.Again.{length-body}

lt_is : (o : Ordering) → is_lt o ≡ true → o ≡ Less
lt_is Less e = refl
lt_is Equal e = absurd cc
lt_is Greater e = absurd cc

-- what holds of an answer that isn't a refusal
abbrev OkThat : {A : Type 0} → Result A Wrong → (A → Type 0) → Type 0
OkThat (Ok x) P = P x
OkThat (Err wrong) P = Unit {0}

then_ok : {A B : Type 0} (r : Result A Wrong) (next : A → Result B Wrong) (Q : A → Type 0) (P : B → Type 0) → OkThat r Q
    → ((x : A) → Q x → OkThat (next x) P) → OkThat (r >>= next) P
then_ok (Ok x) next Q P h f = f x h
then_ok (Err wrong) next Q P h f = tt

guard_ok : {B : Type 0} (holds : Bool) (at rule : ℕ) (next : Unit {0} → Result B Wrong) (P : B → Type 0)
    → (holds ≡ true → OkThat (next tt) P) → OkThat (guard holds at rule >>= next) P
guard_ok true at rule next P f = f refl
guard_ok false at rule next P f = tt

secure_ok : {B : Type 0} (n at : ℕ) (one two : Bool) → one ≡ eqb n 1 → two ≡ eqb n 2
    → (next : Bool → Result B Wrong) (P : B → Type 0) → ((secure : Bool) → n ≡ format secure → OkThat (next secure) P)
    → OkThat (cond one (Ok false) (cond two (Ok true) (Err (record { at = at; rule = 6 }))) >>= next) P
secure_ok n at true two is_one is_two next P f = f false (let e = sym is_one in grind (arith, nat_tests))
secure_ok n at false true is_one is_two next P f = f true (let e = sym is_two in grind (arith, nat_tests))
secure_ok n at false false is_one is_two next P f = tt

-- the next bytes spell this value of the kind
record Took (kind : Kind) (value : Value kind) (old new : Remaining) : Type 0 where
  pub bytes : old.bytes ≡ spelling kind value ++ new.bytes
  pub fits : Fits kind value
  pub rest : IsBytes new.bytes

behind : (bytes front rest : List ℕ) → bytes ≡ front ++ rest → IsBytes bytes → IsBytes rest
behind bytes front rest parts h i =
    let P : ℕ → Type 0 = λ byte. byte < 256 in
    subst P (ap (λ (xs : List ℕ). get_or xs (length front + i) 0) parts
    ∙ get_or-append-add front rest i 0) (h (length front + i))

module _ (spelled : ReadIsSpelled) where
  item_took : (kind : Kind) (left : Remaining) → IsBytes left.bytes → (r : Result (Value kind × Remaining) XdrFault)
      → reading kind left ≡ r → OkThat (by_xdr r) (λ x. Took kind x.0 left x.1)
  item_took kind left are_bytes (Err fault) is = tt
  item_took kind left are_bytes (Ok x) is =
      let begins = spelled kind left x.1 x.0 are_bytes is in
      let parts : left.bytes ≡ spelling kind x.0 ++ x.1.bytes = begins.parts
      ∙ ap (λ (f : List ℕ). f ++ x.1.bytes) begins.spells.spelled in
      record {
        bytes = parts;
        fits = begins.spells.fits;
        rest = behind left.bytes (spelling kind x.0) x.1.bytes parts are_bytes;
      }

  item_ok : (kind : Kind) (left : Remaining) → IsBytes left.bytes → OkThat (item kind left) (λ x. Took kind x.0 left x.1)
  item_ok kind left are_bytes = item_took kind left are_bytes (reading kind left) refl

  record HeadTook (head : BodyHead) (old new : Remaining) : Type 0 where
    pub bytes : old.bytes ≡ spelling U32 (format head.secure) ++ spelling U32 head.order ++ spelling (Opaque master_max)
        head.master ++ spelling U32 head.count ++ new.bytes
    pub order : head.order < 2 ^ 32
    pub master : length head.master ≤ master_max
    pub count : head.count ≤ rows_max
    pub rest : IsBytes new.bytes

  join_head : (a b c d e f g h i : List ℕ) → a ≡ b ++ c → c ≡ d ++ e → e ≡ f ++ g → g ≡ h ++ i
      → a ≡ b ++ d ++ f ++ h ++ i
  join_head a b c d e f g h i one two three four = one
      ∙ rw (two, three, four) (let s : b ++ (d ++ (f ++ (h ++ i))) ≡ b ++ d ++ f ++ h ++ i = sym (simp append_assoc) in
      s)

  head_ok : (left : Remaining) → IsBytes left.bytes → OkThat (head_at left) (λ x. HeadTook x.0 left x.1)
  unfolding head_at
  head_ok left are_bytes =
      then_ok (item U32 left) _ _ (λ x. HeadTook x.0 left x.1) (item_ok U32 left are_bytes) (λ number n.
      secure_ok number.0 left.at (eqb number.0 1) (eqb number.0 2) refl refl _ (λ x. HeadTook x.0 left x.1)
      (λ secure is_secure.
      then_ok (item U32 number.1) _ _ (λ x. HeadTook x.0 left x.1) (item_ok U32 number.1 n.rest) (λ order o.
      then_ok (item (Opaque master_max) order.1) _ _ (λ x. HeadTook x.0 left x.1)
      (item_ok (Opaque master_max) order.1 o.rest) (λ master m.
      then_ok (item U32 master.1) _ _ (λ x. HeadTook x.0 left x.1) (item_ok U32 master.1 m.rest) (λ count c.
      guard_ok (ltb count.0 (suc rows_max)) master.1.at 7 _ (λ x. HeadTook x.0 left x.1) (λ few.
      record {
        bytes = join_head left.bytes (spelling U32 (format secure)) number.1.bytes (spelling U32 order.0) order.1.bytes
            (spelling (Opaque master_max) master.0) master.1.bytes (spelling U32 count.0) count.1.bytes
            (n.bytes ∙ ap (λ (k : ℕ). spelling U32 k ++ number.1.bytes) is_secure) o.bytes m.bytes c.bytes;
        order = o.fits;
        master = m.fits.0;
        count = grind (arith, nat_tests);
        rest = c.rest;
      }))))))

  record RowTook (row : Row) (last : Option (List ℕ)) (old new : Remaining) : Type 0 where
    pub bytes : old.bytes ≡ row_bytes row ++ new.bytes
    pub key : length row.0 ≤ key_max
    pub value : length row.1 ≤ value_max
    pub over : is_over last row.0 ≡ true
    pub rest : IsBytes new.bytes

  row_ok : (last : Option (List ℕ)) (left : Remaining) → IsBytes left.bytes
      → OkThat (row_at last left) (λ x. RowTook x.0 last left x.1)
  unfolding row_at row_bytes
  row_ok last left are_bytes =
      then_ok (item (Opaque key_max) left) _ _ (λ x. RowTook x.0 last left x.1)
      (item_ok (Opaque key_max) left are_bytes) (λ key k.
      guard_ok (is_over last key.0) left.at 8 _ (λ x. RowTook x.0 last left x.1) (λ over.
      then_ok (item (Opaque value_max) key.1) _ _ (λ x. RowTook x.0 last left x.1)
      (item_ok (Opaque value_max) key.1 k.rest) (λ value v.
      record {
        bytes = k.bytes ∙ ap (λ (l : List ℕ). spelling (Opaque key_max) key.0 ++ l) v.bytes
            ∙ sym (append_assoc (spelling (Opaque key_max) key.0) (spelling (Opaque value_max) value.0) value.1.bytes);
        key = k.fits.0;
        value = v.fits.0;
        over = over;
        rest = v.rest;
      })))

  -- each of these keys is over the one before them
  abbrev Over : Option (List ℕ) → List Row → Type 0
  Over None rows = Unit {0}
  Over (Some last) rows = AllByRecursion (λ key. key_cmp last key ≡ Less) (keys_of rows)

  over_more : (last key : List ℕ) (keys : List (List ℕ)) → key_cmp last key ≡ Less
      → AllByRecursion (λ other. key_cmp key other ≡ Less) keys
      → AllByRecursion (λ other. key_cmp last other ≡ Less) keys
  over_more last key [] lt all = tt
  over_more last key (other ∷ keys) lt all =
      (nat_list_cmp_total.trans last key other lt all.0, over_more last key keys lt all.1)

  over_row : (last : Option (List ℕ)) (row : Row) (rows : List Row) → is_over last row.0 ≡ true → Over (Some row.0) rows
      → Over last (row ∷ rows)
  over_row None row rows over all = tt
  over_row (Some last) row rows over all = let lt = lt_is (key_cmp last row.0) over in
      (lt, over_more last row.0 (keys_of rows) lt all)

  rising_row : (row : Row) (rows : List Row) → Over (Some row.0) rows → IsRising rows → IsRising (row ∷ rows)
  unfolding IsStrictlySortedBy
  rising_row row rows over rising = (over, rising)

  rising_nil : IsRising []
  unfolding IsStrictlySortedBy
  rising_nil = tt

  record RowsTook (n : ℕ) (rows : List Row) (last : Option (List ℕ)) (old new : Remaining) : Type 0 where
    pub bytes : old.bytes ≡ flat_map row_bytes rows ++ new.bytes
    pub len : length rows ≡ n
    pub keys : AllByRecursion (λ row. length row.0 ≤ key_max) rows
    pub values : AllByRecursion (λ row. length row.1 ≤ value_max) rows
    pub rising : IsRising rows
    pub over : Over last rows
    pub rest : IsBytes new.bytes

  over_nil : (last : Option (List ℕ)) → Over last []
  over_nil None = tt
  over_nil (Some last) = tt

  rows_ok : (n : ℕ) (last : Option (List ℕ)) (left : Remaining) → IsBytes left.bytes
      → OkThat (rows_at n last left) (λ x. RowsTook n x.0 last left x.1)
  rows_ok zero last left are_bytes = record {
    bytes = refl;
    len = refl;
    keys = tt;
    values = tt;
    rising = rising_nil;
    over = over_nil last;
    rest = are_bytes;
  }
  rows_ok (suc n) last left are_bytes =
      then_ok (row_at last left) _ _ (λ x. RowsTook (suc n) x.0 last left x.1) (row_ok last left are_bytes) (λ row r.
      then_ok (rows_at n (Some row.0.0) row.1) _ _ (λ x. RowsTook (suc n) x.0 last left x.1)
      (rows_ok n (Some row.0.0) row.1 r.rest) (λ rows s.
      record {
        bytes = r.bytes ∙ ap (λ (l : List ℕ). row_bytes row.0 ++ l) s.bytes
            ∙ sym (append_assoc (row_bytes row.0) (flat_map row_bytes rows.0) rows.1.bytes);
        len = ap suc s.len;
        keys = (r.key, s.keys);
        values = (r.value, s.values);
        rising = rising_row row.0 rows.0 s.over s.rising;
        over = over_row last row.0 rows.0 r.over s.over;
        rest = s.rest;
      }))

  body_ok : (bytes : List ℕ) → IsBytes bytes → length bytes ≤ body_max
      → OkThat (body_at bytes) (λ version. IsBody bytes version)
  unfolding body_at front_bytes
  body_ok bytes are_bytes few =
      let start : Remaining = record { at = 0; bytes = bytes } in
      then_ok (head_at start) _ _ (λ version. IsBody bytes version) (head_ok start are_bytes) (λ head h.
      then_ok (rows_at head.0.count None head.1) _ _ (λ version. IsBody bytes version)
      (rows_ok head.0.count None head.1 h.rest) (λ rows r.
      guard_ok (eqb (length rows.1.bytes) 0) rows.1.at 9 _ (λ version. IsBody bytes version) (λ ended.
      let none : length rows.1.bytes ≡ 0 = grind (arith, nat_tests) in
      let version : MapVersion = record {
        order = head.0.order;
        master = head.0.master;
        secure = head.0.secure;
        rows = rows.0;
      } in
      let tail : head.1.bytes ≡ flat_map row_bytes rows.0 = r.bytes
      ∙ ap (λ (l : List ℕ). flat_map row_bytes rows.0 ++ l) (nil_from_length rows.1.bytes none)
      ∙ append-nil (flat_map row_bytes rows.0) in
      let whole : bytes ≡ body version = h.bytes
      ∙ ap (λ (l : List ℕ). spelling U32 (format head.0.secure) ++ spelling U32 head.0.order ++ spelling
      (Opaque master_max) head.0.master ++ spelling U32 head.0.count ++ l) tail
      ∙ ap (λ (k : ℕ). spelling U32 (format head.0.secure) ++ spelling U32 head.0.order ++ spelling (Opaque master_max)
      head.0.master ++ spelling U32 k ++ flat_map row_bytes rows.0) (sym r.len) in
      let count : length rows.0 ≤ rows_max = let le = h.count in let len = r.len in omega arith in
      let size : body_len version ≤ body_max = let len = ap length whole ∙ length-body version in omega arith in
      record {
        within = record {
          order = h.order;
          master = h.master;
          rising = r.rising;
          keys = All-from_recursion (λ (row : Row). length row.0 ≤ key_max) rows.0 r.keys;
          values = All-from_recursion (λ (row : Row). length row.1 ≤ value_max) rows.0 r.values;
          count = count;
          body = size;
        };
        spelled = whole;
      })))

  pub body_is_spelled : (bytes : List ℕ) (version : MapVersion) → IsBytes bytes → length bytes ≤ body_max
      → body_at bytes ≡ Ok version → IsBody bytes version
  body_is_spelled bytes version are_bytes few is =
      subst (λ (r : Result MapVersion Wrong). OkThat r (λ version. IsBody bytes version)) is
      (body_ok bytes are_bytes few)
