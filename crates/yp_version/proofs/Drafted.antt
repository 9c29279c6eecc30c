-- What a builder keeps, while rows are pushed.
use Rattle.std.proofs.Common.{◌≡◌, ℕ, ◌+◌, ◌-◌, ◌%◌, ◌^◌, ◌<◌, ◌≤◌, Bool, true, false, cond, ◌||◌, List, [], ◌∷◌, ◌++◌, length, Option, Some, None, IfSome, is_some, bytes_eq, nat_lt, nat_le, refl, sym, ap, ◌∙◌, subst, true≢false, arith, length-append, mod-lt, lit<}
use Rattle.std.proofs.lemmas.Bool.{ltb-false, leb-false}
use Rattle.std.proofs.lemmas.Cmp.{nat_list_eq_equiv}
use Rattle.std.proofs.lemmas.List.Elements.{All-nil, All-push}
use Rattle.std.proofs.lemmas.List.Sums.{sum_by-append}
use Rattle.std.proofs.lemmas.Map.Keys.{IsDistinct-push}
use Rattle.std.specs.List.{IsDistinct, list_any}
use Rattle.std.specs.List.Sorted.{IsStrictlySortedBy}
use Rattle.std.specs.Map.{keys_of}
use Rattle.yp_version.specs.Limits.{key_max, value_max, master_max, rows_max, body_max}
use Rattle.yp_version.specs.Rows.{Row, IsRising, value_of, padded, row_len, rows_len}
use Rattle.yp_version.specs.Drafts.{Draft, draft_len, refused_new, with_new}
use Rattle.yp_version.specs.inside.Drafts.{IsDraft}
use Rattle.yp_version.specs.declared.builder.VersionFault.TheVariants.{TooManyRows, TooBig}
use Rattle.yp_version.specs.declared.builder.VersionBuilder.TheInside.{Inside}
use Rattle.yp_version.specs.inside.VersionBuilder.{IsKept, draft_of}
use Rattle.yp_version.specs.inside.Slabs.{Packed}
use Rattle.yp_version.specs.Table.{IsTable}
use Rattle.yp_version.specs.declared.table.Table.{Table}
use Rattle.yp_version.proofs.Chains.{chains_more}
use Rattle.yp_version.proofs.Keys.{eq_flip}

-- padding is at most three bytes
pub padded_within : (n : ℕ) → padded n ≤ n + 3
padded_within n = let short = mod-lt (4 - n % 4) {m = 4} (lit< tt) in omega (arith, short)

-- a draft without rows
pub empty_draft : (order : ℕ) (master : List ℕ) → order < 2 ^ 32 → length master ≤ master_max → IsDraft (record { order = order; master = master; rows = [] })
unfolding IsDistinct
empty_draft order master small short = record {
  order = small;
  master = short;
  distinct = tt;
  keys = All-nil (λ row. length row.0 ≤ key_max);
  values = All-nil (λ row. length row.1 ≤ value_max);
  count = omega arith;
  body = let p = padded_within (length master) in omega (arith, p, short);
}

-- a new row that isn't refused keeps the limits
pub fits_by_refusal : (draft : Draft) (row : Row) → refused_new draft row ≡ None → (length draft.rows < rows_max) × (draft_len draft + row_len row ≤ body_max)
fits_by_refusal draft row none = by (nat_le rows_max (length draft.rows)) refl (nat_lt body_max (draft_len draft + row_len row)) refl
  where
    Some≢None : {X : Type 0} (x : X) → Some x ≡ None → ⊥
    Some≢None x e = true≢false (ap is_some e)

    chosen : (many big : Bool) → nat_le rows_max (length draft.rows) ≡ many → nat_lt body_max (draft_len draft + row_len row) ≡ big
        → cond many (Some TooManyRows) (cond big (Some TooBig) None) ≡ None
    chosen many big m b = (λ i. cond (sym m i) (Some TooManyRows) (cond (sym b i) (Some TooBig) None)) ∙ none

    by : (many : Bool) → nat_le rows_max (length draft.rows) ≡ many → (big : Bool) → nat_lt body_max (draft_len draft + row_len row) ≡ big
        → (length draft.rows < rows_max) × (draft_len draft + row_len row ≤ body_max)
    by true m big b = absurd (Some≢None TooManyRows (chosen true big m b))
    by false m true b = absurd (Some≢None TooBig (chosen false true m b))
    by false m false b = (leb-false rows_max (length draft.rows) m, ltb-false body_max (draft_len draft + row_len row) b)

-- a key without a value isn't among the keys
key_is_new : (key : List ℕ) (rows : List Row) → value_of key rows ≡ None → list_any (bytes_eq key) (keys_of rows) ≡ false
key_is_new key rows none = ap (λ test. list_any test (keys_of rows)) (sym (eq_flip key)) ∙ by rows none
  where
    by : (rows : List Row) → value_of key rows ≡ None → list_any (λ other. bytes_eq other key) (keys_of rows) ≡ false
    by [] none = refl
    by (row ∷ rows) none = elim (bytes_eq row.0 key) as (λ b. cond b (Some row.1) (value_of key rows) ≡ None → (b || list_any (λ other. bytes_eq other key) (keys_of rows)) ≡ false) [
      | true ↦ λ e. absurd (true≢false (ap is_some e))
      | false ↦ λ e. by rows e
    ] none

pub keys_of-push : (rows : List Row) (row : Row) → keys_of (rows ++ row ∷ []) ≡ keys_of rows ++ row.0 ∷ []
keys_of-push [] row = refl
keys_of-push (other ∷ rows) row = ap (λ keys. other.0 ∷ keys) (keys_of-push rows row)

-- the bytes of the stored body grow by those of the row
pub draft_len-with_new : (draft : Draft) (row : Row) → draft_len (with_new draft row) ≡ draft_len draft + row_len row
draft_len-with_new draft row =
    ap (λ len. 16 + padded (length draft.master) + len) (sum_by-append row_len draft.rows (row ∷ []))
    ∙ rest (16 + padded (length draft.master)) (rows_len draft.rows) (row_len row)
  where
    rest : (a b c : ℕ) → a + (b + (0 + c)) ≡ a + b + c
    rest a b c = omega arith

-- a draft with one more row
pub grown_draft : (draft : Draft) (row : Row) → IsDraft draft → length row.0 ≤ key_max → length row.1 ≤ value_max
    → value_of row.0 draft.rows ≡ None → refused_new draft row ≡ None → IsDraft (with_new draft row)
grown_draft draft row is key value absent fits = let room = fits_by_refusal draft row fits in record {
  order = is.order;
  master = is.master;
  distinct = subst (IsDistinct bytes_eq) (sym (keys_of-push draft.rows row))
      (IsDistinct-push nat_list_eq_equiv (keys_of draft.rows) row.0 is.distinct (key_is_new row.0 draft.rows absent));
  keys = All-push (λ row. length row.0 ≤ key_max) draft.rows row is.keys key;
  values = All-push (λ row. length row.1 ≤ value_max) draft.rows row is.values value;
  count = let l = length-append draft.rows (row ∷ []) in omega (arith, l, room.0);
  body = let l = draft_len-with_new draft row in rw l room.1;
}

no_rows_rise : IsRising []
unfolding IsStrictlySortedBy
no_rows_rise = tt

-- a builder without rows
pub new_kept : (inside : Inside) → inside.order < 2 ^ 32 → length inside.master.items ≤ master_max → inside.slab.rows ≡ []
    → length inside.slab.head ≡ 16 + padded (length inside.master.items) → IfSome inside.table (λ table. IsTable table inside.slab.rows)
    → IsKept inside
new_kept inside small short none len table = record {
  draft = subst (λ (rows : List Row). IsDraft (record { order = inside.order; master = inside.master.items; rows = rows })) (sym none)
      (empty_draft inside.order inside.master.items small short);
  head = len;
  rising = λ rises. subst IsRising (sym none) no_rows_rise;
  table = table;
}

-- a builder with one more row
pub grown_kept : (inside : Inside) (slab : Packed) (rises : Bool) (row : Row) → IsKept inside
    → length row.0 ≤ key_max → length row.1 ≤ value_max
    → value_of row.0 (draft_of inside).rows ≡ None → refused_new (draft_of inside) row ≡ None
    → (rises ≡ true → IsRising (inside.slab.rows ++ row ∷ []))
    → slab ≡ record inside.slab { rows = inside.slab.rows ++ row ∷ [] }
    → IsKept (record inside { slab = slab; rising = rises })
grown_kept inside slab rises row kept key value absent fits rising is =
    subst (λ (s : Packed). IsKept (record inside { slab = s; rising = rises })) (sym is) (record {
      draft = grown_draft (draft_of inside) row kept.draft key value absent fits;
      head = kept.head;
      rising = rising;
      table = known inside.table kept.table;
    })
  where
    known : (table : Option Table) → IfSome table (λ table. IsTable table inside.slab.rows)
        → IfSome table (λ table. IsTable table (inside.slab.rows ++ row ∷ []))
    known None is = tt
    known (Some table) is = chains_more table.hasher table.heads.items table.before.items inside.slab.rows (row ∷ []) (length table.before.items) is
