-- A draft whose rows are listed is a version.
use Rattle.std.proofs.Common.{◌≡◌, ℕ, ◌+◌, ◌≤◌, Bool, List, ◌++◌, length, drop, refl, sym, ap, ◌∙◌, subst, IsPermutation}
use Rattle.std.proofs.lemmas.List.Sorted.{All-permutation, length_permutation, sum_by-IsPermutation}
use Rattle.yp_version.specs.Drafts.{Draft, draft_len}
use Rattle.yp_version.specs.inside.Drafts.{IsDraft}
use Rattle.yp_version.specs.Limits.{key_max, value_max, rows_max, body_max}
use Rattle.yp_version.specs.Rows.{Row, IsRising, listed, padded, row_len}
use Rattle.yp_version.specs.Versions.{IsVersion, body_len, unmarked}
use Rattle.yp_xdr.specs.Kind.{U32}
use Rattle.yp_xdr.specs.Spelling.{spelling}
use Rattle.yp_version.specs.Bodies.{format, front_bytes}
use Rattle.yp_version.specs.inside.Slabs.{Packed}
use Rattle.yp_version.specs.Version.{version_of, IsKept}
use Rattle.yp_version.specs.declared.version.Version.TheInside.{Inside}
use Rattle.yp_version.proofs.Listed.{listed_rises}

-- its stored body is as long
pub finished_len : (draft : Draft) (sorted : List Row) → IsPermutation draft.rows sorted → body_len (unmarked draft.order draft.master sorted) ≡ draft_len draft
finished_len draft sorted moved = ap (λ len. 16 + padded (length draft.master) + len) (sum_by-IsPermutation row_len draft.rows sorted moved)

pub finished : (draft : Draft) (sorted : List Row) → IsDraft draft → IsPermutation draft.rows sorted → sorted ≡ listed draft.rows → IsVersion (unmarked draft.order draft.master sorted)
finished draft sorted is moved same = record {
  order = is.order;
  master = is.master;
  rising = subst IsRising (sym same) (listed_rises draft.rows);
  keys = All-permutation (λ row. length row.0 ≤ key_max) draft.rows sorted moved is.keys;
  values = All-permutation (λ row. length row.1 ≤ value_max) draft.rows sorted moved is.values;
  count = subst (λ n. n ≤ rows_max) (sym (length_permutation draft.rows sorted moved)) is.count;
  body = subst (λ n. n ≤ body_max) (sym (finished_len draft sorted moved)) is.body;
}

-- another first word
other_format : (number other order : ℕ) (master : List ℕ) (count : ℕ)
    → spelling U32 other ++ drop 4 (front_bytes number order master count) ≡ front_bytes other order master count
unfolding front_bytes
other_format number other order master count = refl

-- a version that is marked otherwise
pub marked_kept : (inside : Inside) (secure : Bool) (slab : Packed) → IsKept inside
    → slab ≡ record inside.slab { head = spelling U32 (format secure) ++ drop 4 inside.slab.head }
    → IsKept (record inside { secure = secure; slab = slab })
marked_kept inside secure slab kept is =
    let v = version_of inside in
    subst (λ (s : Packed). IsKept (record inside { secure = secure; slab = s })) (sym is) (record {
      version = record {
        order = kept.version.order;
        master = kept.version.master;
        rising = kept.version.rising;
        keys = kept.version.keys;
        values = kept.version.values;
        count = kept.version.count;
        body = kept.version.body;
      };
      head = ap (λ l. spelling U32 (format secure) ++ drop 4 l) kept.head
          ∙ other_format (format v.secure) (format secure) v.order v.master (length v.rows);
      table = kept.table;
    })
