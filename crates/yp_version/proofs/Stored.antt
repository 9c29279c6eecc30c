-- A body whose rows are found is a slab.
use Rattle.std.proofs.Common.{◌≡◌, ℕ, ◌+◌, List, length, sym, ap, ◌∙◌, subst, arith}
use Rattle.yp_version.specs.Bodies.{format, head_bytes}
use Rattle.yp_version.specs.Rows.{padded}
use Rattle.yp_version.specs.inside.Slabs.{Packed, Lies, places_from}
use Rattle.yp_version.specs.inside.Stored.{IsStoredBody}
use Rattle.yp_version.specs.Table.{IsWhole}
use Rattle.yp_version.specs.Version.{version_of, IsKept}
use Rattle.yp_version.specs.Versions.{MapVersion, IsVersion}
use Rattle.yp_version.specs.declared.version.Version.TheInside.{Inside}
use Rattle.yp_version.proofs.Lengths.{length_front, length_body}

-- what the slab holds
abbrev pub stored_slab : MapVersion → Packed
stored_slab version = record { head = head_bytes version; rows = version.rows }

pub stored_head : (version : MapVersion) → length (head_bytes version) ≡ 16 + padded (length version.master)
stored_head version = length_front (format version.secure) version.order version.master (length version.rows)

pub stored_lies : (bytes starts : List ℕ) (version : MapVersion) → IsStoredBody bytes starts version
    → Lies bytes starts (stored_slab version)
stored_lies bytes starts version stored =
    let is = stored.body.within in
    let len = ap length stored.body.spelled ∙ length_body version in
    record {
      within = record { keys = is.keys; values = is.values };
      bytes = stored.body.spelled;
      places = stored.places ∙ ap (λ n. places_from n version.rows) (sym (stored_head version));
      small = let most = is.body in omega arith;
    }

-- a version over such a slab
pub stored_kept : (inside : Inside) (version : MapVersion) → IsVersion version → version_of inside ≡ version
    → inside.slab ≡ stored_slab version → IsWhole inside.table inside.slab.rows → IsKept inside
stored_kept inside version within is slab whole = record {
  version = subst IsVersion (sym is) within;
  head = ap (λ (p : Packed). p.head) slab ∙ ap head_bytes (sym is);
  table = whole;
}

-- which is the version
pub stored_view : (inside : Inside) (version : MapVersion)
    → record { order = inside.order; master = inside.master.items; secure = inside.secure; rows = version.rows } ≡ version
    → inside.slab ≡ stored_slab version → version_of inside ≡ version
stored_view inside version same slab =
    ap (λ (p : Packed). record { order = inside.order; master = inside.master.items; secure = inside.secure; rows = p.rows }) slab ∙ same

-- a slab of these parts is that one
pub slab_is : (bytes starts : List ℕ) (head_len : ℕ) (slab : Packed) (version : MapVersion)
    → ((packed : Packed) → Lies bytes starts packed → head_len ≡ length packed.head → slab ≡ packed)
    → head_len ≡ 16 + padded (length version.master) → IsStoredBody bytes starts version → slab ≡ stored_slab version
slab_is bytes starts head_len slab version is len stored =
    is (stored_slab version) (stored_lies bytes starts version stored) (len ∙ sym (stored_head version))
