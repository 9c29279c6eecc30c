-- What a source answers from is a catalogue, and versions within their limits.
use Rattle.std.proofs.Common.{◌≡◌, ℕ, ◌+◌, ◌<◌, ◌≤◌, Bool, true, false, cond, List, [], ◌∷◌, length, take, drop, Some, None, refl, ap, ◌∙◌, arith, inl, inr}
use Rattle.std.proofs.lemmas.Bool.{cases_lt}
use Rattle.std.proofs.lemmas.List.{get_or-take, get_or_past, length-take}
use Rattle.std.specs.Prelude.{◌==◌, ◌&&◌, nat_lt, nat_le, slice_index, is_none, flat_map, All}
use Rattle.std.specs.Option.{option_map}
use Rattle.std.specs.List.{AllByRecursion}
use Rattle.std.proofs.lemmas.List.Elements.{All-nil, All-cons}
use Rattle.yp_xdr.specs.Reading.{first_nonzero}
use Rattle.yp_xdr.specs.inside.Reading.{IsBytes}
use Rattle.yp_xdr.proofs.Words.{IsBytes-from_drop}
use Rattle.yp_messages.specs.Numbers.{name_max}
use Rattle.yp_version.specs.Limits.{body_max}
use Rattle.yp_version.specs.Versions.{MapVersion, IsVersion}
use Rattle.yp_board.specs.Catalogues.{Name, Catalogue, IsName, IsCatalogue}
use Rattle.yp_board.specs.Logs.{Log}
use Rattle.yp_map_file.specs.inside.Laws.{ReadIsBody}
use Rattle.yp_answer.specs.Served.{AreServed, maps_on}
use Rattle.yp_headline.specs.Storing.{body_version, number_in, counts, body_in, version_in, stood_for}
use Rattle.yp_headline.specs.Sources.{AreNamed}
use Rattle.yp_headline.proofs.StoodBack.{some_same, map_some, if_some, body_ok}

-- ---- the catalogue

names_are : (maps : List Name)
    → AllByRecursion (λ (name : List ℕ). (0 < length name) × (length name ≤ name_max))
    (flat_map (λ (name : Name). name.0 ∷ name.1 ∷ []) maps)
    → All (λ (name : Name). IsName name.0) maps × All (λ (name : Name). IsName name.1) maps
names_are [] all = (All-nil (λ (name : Name). IsName name.0), All-nil (λ (name : Name). IsName name.1))
names_are (name ∷ maps) all =
    let rest = names_are maps all.1.1 in (
      All-cons (λ (name : Name). IsName name.0) name maps (record { some = all.0.0; within = all.0.1 }) rest.0,
      All-cons (λ (name : Name). IsName name.1) name maps (record { some = all.1.0.0; within = all.1.0.1 }) rest.1,
    )

pub is_catalogue : (catalogue : Catalogue) → AreNamed catalogue → IsCatalogue catalogue
is_catalogue catalogue named =
    let names = names_are catalogue.maps named.names.1 in
    record {
      own = record { some = named.names.0.0; within = named.names.0.1 };
      domains = names.0;
      maps = names.1;
      distinct = named.distinct;
      count = named.count;
    }

-- ---- the versions

are_bytes : (n : ℕ) (bytes : List ℕ) → IsBytes bytes → IsBytes (take n bytes)
are_bytes n bytes h i =
    elim (cases_lt i n) [
      | inl lt ↦ rw (get_or-take n bytes i 0 lt) (h i)
      | inr le ↦ rw (get_or_past (take n bytes) i 0 (omega (arith, length-take n bytes))) (omega arith)
    ]

-- the body that a file has of a version
record HasBody (file : List ℕ) (version : MapVersion) : Type 0 where
  place : ℕ
  len : ℕ
  within : len ≤ body_max
  reads : body_version (take len (drop place file)) ≡ Some version

four : (a b c d : Bool) → (a && b && c && d) ≡ true → c ≡ true
four true true true true is = is
four _ _ _ _ is = absurd cc

body_there : (place len : ℕ) (file : List ℕ) (version : MapVersion) → body_in place len file ≡ Some version → HasBody file version
body_there place len file version is =
    let a = if_some (nat_le 64 place && nat_lt 0 len && nat_le len body_max && nat_le (place + len) (length file))
    (body_version (take len (drop place file))) version is in
    let within : nat_le len body_max ≡ true =
    four (nat_le 64 place) (nat_lt 0 len) (nat_le len body_max) (nat_le (place + len) (length file)) a.0 in
    record { place = place; len = len; within = grind (arith, within); reads = a.1 }

cell_there : (cell : ℕ) (file : List ℕ) (version : MapVersion) → version_in cell file ≡ Some (Some version) → HasBody file version
cell_there cell file version is =
    let a = if_some (is_none (first_nonzero (take 7 (drop (cell + 1) file))))
    (option_map (λ (v : MapVersion). Some v) (body_in (number_in (cell + 16) file) (number_in (cell + 24) file) file))
    (Some version) is in
    let b = map_some (λ (v : MapVersion). Some v) (body_in (number_in (cell + 16) file) (number_in (cell + 24) file) file)
    (Some version) a.1 in
    body_there (number_in (cell + 16) file) (number_in (cell + 24) file) file version
    (b.1 ∙ ap (λ (v : MapVersion). Some v) (some_same b.0 version b.2))

stored_there : (file : List ℕ) (version : MapVersion) (long short one two equal less : Bool)
    → cond long None (cond short (Some None) (cond one (cond two (cond equal None
    (cond less (version_in 0 file) (version_in 32 file))) (version_in 0 file)) (cond two (version_in 32 file) (Some None))))
    ≡ Some (Some version) → HasBody file version
stored_there file version false false true true false true is = cell_there 0 file version is
stored_there file version false false true true false false is = cell_there 32 file version is
stored_there file version false false true false equal less is = cell_there 0 file version is
stored_there file version false false false true equal less is = cell_there 32 file version is
stored_there file version _ _ _ _ _ _ is = absurd cc

has_body : (file : List ℕ) (version : MapVersion) → stood_for file ≡ Some (Some version) → HasBody file version
has_body file version is = stored_there file version (nat_lt 50331712 (length file)) (nat_lt (length file) 64) (counts 0 file)
    (counts 32 file) (number_in 8 file == number_in 40 file) (nat_lt (number_in 40 file) (number_in 8 file)) is

-- a version that a file stands for is within the limits
pub is_version : ReadIsBody → (file : List ℕ) (version : MapVersion) → IsBytes file → stood_for file ≡ Some (Some version)
    → IsVersion version
is_version read file version bytes is =
    let there = has_body file version is in
    let body = take there.len (drop there.place file) in
    let short : length body ≤ body_max = omega (arith, length-take there.len (drop there.place file), there.within) in
    (read body version
    (are_bytes there.len (drop there.place file) (IsBytes-from_drop there.place file (drop there.place file) refl bytes)) short
    (body_ok body version there.reads)).within

are_versions : ReadIsBody → (log : Log) → AllByRecursion (λ (entry : ℕ × MapVersion). (file : List ℕ)
    × ((at : ℕ) → slice_index file at < 256) × (stood_for file ≡ Some (Some entry.1))) log
    → All (λ (entry : ℕ × MapVersion). IsVersion entry.1) log
are_versions read [] all = All-nil (λ (entry : ℕ × MapVersion). IsVersion entry.1)
are_versions read (entry ∷ log) all =
    All-cons (λ (entry : ℕ × MapVersion). IsVersion entry.1) entry log (is_version read all.0.0 entry.1 all.0.1 all.0.2) (are_versions read log all.1)

pub are_served : ReadIsBody → (catalogue : Catalogue) (log : Log) → AreNamed catalogue
    → AllByRecursion (λ (entry : ℕ × MapVersion). (file : List ℕ) × ((at : ℕ) → slice_index file at < 256)
    × (stood_for file ≡ Some (Some entry.1))) log
    → AreServed (maps_on catalogue log)
are_served read catalogue log named stored =
    record { catalogue = is_catalogue catalogue named; versions = are_versions read log stored }
