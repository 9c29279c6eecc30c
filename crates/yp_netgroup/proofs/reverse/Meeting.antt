-- Names are met: what is put behind others, and what is left at the end.
use Rattle.std.proofs.Common.{◌≡◌, ℕ, suc, zero, ◌+◌, ◌<◌, ◌≤◌, ◌⊎◌, Bool, true, false, cond, ◌||◌, List, [], ◌∷◌, ◌++◌, length, map}
use Rattle.std.proofs.Common.{get_or, bytes_eq, Contains, refl, sym, subst, ap, ◌∙◌, inl, inr, arith, length-append, below_more}
use Rattle.std.proofs.Common.{drop, drop-cons, add-one}
use Rattle.std.specs.Borrow.{Bor}
use Rattle.std.specs.List.{list_any}
use Rattle.std.proofs.lemmas.List.{get_or_append_left, get_or_default, map-append, get_or-map}
use Rattle.std.proofs.lemmas.List.Elements.{Contains-get_or, Contains-append_left, Contains-append_right, Contains-append_cases}
use Rattle.indexmap.specs.IndexSet.{insert_key, insert_all}
use Rattle.indexmap.proofs.CallerLemmas.{Contains-insert_key}
use Rattle.yp_netgroup.specs.inside.reverse.Back.{LeadsBack, Start, Back, IsMetBack}
use Rattle.yp_netgroup.proofs.reverse.Dots.{same}
use Rattle.yp_netgroup.proofs.reverse.Linking.{alike}

abbrev Name : Type 0
Name = List ℕ

-- ---- names in a set, and their bytes

abbrev pub bytes : Bor (List ℕ) → List ℕ
bytes name = name.now

any-bytes : (name : Bor (List ℕ)) (names : List (Bor (List ℕ)))
    → list_any (alike name) names ≡ list_any (bytes_eq name.now) (map bytes names)
any-bytes name [] = refl
any-bytes name (other ∷ names) = ap (λ more. bytes_eq name.now other.now || more) (any-bytes name names)

insert_case : (there : Bool) (name : Bor (List ℕ)) (names : List (Bor (List ℕ)))
    → map bytes (cond there names (names ++ name ∷ [])) ≡ cond there (map bytes names) (map bytes names ++ name.now ∷ [])
insert_case true name names = refl
insert_case false name names = map-append bytes names (name ∷ [])

-- a name is put into a set as its bytes into their list
pub bytes-insert : (names : List (Bor (List ℕ))) (name : Bor (List ℕ))
    → map bytes (insert_key alike names name) ≡ insert_key bytes_eq (map bytes names) name.now
bytes-insert names name =
    insert_case (list_any (alike name) names) name names
    ∙ ap (λ there. cond there (map bytes names) (map bytes names ++ name.now ∷ [])) (any-bytes name names)

-- the bytes of the name at a place
pub name-at : (names lent : List (Bor (List ℕ))) (i : ℕ) (d : Bor (List ℕ)) → lent ≡ names → i < length names
    → (get_or lent i d).now ≡ get_or (map bytes names) i []
name-at names lent i d e within =
    ap (λ all. (get_or all i d).now) e ∙ sym (get_or-map bytes names i d [] within)

-- ---- names that are put behind others

longer_case : (there : Bool) (met : List Name) (name : Name) → length met ≤ length (cond there met (met ++ name ∷ []))
longer_case true met name = omega arith
longer_case false met name = omega (arith, length-append met (name ∷ []))

stays_case : (there : Bool) (met : List Name) (name : Name) (k : ℕ) → k < length met
    → get_or (cond there met (met ++ name ∷ [])) k [] ≡ get_or met k []
stays_case true met name k h = refl
stays_case false met name k h = get_or_append_left met (name ∷ []) [] k h

all-longer : (met more : List Name) → length met ≤ length (insert_all bytes_eq met more)
all-longer met [] = omega arith
all-longer met (name ∷ more) =
    omega (arith, longer_case (list_any (bytes_eq name) met) met name, all-longer (insert_key bytes_eq met name) more)

all-stays : (met more : List Name) (k : ℕ) → k < length met
    → get_or (insert_all bytes_eq met more) k [] ≡ get_or met k []
all-stays met [] k h = refl
all-stays met (name ∷ more) k h =
    all-stays (insert_key bytes_eq met name) more k (omega (arith, longer_case (list_any (bytes_eq name) met) met name))
    ∙ stays_case (list_any (bytes_eq name) met) met name k h

old_case : (there : Bool) (met : List Name) (name x : Name) → Contains met x → Contains (cond there met (met ++ name ∷ [])) x
old_case true met name x h = h
old_case false met name x h = Contains-append_left met (name ∷ []) x h

-- the old ones are kept
all-old : (met more : List Name) (x : Name) → Contains met x → Contains (insert_all bytes_eq met more) x
all-old met [] x h = h
all-old met (name ∷ more) x h =
    all-old (insert_key bytes_eq met name) more x (old_case (list_any (bytes_eq name) met) met name x h)

pub contains-none : {X : Type 0} (x : X) → Contains [] x → ⊥
contains-none x h = absurd (omega (arith, h.1))

pub contains-one : {X : Type 0} (name x : X) → Contains (name ∷ []) x → name ≡ x
contains-one name x (zero, within, e) = e
contains-one name x (suc k, within, e) = absurd (omega (arith, within))

-- the new ones are there
all-new : (met more : List Name) (x : Name) → Contains more x → Contains (insert_all bytes_eq met more) x
all-new met [] x h = absurd (contains-none x h)
all-new met (name ∷ more) x h =
    elim (Contains-append_cases (name ∷ []) more x h) [
      | inl here ↦ all-old (insert_key bytes_eq met name) more x
          (subst (Contains (insert_key bytes_eq met name)) (contains-one name x here) (Contains-insert_key bytes_eq same met name))
      | inr later ↦ all-new (insert_key bytes_eq met name) more x later
    ]

from_case : (there : Bool) (met : List Name) (name x : Name) → Contains (cond there met (met ++ name ∷ [])) x
    → Contains met x ⊎ (name ≡ x)
from_case true met name x h = inl h
from_case false met name x h =
    elim (Contains-append_cases met (name ∷ []) x h) [ inl old ↦ inl old | inr new ↦ inr (contains-one name x new) ]

-- and there are no others
all-from : (met more : List Name) (x : Name) → Contains (insert_all bytes_eq met more) x → Contains met x ⊎ Contains more x
all-from met [] x h = inl h
all-from met (name ∷ more) x h =
    elim (all-from (insert_key bytes_eq met name) more x h) [
      | inl before ↦ elim (from_case (list_any (bytes_eq name) met) met name x before) [
        | inl old ↦ inl old
        | inr e ↦ inr (Contains-append_left (name ∷ []) more x (0, omega arith, e))
      ]
      | inr later ↦ inr (Contains-append_right (name ∷ []) more x later)
    ]

-- ---- the names that are met

module _ (under : Name → List Name) (starts : List Name) where
  -- the starts are met first
  pub met-first : IsMetBack under starts (insert_all bytes_eq [] starts) 0
  met-first = record {
    reached = λ name h. elim (all-from [] starts name h) [ inl old ↦ absurd (contains-none name old) | inr new ↦ Start new ];
    started = λ name h. all-new [] starts name h;
    closed = λ k name h. absurd (omega (arith, h));
  }

  -- those under the next name are met
  pub met-next : (met : List Name) (read : ℕ) (name : Name) → IsMetBack under starts met read → read < length met
      → name ≡ get_or met read [] → IsMetBack under starts (insert_all bytes_eq met (under name)) (read + 1)
  met-next met read name is within at =
      let added = under name in
      let new = insert_all bytes_eq met added in
      let here : get_or new read [] ≡ name = all-stays met added read within ∙ sym at in
      record {
        reached = λ other h. elim (all-from met added other h) [
          | inl old ↦ is.reached other old
          | inr below ↦ Back (is.reached name (subst (Contains met) (sym at) (Contains-get_or met read [] within))) below
        ];
        started = λ other h. all-old met added other (is.started other h);
        closed = λ k other h named. below_more (λ k. (other : Name) → Contains (under (get_or new k [])) other → Contains new other) read
            (λ k below other named. all-old met added other (is.closed k other below
            (subst (λ via. Contains (under via) other) (all-stays met added k (omega arith)) named)))
            (λ other named. all-new met added other (subst (λ via. Contains (under via) other) here named)) k h other named;
      }

  -- at the end all that are led to are met
  pub met-whole : (met : List Name) (read : ℕ) → length met ≤ read → IsMetBack under starts met read
      → (name : Name) → LeadsBack under starts name → Contains met name
  met-whole met read whole is name (Start h) = is.started name h
  met-whole met read whole is name (Back {via} led below) =
      let found = met-whole met read whole is via led in
      let there : get_or met found.0 [] ≡ via = get_or_default met found.0 [] via found.1 ∙ found.2 in
      is.closed found.0 name (omega (arith, found.1, whole)) (subst (λ other. Contains (under other) name) (sym there) below)

-- one more of the names that come is met
pub meet-step : (names seen new : List (Bor (List ℕ))) (i : ℕ) (d : Bor (List ℕ)) (all : List Name) → i < length names
    → new ≡ insert_key alike seen (get_or names i d)
    → insert_all bytes_eq (map bytes seen) (map bytes (drop i names)) ≡ all
    → insert_all bytes_eq (map bytes new) (map bytes (drop (i + 1) names)) ≡ all
meet-step names seen new i d all within is before =
    let more = map bytes (drop (i + 1) names) in
    let left : drop i names ≡ get_or names i d ∷ drop (i + 1) names = rw (add-one) (drop-cons names i d within) in
    ap (λ met. insert_all bytes_eq met more) (ap (map bytes) is ∙ bytes-insert seen (get_or names i d))
    ∙ sym (ap (λ left. insert_all bytes_eq (map bytes seen) (map bytes left)) left) ∙ before
