-- Names are met: what a text adds, and what is left at the end.
use Rattle.std.proofs.Common.{◌≡◌, ℕ, suc, zero, ◌+◌, ◌<◌, ◌≤◌, ◌⊎◌, Bool, true, false, cond, ◌||◌, List, [], ◌∷◌, ◌++◌, length}
use Rattle.std.proofs.Common.{get_or, bytes_eq, Option, Some, None, Contains, refl, sym, subst, ap, ◌∙◌, inl, inr, arith}
use Rattle.std.proofs.Common.{length-append, below_more}
use Rattle.std.specs.List.{list_any}
use Rattle.std.proofs.lemmas.List.{get_or_append_left, get_or_default}
use Rattle.std.proofs.lemmas.List.Elements.{Contains-get_or, Contains-append_left, Contains-append_right, Contains-append_cases}
use Rattle.std.specs.Cmp.Lexicographic.{bytes_decides}
use Rattle.indexmap.specs.IndexSet.{insert_key, insert_all}
use Rattle.indexmap.proofs.CallerLemmas.{Contains-insert_key}
use Rattle.yp_version.specs.Rows.{Row}
use Rattle.yp_netgroup.specs.Parts.{Part, Includes, Lists, names}
use Rattle.yp_netgroup.specs.Reach.{SoughtMember, NamesGroup, Reaches, Itself, Onward, members_of, fits, has_fitting}
use Rattle.yp_netgroup.specs.inside.Seen.{has_sought, IsMet}

abbrev Name : Type 0
Name = List ℕ

-- ---- one member, and then others

or_case : (a b : Bool) → (a || b) ≡ ((a || false) || b)
or_case true b = refl
or_case false b = refl

pub sought-cons : (sought : Option SoughtMember) (part : Part) (members : List Part)
    → has_sought sought (part ∷ members) ≡ (has_sought sought (part ∷ []) || has_sought sought members)
sought-cons None part members = refl
sought-cons (Some asked) (Includes name) members = refl
sought-cons (Some asked) (Lists triple) members = or_case (fits asked triple) (has_fitting asked members)

pub names-cons : (met : List Name) (part : Part) (members : List Part)
    → insert_all bytes_eq met (names (part ∷ members))
    ≡ insert_all bytes_eq (insert_all bytes_eq met (names (part ∷ []))) (names members)
names-cons met (Includes name) members = refl
names-cons met (Lists triple) members = refl

-- ---- names that are put behind others

longer_case : (there : Bool) (met : List Name) (name : Name) → length met ≤ length (cond there met (met ++ name ∷ []))
longer_case true met name = omega arith
longer_case false met name = omega (arith, length-append met (name ∷ []))

stays_case : (there : Bool) (met : List Name) (name : Name) (k : ℕ) → k < length met
    → get_or (cond there met (met ++ name ∷ [])) k [] ≡ get_or met k []
stays_case true met name k h = refl
stays_case false met name k h = get_or_append_left met (name ∷ []) [] k h

pub all-longer : (met more : List Name) → length met ≤ length (insert_all bytes_eq met more)
all-longer met [] = omega arith
all-longer met (name ∷ more) =
    omega (arith, longer_case (list_any (bytes_eq name) met) met name, all-longer (insert_key bytes_eq met name) more)

pub all-stays : (met more : List Name) (k : ℕ) → k < length met
    → get_or (insert_all bytes_eq met more) k [] ≡ get_or met k []
all-stays met [] k h = refl
all-stays met (name ∷ more) k h =
    all-stays (insert_key bytes_eq met name) more k (omega (arith, longer_case (list_any (bytes_eq name) met) met name))
    ∙ stays_case (list_any (bytes_eq name) met) met name k h

old_case : (there : Bool) (met : List Name) (name x : Name) → Contains met x → Contains (cond there met (met ++ name ∷ [])) x
old_case true met name x h = h
old_case false met name x h = Contains-append_left met (name ∷ []) x h

-- the old ones are kept
pub all-old : (met more : List Name) (x : Name) → Contains met x → Contains (insert_all bytes_eq met more) x
all-old met [] x h = h
all-old met (name ∷ more) x h =
    all-old (insert_key bytes_eq met name) more x (old_case (list_any (bytes_eq name) met) met name x h)

same_name : (a b : Name) → bytes_eq a b ≡ true → a ≡ b
same_name a b e = (bytes_decides a b).0 e

contains-none : (x : Name) → Contains [] x → ⊥
contains-none x h = absurd (omega (arith, h.1))

contains-one : (name x : Name) → Contains (name ∷ []) x → name ≡ x
contains-one name x (zero, within, e) = e
contains-one name x (suc k, within, e) = absurd (omega (arith, within))

-- the new ones are there
pub all-new : (met more : List Name) (x : Name) → Contains more x → Contains (insert_all bytes_eq met more) x
all-new met [] x h = absurd (contains-none x h)
all-new met (name ∷ more) x h =
    elim (Contains-append_cases (name ∷ []) more x h) [
      | inl here ↦ all-old (insert_key bytes_eq met name) more x
          (subst (Contains (insert_key bytes_eq met name)) (contains-one name x here) (Contains-insert_key bytes_eq same_name met name))
      | inr later ↦ all-new (insert_key bytes_eq met name) more x later
    ]

from_case : (there : Bool) (met : List Name) (name x : Name) → Contains (cond there met (met ++ name ∷ [])) x
    → Contains met x ⊎ (name ≡ x)
from_case true met name x h = inl h
from_case false met name x h =
    elim (Contains-append_cases met (name ∷ []) x h) [ inl old ↦ inl old | inr new ↦ inr (contains-one name x new) ]

-- and there are no others
pub all-from : (met more : List Name) (x : Name) → Contains (insert_all bytes_eq met more) x → Contains met x ⊎ Contains more x
all-from met [] x h = inl h
all-from met (name ∷ more) x h =
    elim (all-from (insert_key bytes_eq met name) more x h) [
      | inl before ↦ elim (from_case (list_any (bytes_eq name) met) met name x before) [
        | inl old ↦ inl old
        | inr e ↦ inr (Contains-append_left (name ∷ []) more x (0, omega arith, e))
      ]
      | inr later ↦ inr (Contains-append_right (name ∷ []) more x later)
    ]

-- ---- the names that are met

module _ (rows : List Row) (group : Name) (sought : Option SoughtMember) where
  -- the group itself is met first
  pub met-first : IsMet rows group sought (group ∷ []) 0
  met-first = record {
    some = omega arith;
    first = refl;
    reached = λ name h. subst (Reaches rows group) (contains-one group name h) Itself;
    closed = λ k name h. absurd (omega (arith, h));
    missed = λ k h. absurd (omega (arith, h));
  }

  -- the next text is read
  pub met-next : (met : List Name) (read : ℕ) (name : Name) → IsMet rows group sought met read → read < length met
      → name ≡ get_or met read [] → has_sought sought (members_of rows name) ≡ false
      → IsMet rows group sought (insert_all bytes_eq met (names (members_of rows name))) (read + 1)
  met-next met read name is within at missed =
      let added = names (members_of rows name) in
      let new = insert_all bytes_eq met added in
      let here : get_or new read [] ≡ name = all-stays met added read within ∙ sym at in
      record {
        some = omega (arith, is.some, all-longer met added);
        first = all-stays met added 0 is.some ∙ is.first;
        reached = λ other h. elim (all-from met added other h) [
          | inl old ↦ is.reached other old
          | inr named ↦ Onward (is.reached name (subst (Contains met) (sym at) (Contains-get_or met read [] within))) named
        ];
        closed = λ k other h named. below_more (λ k. (other : Name) → NamesGroup rows (get_or new k []) other → Contains new other) read
            (λ k below other named. all-old met added other (is.closed k other below
            (subst (λ via. NamesGroup rows via other) (all-stays met added k (omega arith)) named)))
            (λ other named. all-new met added other (subst (λ via. NamesGroup rows via other) here named)) k h other named;
        missed = below_more (λ k. has_sought sought (members_of rows (get_or new k [])) ≡ false) read
            (λ k below. ap (λ via. has_sought sought (members_of rows via)) (all-stays met added k (omega arith)) ∙ is.missed k below)
            (ap (λ via. has_sought sought (members_of rows via)) here ∙ missed);
      }

  -- at the end all names that are reached are met
  pub met-whole : (met : List Name) → IsMet rows group sought met (length met)
      → (name : Name) → Reaches rows group name → Contains met name
  met-whole met is name Itself = subst (Contains met) is.first (Contains-get_or met 0 [] is.some)
  met-whole met is name (Onward {via} reached named) =
      let found = met-whole met is via reached in
      let there : get_or met found.0 [] ≡ via = get_or_default met found.0 [] via found.1 ∙ found.2 in
      is.closed found.0 name found.1 (subst (λ other. NamesGroup rows other name) (sym there) named)
