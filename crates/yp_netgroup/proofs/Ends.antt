-- What is known at the end of a search.
use Rattle.std.proofs.Common.{◌≡◌, ℕ, ◌+◌, ◌<◌, Bool, true, false, not, List, [], ◌∷◌, ◌++◌, length, get_or, take, map, bytes_eq}
use Rattle.std.proofs.Common.{Option, Some, None, refl, sym, subst, ap, ◌∙◌, is_some, true≢false, Vec, Global, add-one}
use Rattle.std.specs.Prelude.{MatchOption, IfSome, IfOk, IsTrue, ◌↔◌, Result, Ok, Err}
use Rattle.std.specs.Borrow.{Bor}
use Rattle.std.specs.List.{IsDistinct}
use Rattle.std.specs.declared.hash.RandomState.{RandomState}
use Rattle.std.proofs.lemmas.List.{map-append, get_or_default}
use Rattle.std.proofs.lemmas.Option.{slice_get-get_or}
use Rattle.std.proofs.Math.Seq.{take-suc}
use Rattle.indexmap.specs.IndexSet.{IndexSet}
use Rattle.yp_io.specs.declared.stream.NoMemory.{NoMemory}
use Rattle.yp_version.specs.Rows.{Row}
use Rattle.yp_netgroup.specs.Reach.{SoughtMember, members_of, has_fitting}
use Rattle.yp_netgroup.specs.inside.Reach.{IsSpread, IsMember}
use Rattle.yp_netgroup.specs.inside.Seen.{names_of, IsMet, MemberIsFound}
use Rattle.yp_netgroup.proofs.NamesMet.{met-whole}

module _ (rows : List Row) (group : List ℕ) where
  -- ---- who is a member

  abbrev Searched : SoughtMember → Option (IndexSet (Bor (List ℕ)) RandomState) → Type 0
  Searched asked made =
      MatchOption made (MemberIsFound rows group (Some asked))
      (λ seen. IsMet rows group (Some asked) (names_of seen) (length (names_of seen)))

  -- where all that is reached has missed, none is a member
  no_member : (asked : SoughtMember) (met : List (List ℕ)) → IsMet rows group (Some asked) met (length met)
      → IsMember rows group asked → ⊥
  no_member asked met is member =
      let found = met-whole rows group (Some asked) met is member.via member.reached in
      let there : get_or met found.0 [] ≡ member.via = get_or_default met found.0 [] member.via found.1 ∙ found.2 in
      let missed : has_fitting asked (members_of rows member.via) ≡ false =
      ap (λ via. has_fitting asked (members_of rows via)) (sym there) ∙ is.missed found.0 found.1 in
      true≢false (sym member.listed ∙ missed)

  pub member-exact : (asked : SoughtMember) (made : Option (IndexSet (Bor (List ℕ)) RandomState)) (none : Bool)
      → Searched asked made → is_some made ≡ not none → IsTrue none ↔ IsMember rows group asked
  member-exact asked None true found e =
      (λ _. record { via = found.via; reached = found.reached; listed = found.listed }, λ _. refl)
  member-exact asked None false found e = absurd (true≢false (sym e))
  member-exact asked (Some seen) true is e = absurd (true≢false e)
  member-exact asked (Some seen) false is e =
      (λ h. absurd (true≢false (sym h)), λ member. absurd (no_member asked (names_of seen) is member))

  -- ---- the groups that are reached

  pub spread-exact : (met : List (List ℕ)) → IsMet rows group None met (length met) → IsDistinct bytes_eq met
      → IsSpread rows group met
  spread-exact met is once = record {
    first = slice_get-get_or met 0 [] is.some ∙ ap Some is.first;
    once = once;
    exactly = λ name. (is.reached name, met-whole rows group None met is name);
  }

  pub found-spread : (made : Option (IndexSet (Bor (List ℕ)) RandomState)) (seen : IndexSet (Bor (List ℕ)) RandomState)
      → made ≡ Some seen
      → MatchOption made (MemberIsFound rows group None) (λ seen. IsMet rows group None (names_of seen) (length (names_of seen)))
      → IfSome made (λ seen. IsDistinct bytes_eq (names_of seen)) → IsSpread rows group (names_of seen)
  found-spread made seen e is once =
      spread-exact (names_of seen)
      (subst (λ made. MatchOption made (MemberIsFound rows group None) (λ seen. IsMet rows group None (names_of seen) (length (names_of seen)))) e is)
      (subst (λ made. IfSome made (λ seen. IsDistinct bytes_eq (names_of seen))) e once)

  -- copies of them
  pub copies-spread : (copied : Result (Vec (Vec ℕ Global) Global) NoMemory) (met : List (List ℕ)) → IsSpread rows group met
      → IfOk copied (λ copies. map (λ name. name.items) copies.items ≡ met)
      → IfOk copied (λ copies. IsSpread rows group (map (λ name. name.items) copies.items))
  copies-spread (Ok copies) met is e = subst (IsSpread rows group) (sym e) is
  copies-spread (Err fault) met is e = tt

-- ---- one more copy

pub copied-more : (copies : List (Vec ℕ Global)) (copy : Vec ℕ Global) (names : List (List ℕ)) (i : ℕ)
    → map (λ name. name.items) copies ≡ take i names → i < length names → copy.items ≡ get_or names i []
    → map (λ name. name.items) (copies ++ copy ∷ []) ≡ take (i + 1) names
copied-more copies copy names i e within same =
    map-append (λ name. name.items) copies (copy ∷ [])
    ∙ ap (λ all. all ++ copy.items ∷ []) e ∙ ap (λ last. take i names ++ last ∷ []) same
    ∙ sym (take-suc names i [] within) ∙ ap (λ n. take n names) (sym (add-one i))
