-- What a step adds to a log.
use Rattle.std.proofs.Common.{◌≡◌, ◌⊎◌, inl, inr, ℕ, ◌<◌, ◌≤◌, List, [], ◌∷◌, ◌++◌, length, slice_get, Option, IfSome, arith, append_assoc, sym, ◌∙◌, ap, subst}
use Rattle.std.proofs.lemmas.List.{append-nil}
use Rattle.std.proofs.lemmas.Option.{slice_get_cases}
use Rattle.yp_version.specs.Versions.{MapVersion}
use Rattle.yp_board.specs.Logs.{Log}
use Rattle.yp_board.specs.Views.{IsFront}
use Rattle.yp_publisher.specs.Standing.{StoredMap, Published, At, IsSameElsewhere}
use Rattle.yp_publisher.specs.Opens.{IsAnother}
use Rattle.yp_publisher.specs.Rising.{with_shown}

pub front_none : (log other : Log) → other ≡ log → IsFront log other
front_none log other e = ([], e ∙ sym (append-nil log))

pub front_then : (a b c : Log) → IsFront a b → IsFront b c → IsFront a c
front_then a b c first second =
    (first.0 ++ second.0, second.1 ∙ ap (λ (l : Log). l ++ second.0) first.1 ∙ append_assoc a first.0 second.0)

-- a board that stays as it is
pub front_same : {B : Type 0} (log : B → Log) (old new : B) → new ≡ old → IsFront (log old) (log new)
front_same log old new e = ([], ap log e ∙ sym (append-nil (log old)))

-- one more version
pub front_more : (number : ℕ) (version : MapVersion) (old new : Log) → new ≡ with_shown number version old → IsFront old new
front_more number version old new e = ((number, version) ∷ [], e)

-- what holds of a map before and after a call, where there is that map
pub at_one : {D Q : Type 0} (P : StoredMap D → StoredMap D → Type 0) (number : ℕ) (old new : List (StoredMap D))
    → number < length old → length new ≡ length old → ((before after : StoredMap D) → P before after → Q) → At number old new P → Q
at_one {D} P number old new lt count f h =
    elim (slice_get_cases old number).1 [
      | inl here ↦ elim (slice_get_cases new number).1 [
        | inl there ↦
            let first : IfSome (slice_get new number) (P here.0) = subst (λ (o : Option (StoredMap D)). IfSome o (λ before. IfSome (slice_get new number) (P before))) here.2 h in
            f here.0 there.0 (subst (λ (o : Option (StoredMap D)). IfSome o (P here.0)) there.2 first)
        | inr past ↦ let le : length new ≤ number = past.0 in absurd (omega arith)
      ]
      | inr past ↦ let le : length old ≤ number = past.0 in absurd (omega arith)
    ]

-- what an opening shows
pub opened_front : {D B : Type 0} (log : B → Log) (number : ℕ) (old new : Published D B)
    → number < length old.maps → IsSameElsewhere number old.maps new.maps
    → At number old.maps new.maps (λ before after.
    ((new.board ≡ old.board) × (after.version ≡ before.version))
    ⊎ ((version : MapVersion) × IsAnother version before after × (log new.board ≡ with_shown number version (log old.board))))
    → IsFront (log old.board) (log new.board)
opened_front log number old new lt same h =
    at_one (λ before after.
    ((new.board ≡ old.board) × (after.version ≡ before.version))
    ⊎ ((version : MapVersion) × IsAnother version before after × (log new.board ≡ with_shown number version (log old.board))))
    number old.maps new.maps lt same.count
    (λ before after one. elim one [
      | inl still ↦ front_same log old.board new.board still.0
      | inr more ↦ front_more number more.0 (log old.board) (log new.board) more.2
    ])
    h
