-- Names by their number.
use Rattle.std.proofs.Common.{◌≡◌, ℕ, zero, suc, ◌<◌, List, [], ◌∷◌, length, map, Some, sym, ap, subst, arith, get_or}
use Rattle.std.specs.Prelude.{slice_get, slice_index_or, All}
use Rattle.yp_board.specs.Catalogues.{Name, name_view}
use Rattle.yp_board.specs.declared.catalog.MapName.{MapName}
use Rattle.yp_command.specs.inside.Words.{IsNamed}

-- the name of a map with a number
pub name_found : (names : List MapName) (number : ℕ) (name : MapName) → number < length names → name ≡ get_or names number name → slice_get (map name_view names) number ≡ Some (name_view name)
name_found [] number name lt is = absurd (omega (arith, lt))
name_found (first ∷ names) zero name lt is = ap (λ n. Some (name_view n)) (sym is)
name_found (first ∷ names) (suc number) name lt is = name_found names number name (omega arith) is

at_found : (names : List Name) (number : ℕ) (name : Name) → slice_get names number ≡ Some name → (number < length names) × (slice_index_or names number name ≡ name)
at_found [] number name is = absurd cc
at_found (first ∷ names) zero name is = (omega arith, cc)
at_found (first ∷ names) (suc number) name is = let more = at_found names number name is in (omega (arith, more.0), more.1)

pub found_named : (names : List Name) (number : ℕ) (name : Name) → All IsNamed names → slice_get names number ≡ Some name → IsNamed name
found_named names number name all is = let at = at_found names number name is in subst IsNamed at.1 (all number name at.0)
