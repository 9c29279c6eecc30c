use Rattle.std.proofs.Common.{◌≡◌, ℕ, zero, suc, ◌<◌, List, [], ◌∷◌, length, map, Some, None, sym, ap, subst, arith, get_or}
use Rattle.std.specs.Prelude.{All, slice_get}
use Rattle.std.proofs.lemmas.List.{length-map}
use Rattle.std.proofs.lemmas.Option.{slice_get_past}
use Rattle.yp_board.specs.Catalogues.{name_view}
use Rattle.yp_board.specs.declared.catalog.MapName.{MapName}
use Rattle.yp_command.specs.inside.Words.{IsNamed}
use Rattle.yp_command_serve.proofs.serve.log.add_numbered.Goals as goal

-- the name of a map with a number
name_found : (names : List MapName) (number : ℕ) (name : MapName) → number < length names
    → name ≡ get_or names number name → slice_get (map name_view names) number ≡ Some (name_view name)
name_found [] number name lt is = absurd (omega (arith, lt))
name_found (first ∷ names) zero name lt is = ap (λ n. Some (name_view n)) (sym is)
name_found (first ∷ names) (suc number) name lt is = name_found names number name (omega arith) is

-- it is named as all of them are
found_named : (names : List MapName) (number : ℕ) (name : MapName) → number < length names
    → name ≡ get_or names number name → All IsNamed (map name_view names) → IsNamed (name_view name)
found_named [] number name lt is all = absurd (omega (arith, lt))
found_named (first ∷ names) zero name lt is all =
    subst (λ (n : MapName). IsNamed (name_view n)) (sym is) (all 0 (name_view first) (omega arith))
found_named (first ∷ names) (suc number) name lt is all =
    found_named names number name (omega arith) is (λ k d lt. all (suc k) d (omega (arith, lt)))

pub add_map-requires-clause-domain : goal.add_map-requires-clause-domain
add_map-requires-clause-domain c =
    let at = c.in-Some.ensures.lookup in
    (found_named c.args.names.now c.args.number c.in-Some.name.now at.3.0 at.1 c.requires.named).0

pub add_map-requires-clause-map : goal.add_map-requires-clause-map
add_map-requires-clause-map c =
    let at = c.in-Some.ensures.lookup in
    (found_named c.args.names.now c.args.number c.in-Some.name.now at.3.0 at.1 c.requires.named).1

pub returns-in-Some-clause-text : goal.returns-in-Some-clause-text
returns-in-Some-clause-text c =
    let at = c.in-Some.ensures.lookup in
    rw (name_found c.args.names.now c.args.number c.in-Some.name.now at.3.0 at.1) c.add_map.ensures.text

pub returns-in-None-clause-text : goal.returns-in-None-clause-text
returns-in-None-clause-text c =
    let names = c.args.names.now in
    let past = c.in-None.ensures.lookup.3 in
    let none : slice_get (map name_view names) c.args.number ≡ None =
    slice_get_past (map name_view names) c.args.number (omega (arith, past, length-map names name_view)) in
    rw none c.add.ensures.text
