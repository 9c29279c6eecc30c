use Rattle.std.proofs.Common.{◌≡◌, ◌++◌, Bool, true, false, not, List, ℕ, length, take, Some, refl, sym, ap, ◌∙◌, arith}
use Rattle.std.specs.Prelude.{bytes_eq, is_some}
use Rattle.std.proofs.lemmas.List.{append-nil}
use Rattle.yp_xdr.specs.Spelling.{spelling}
use Rattle.yp_messages.specs.inside.MapLists.{map_item}
use Rattle.yp_board.specs.Catalogues.{name_view}
use Rattle.yp_answer.specs.Maps.{Maps, maps_of}
use Rattle.yp_answer.specs.Results.{is_listed}
use Rattle.yp_answer.specs.inside.Results.{map_part}
use Rattle.yp_answer.proofs.Fronts.{front_set}
use Rattle.yp_answer.proofs.Rooms.{opaque_short}
use Rattle.yp_answer.proofs.Listing.{listed_as, is_some-option_map, part_listed, part_left_out, named_by}
use Rattle.yp_answer.proofs.facts.put_map.Goals as goal
use Rattle.yp_answer.proofs.facts.put_map.Goals.{then-ne-via-then-ne, then-ne-via-else-ne+then-is_none}

not_true : (b : Bool) → not b ≡ true → b ≡ false
not_true true e = absurd cc
not_true false e = refl

not_false : (b : Bool) → not b ≡ false → b ≡ true
not_false true e = refl
not_false false e = absurd cc

pub returns-then-ne-clause-put : goal.returns-then-ne-clause-put
returns-then-ne-clause-put g c =
    let seen = g.V.View.seen c.args.view.now in
    let maps : Maps = maps_of seen in
    let name = c.name-name.result.now in
    let named = named_by c.catalog.result.now seen.catalogue c.args.map (name_view name) c.catalog.ensures c.name-name.ensures.catalogue c.name-name.ensures.name in
    let domains : c.ne.result ≡ not (bytes_eq name.domain.items c.args.domain.now) = c.ne.ensures ∙ ap (λ (d : List ℕ). not (bytes_eq d c.args.domain.now)) c.as_slice.ensures.value in
    let left_out : is_listed maps c.args.domain.now (name_view name) ≡ false =
    elim c.then-ne.branch [
      | then-ne-via-then-ne w ↦ listed_as maps c.args.domain.now c.args.map (name_view name) false _ named.distinct named.there (not_true _ (sym domains ∙ w.if-ne.true)) refl
      | then-ne-via-else-ne+then-is_none w ↦
          listed_as maps c.args.domain.now c.args.map (name_view name) true false named.distinct named.there (not_false _ (sym domains ∙ w.if-ne.false))
          (ap is_some (sym w.held.ensures) ∙ is_some-option_map (λ version. version.now) w.held.result ∙ w.is_none.ensures ∙ ap not w.if-is_none.true)
    ] in
    sym (append-nil (take c.args.at c.args.buf.now))
    ∙ ap (λ (bytes : List ℕ). take c.args.at c.args.buf.now ++ bytes) (sym (ap (map_part maps c.args.domain.now) named.is ∙ part_left_out maps c.args.domain.now (name_view name) left_out))

pub set-requires-clause-within : goal.set-requires-clause-within
set-requires-clause-within g c =
    let seen = g.V.View.seen c.args.view.now in
    let named = named_by c.catalog.result.now seen.catalogue c.args.map (name_view c.name-name.result.now) c.catalog.ensures c.name-name.ensures.catalogue c.name-name.ensures.name in
    omega (arith, named.len, ap length c.deref.ensures.value)

pub set-requires-clause-room : goal.set-requires-clause-room
set-requires-clause-room g c =
    let seen = g.V.View.seen c.args.view.now in
    let named = named_by c.catalog.result.now seen.catalogue c.args.map (name_view c.name-name.result.now) c.catalog.ensures c.name-name.ensures.catalogue c.name-name.ensures.name in
    omega (arith, named.len, ap length c.deref.ensures.value, opaque_short c.deref.result.now, c.requires.room)

pub returns-clause-put : goal.returns-clause-put
returns-clause-put g c =
    let seen = g.V.View.seen c.args.view.now in
    let maps : Maps = maps_of seen in
    let name = c.name-name.result.now in
    let named = named_by c.catalog.result.now seen.catalogue c.args.map (name_view name) c.catalog.ensures c.name-name.ensures.catalogue c.name-name.ensures.name in
    let domains : c.ne.result ≡ not (bytes_eq name.domain.items c.args.domain.now) = c.ne.ensures ∙ ap (λ (d : List ℕ). not (bytes_eq d c.args.domain.now)) c.as_slice.ensures.value in
    let is : is_listed maps c.args.domain.now (name_view name) ≡ true =
    listed_as maps c.args.domain.now c.args.map (name_view name) true true named.distinct named.there (not_false _ (sym domains ∙ c.if-ne.false))
    (ap is_some (sym c.held.ensures) ∙ is_some-option_map (λ version. version.now) c.held.result ∙ c.is_none.ensures ∙ ap not c.if-is_none.false) in
    let part : map_part maps c.args.domain.now _ ≡ spelling map_item (Some name.map.items) =
    ap (map_part maps c.args.domain.now) named.is ∙ part_listed maps c.args.domain.now (name_view name) is in
    front_set (spelling map_item (Some c.deref.result.now)) c.args.buf.now c.set.new.buf c.args.at c.set.result c.set.ensures (omega (arith, c.requires.room))
    ∙ ap (λ (bytes : List ℕ). take c.args.at c.args.buf.now ++ bytes) (ap (λ (m : List ℕ). spelling map_item (Some m)) c.deref.ensures.value ∙ sym part)

pub returns-clause-within : goal.returns-clause-within
returns-clause-within g c =
    let seen = g.V.View.seen c.args.view.now in
    let named = named_by c.catalog.result.now seen.catalogue c.args.map (name_view c.name-name.result.now) c.catalog.ensures c.name-name.ensures.catalogue c.name-name.ensures.name in
    omega (arith, named.len, ap length c.deref.ensures.value, opaque_short c.deref.result.now, c.set.ensures.place)
