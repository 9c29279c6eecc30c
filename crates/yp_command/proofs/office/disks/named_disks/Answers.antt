use Rattle.std.proofs.Common.{◌≡◌, List, [], ◌∷◌, ◌++◌, map, refl, sym, ap, ◌∙◌, rules}
use Rattle.std.proofs.lemmas.List.{map-append}
use Rattle.yp_board.specs.Catalogues.{Name, name_view}
use Rattle.yp_command.specs.declared.office.disks.NamedDisk.{NamedDisk}
use Rattle.yp_command.specs.office.Disks.{names_of}
use borrow.Author.Rules.{of_calls}
use Rattle.yp_command.proofs.office.disks.named_disks.Goals as goal

-- one more disk has one more name
named_more : {D N : Type 0} (old new : List (NamedDisk D)) (disk : NamedDisk D) (view : N → Name) (front : List N) (name : N) → new ≡ old ++ disk ∷ [] → name_view disk.name ≡ view name
    → names_of old ≡ map view front → names_of new ≡ map view (front ++ name ∷ [])
named_more old new disk view front name is same before =
    ap names_of is ∙ map-append (λ d. name_view d.name) old (disk ∷ []) ∙ ap (λ (l : List Name). l ++ name_view disk.name ∷ []) before
    ∙ ap (λ (n : Name). map view front ++ n ∷ []) same ∙ sym (map-append view front (name ∷ []))

pub loop-name-preserved : goal.loop-name-preserved
loop-name-preserved g c = (
  search of_calls,
  named_more c.loop-name.disks.items c.push.new.self.items (record { name = c.in-Some.name; disk = c.in_ok-disk.disk }) name_view c.loop-name.yielded c.in-Some.name
      c.in_ok-push.ensures.items refl c.loop-name.invariant.1,
)
