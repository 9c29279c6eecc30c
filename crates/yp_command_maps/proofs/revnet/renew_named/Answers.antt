use Rattle.std.proofs.Common.{◌≡◌, ◌∙◌, [], ◌∷◌, ◌++◌, List, sym, ap}
use Rattle.yp_board.specs.Catalogues.{name_view}
use Rattle.yp_command.specs.declared.office.disks.NamedDisk.{NamedDisk}
use Rattle.yp_command.specs.office.Disks.{names_of}
use Rattle.yp_map_file.specs.inside.Slots.{SlotModel}
use Rattle.yp_command_maps.specs.inside.Revnet.{both_tell}
use Rattle.yp_command_maps.proofs.Reversing.{no_rest, two_faults, own_disk_as, listed_tells, renews_at}
use Rattle.yp_command_maps.proofs.revnet.renew_named.Goals as goal

pub returns-clause-renews : goal.returns-clause-renews
returns-clause-renews g c =
    let history = g.D.Disk.history in
    let faults = g.D.Disk.faults in
    let first = c.in-Some-pop.first in
    let second = c.in-Some.second in
    let rest = c.pop-2.new.self.items in
    let whole = c.in-Some.ensures.items
    ∙ ap (λ (l : List (NamedDisk g.row.D.Denot)). l ++ second ∷ []) c.in-Some-pop.ensures.items in
    let none : rest ≡ [] = no_rest rest first second _ _
    (ap (λ (l : List (NamedDisk g.row.D.Denot)). names_of l) (sym whole) ∙ c.requires.both) in
    renews_at _ _ c.renew-built.result _ _ _ _
    (ap (λ (s : SlotModel g.row.D.Denot). both_tell history faults s.disk c.new-netgroup.result.disk) c.new-slot.ensures
    ∙ ap (λ (s : SlotModel g.row.D.Denot). both_tell history faults first.disk s.disk) c.new-netgroup.ensures
    ∙ listed_tells history faults c.args.disks.now.items c.pop.new.self.items rest first second
    c.in-Some.ensures.items c.in-Some-pop.ensures.items none)
    (ap (λ (d : g.row.D.Denot). both_tell history faults d c.renew-built.new.netgroup.disk) (sym c.into_disk.ensures)
    ∙ ap (λ (d : g.row.D.Denot). both_tell history faults c.into_disk.result d) (sym c.into_disk-2.ensures)
    ∙ listed_tells history faults c.push_reserved-2.new.self.items c.push_reserved.new.self.items rest _ _
    c.push_reserved-2.ensures.items c.push_reserved.ensures.items none)
    c.renew-built.ensures.renews

pub returns-clause-own_disk : goal.returns-clause-own_disk
returns-clause-own_disk g c =
    let faults = g.D.Disk.faults in
    let first = c.in-Some-pop.first in
    let second = c.in-Some.second in
    let rest = c.pop-2.new.self.items in
    let whole = c.in-Some.ensures.items
    ∙ ap (λ (l : List (NamedDisk g.row.D.Denot)). l ++ second ∷ []) c.in-Some-pop.ensures.items in
    let none : rest ≡ [] = no_rest rest first second _ _
    (ap (λ (l : List (NamedDisk g.row.D.Denot)). names_of l) (sym whole) ∙ c.requires.both) in
    let old = two_faults faults c.args.disks.now.items c.pop.new.self.items rest first second
    c.in-Some.ensures.items c.in-Some-pop.ensures.items none in
    let new = two_faults faults c.push_reserved-2.new.self.items c.push_reserved.new.self.items rest _ _
    c.push_reserved-2.ensures.items c.push_reserved.ensures.items none in
    own_disk_as c.renew-built.result (name_view c.args.names.store) _ _ _ _ _ _ _ _
    (old.0 ∙ ap (λ s. faults s.disk) (sym c.new-slot.ensures))
    (new.0 ∙ ap faults c.into_disk.ensures)
    (old.1 ∙ ap (λ s. faults s.disk) (sym c.new-netgroup.ensures))
    (new.1 ∙ ap faults c.into_disk-2.ensures)
    c.renew-built.ensures.own_disk
