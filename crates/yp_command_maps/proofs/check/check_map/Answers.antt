use Rattle.std.proofs.Common.{◌≡◌, [], ◌∷◌, ◌++◌, List, length, refl, rules, ap, ◌∙◌}
use Rattle.std.specs.Prelude.{⊤}
use Rattle.yp_board.specs.Catalogues.{name_view}
use Rattle.yp_command.specs.declared.office.disks.NamedDisk.{NamedDisk}
use Rattle.yp_command.specs.office.Seeing.{seeing}
use Rattle.yp_command_maps.proofs.Checking.{inspected_only, checked_whole, not_read, popped, one_name}
use Rattle.yp_command_maps.specs.Check.{Checks}
use Rattle.yp_command_maps.proofs.check.check_map.Goals as goal

pub returns-clause-does : goal.returns-clause-does
returns-clause-does g c =
    let before : NamedDisk g.row.D.Denot = c.in-Some.field-0 in
    let after : NamedDisk g.row.D.Denot = record { name = c.in-Some.field-0.name; disk = c.check_disk-status.result.1 } in
    let only : length c.args.office.now.disks.items ≡ 1 = one_name c.args.office.now.disks.items (name_view c.args.store) c.requires.only in
    let rest : c.pop.new.self.items ≡ [] = popped c.args.office.now.disks.items c.pop.new.self.items before c.in-Some.ensures.items only in
    let one : c.args.office.now.disks.items ≡ before ∷ [] = c.in-Some.ensures.items ∙ ap (λ (l : List (NamedDisk g.row.D.Denot)). l ++ before ∷ []) rest in
    let other : c.push_reserved.new.self.items ≡ after ∷ [] = c.push_reserved.ensures.items ∙ ap (λ (l : List (NamedDisk g.row.D.Denot)). l ++ after ∷ []) rest in
    inspected_only (seeing g.S.Source g.K.Sink g.D.Disk g.C.Clock g.A.Dial g.I.Inbox g.T.Texts) (Checks (name_view c.args.store)) (λ version. ⊤) c.check_disk-status.result.0
    c.args.office.now (record c.args.office.now { wire = record c.args.office.now.wire { sink = c.check_disk-status.new.sink }; disks = c.push_reserved.new.self }) before after
    (λ file version was is tells stood can. checked_whole (name_view c.args.store) file version c.check_disk-status.result.0 was is tells stood)
    one other refl
    (record {
      tells = search rules;
      unwritten = search rules;
      write_fault = search rules;
      disk_fault = search rules;
      name = search rules;
      read_fault = not_read c.check_disk-status.result.0 c.check_disk-status.ensures.may_end;
    })
