use Rattle.std.proofs.Common.{◌≡◌, ◌∙◌, ℕ, List, refl, ap, subst, rules}
use Rattle.std.specs.Prelude.{IfErr}
use Rattle.yp_board.specs.declared.catalog.MapName.{MapName}
use Rattle.yp_board.specs.Catalogues.{Name, name_view}
use Rattle.yp_command.specs.office.Disks.{faults_at}
use Rattle.yp_command.specs.office.Seeing.{seeing}
use Rattle.yp_command.specs.declared.office.status.Status.TheVariants.{DiskFault}
use Rattle.yp_netgroup.specs.declared.reverse.field.Field.{Field}
use Rattle.yp_command_maps.specs.Revnet.{Job, job_of, field_of, OwnDiskFails}
use Rattle.yp_command_maps.specs.inside.Revnet.{two_tell}
use Rattle.yp_command_maps.proofs.Reversing.{renews_as}
use Rattle.yp_command_maps.proofs.Reversed.{revnet_does}
use Rattle.yp_command_maps.proofs.revnet.reverse_map.Goals as goal

pub returns-clause-does : goal.returns-clause-does
returns-clause-does g c =
    let seen = seeing g.S.Source g.K.Sink g.D.Disk g.C.Clock g.A.Dial g.I.Inbox g.T.Texts in
    let old = c.args.office.now in
    let new = record old {
      wire = record old.wire { sink = c.tell_end.new.sink };
      disks = c.renew_named-built.new.disks;
      clock = c.now-now.new.self;
    } in
    let job_with : List ℕ → Name → Field → Job = λ own store field.
    record { name = own; store = store; field = field } in
    let told : name_view c.in-Ok-Ok.told ≡ name_view c.args.store = search (rules, c.in-Ok-Ok.ensures, c.in-Ok-Ok.told-is) in
    revnet_does seen c.args.name.items (name_view c.args.store) c.now-now.result c.renew_named-built.result c.tell_end.result old new
    (record {
      clock = c.now-now.ensures.told;
      renews = renews_as (job_with c.deref-2.result.now (name_view c.in-Ok-Ok.told) c.field_of-field.result)
          (job_of c.args.name.items (name_view c.args.store))
          c.now-now.result c.renew_named-built.result (two_tell seen.disk.history seen.disk.faults old.disks.items)
          (two_tell seen.disk.history seen.disk.faults new.disks.items)
          (ap (λ (own : List ℕ). job_with own (name_view c.in-Ok-Ok.told) c.field_of-field.result) c.deref-2.ensures.value
          ∙ ap (λ (field : Field). job_with c.args.name.items (name_view c.in-Ok-Ok.told) field)
          (c.field_of-field.ensures ∙ ap field_of c.deref.ensures.value)
          ∙ ap (λ (store : Name). job_with c.args.name.items store (field_of c.args.store.map.items)) told)
          c.renew_named-built.ensures.renews;
      own_disk = subst (λ (store : Name). IfErr c.renew_named-built.result (λ why. (map : MapName) → why ≡ DiskFault map
          → OwnDiskFails store (name_view map)
          (faults_at seen.disk.faults 0 old.disks.items) (faults_at seen.disk.faults 0 new.disks.items)
          (faults_at seen.disk.faults 1 old.disks.items) (faults_at seen.disk.faults 1 new.disks.items)))
          told c.renew_named-built.ensures.own_disk;
      stop = c.renew_named-built.ensures.stop;
      ends = c.tell_end.ensures.ends;
      may_end = c.tell_end.ensures.may_end;
      write_fault = c.tell_end.ensures.write_fault;
      names = c.renew_named-built.ensures.names;
      told = c.now-now.ensures.same;
      stays = refl;
    })
