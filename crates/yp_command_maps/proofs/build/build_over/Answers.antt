use Rattle.std.proofs.Common.{rules, subst, sym, Err}
use Rattle.yp_command_maps.specs.Disks.{only_tells}
use Rattle.yp_command_maps.specs.declared.build.BuildStop.{BuildStop}
use Rattle.yp_command_maps.specs.inside.Build.{job_view, BuildsOn}
use Rattle.yp_publisher.specs.Begins.{IsUnwritten}
use Rattle.yp_command_maps.proofs.OnDisk.{over_only, refused_only, level_only, zip_one}
use Rattle.yp_command_maps.proofs.build.build_over.Goals as goal

pub renew-built-requires-clause-level : goal.renew-built-requires-clause-level
renew-built-requires-clause-level g c = level_only g.D.Disk.history g.D.Disk.faults (job_view c.args.job.now) c.args.text.items c.args.now c.requires.text c.args.only.disks.items c.in-Ok.publisher.maps c.in-Ok.ensures.begun.opened

pub returns-in-Err-clause-builds : goal.returns-in-Err-clause-builds
returns-in-Err-clause-builds g c =
    let history = g.D.Disk.history in
    let faults = g.D.Disk.faults in
    let old = c.args.only.disks.items in
    let new = c.in-Err.refused.disks.items in
    subst (λ (why : BuildStop). BuildsOn (job_view c.args.job.now) c.args.text.items c.args.now (Err why) (only_tells history faults old) (only_tells history faults new))
    (sym c.into.ensures)
    (refused_only history faults (job_view c.args.job.now) c.args.text.items c.args.now c.requires.text c.in-Err.refused.fault old new c.requires.only c.in-Err.ensures.unwritten c.in-Err.ensures.refused)

pub returns-in-Err-clause-only : goal.returns-in-Err-clause-only
returns-in-Err-clause-only g c = zip_one (IsUnwritten g.D.Disk.history g.D.Disk.faults) c.args.only.disks.items c.in-Err.refused.disks.items c.requires.only c.in-Err.ensures.unwritten

pub returns-in-Ok-clause-builds : goal.returns-in-Ok-clause-builds
returns-in-Ok-clause-builds g c =
    over_only g.D.Disk.history g.D.Disk.faults (job_view c.args.job.now) c.args.text.items c.args.now c.requires.text c.renew-built.result
    c.args.only.disks.items c.into_parts-disks.result.0.items c.in-Ok.publisher.maps c.renew-built.new.publisher.maps c.requires.only c.in-Ok.ensures.begun.opened c.into_parts-disks.ensures.disks
    (record {
      built = c.renew-built.ensures.built;
      stopped = c.renew-built.ensures.stop;
      stored = c.renew-built.ensures.stored;
      any_moment = c.renew-built.ensures.any_moment;
      few = c.renew-built.ensures.few;
      early = search rules;
      count = c.renew-built.ensures.count;
      never_falls = c.renew-built.ensures.never_falls;
      cause = c.renew-built.ensures.cause;
    })
