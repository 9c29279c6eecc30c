use Rattle.std.proofs.Common.{◌≡◌, ◌∙◌, sym, Err, rules}
use Rattle.yp_command_maps.specs.inside.Build.{job_view}
use Rattle.yp_command_maps.specs.declared.build.BuildStop.TheVariants.{NoMemory}
use Rattle.yp_command_maps.proofs.Checking.{named_one}
use Rattle.yp_command_maps.proofs.OnDisk.{same_disks, forgone}
use Rattle.yp_command_maps.specs.Disks.{named_tells}
use Rattle.yp_command_maps.proofs.build.build_on.Goals as goal

pub returns-clause-builds : goal.returns-clause-builds
returns-clause-builds g c =
    same_disks g.D.Disk.history g.D.Disk.faults (job_view c.args.job.now) c.args.text.items c.args.now c.build_over-built.result.0 _ _ _ _
    c.in_ok-names.ensures.disks c.put_together.ensures.disks c.build_over-built.ensures.builds

pub put_together-requires-clause-count : goal.put_together-requires-clause-count
put_together-requires-clause-count g c =
    c.build_over-built.ensures.only
    ∙ sym (named_one c.in_ok-names.field-0.names.items c.args.disks.now.items c.in_ok-names.ensures.names c.requires.only)

pub returns-in_err-names-clause-builds : goal.returns-in_err-names-clause-builds
returns-in_err-names-clause-builds g c =
    let left : c.take_apart.new.named ≡ c.args.disks.now = c.in_err-names.ensures.err in
    let ended : c.from_residual-in_err-names.result ≡ Err NoMemory = search rules in
    rw ended (rw left (forgone (job_view c.args.job.now) c.args.text.items c.args.now
    (named_tells g.D.Disk.history g.D.Disk.faults c.args.disks.now.items)))
