use Rattle.std.proofs.Common.{refl}
use Rattle.yp_command.specs.office.Seeing.{seeing}
use Rattle.yp_command_maps.specs.inside.Xfr.{xfr_job_view}
use Rattle.yp_command_maps.proofs.walk.Telling.{walk_does}
use Rattle.yp_command_maps.proofs.walk.walk.walk_map.Goals as goal

pub returns-clause-does : goal.returns-clause-does
returns-clause-does g c =
    let seen = seeing g.S.Source g.K.Sink g.D.Disk g.C.Clock g.A.Dial g.I.Inbox g.T.Texts in
    let job = xfr_job_view c.args.job.xfr in
    let old = c.args.office.now in
    let new = record old {
      wire = record old.wire { sink = c.tell_walk.new.sink };
      disks = c.walk_on-done.new.disks;
      inbox = c.walk_on-done.new.inbox;
    } in
    walk_does seen job c.args.job.turns old new c.walk_on-done.result c.tell_walk.result (record {
      moved = c.walk_on-done.ensures.moves;
      unmailed = c.walk_on-done.ensures.unmailed;
      silent = c.tell_walk.ensures.silent;
      ends = c.tell_walk.ensures.ends;
      write_fault = c.tell_walk.ensures.write_fault;
      disk = c.tell_walk.ensures.disk_fault;
      inbox = c.tell_walk.ensures.inbox_fault;
      failed = c.walk_on-done.ensures.failed;
      names = c.walk_on-done.ensures.names;
      stays = refl;
    })
