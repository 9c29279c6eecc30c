use Rattle.std.proofs.Common.{refl}
use Rattle.yp_board.specs.Catalogues.{name_view}
use Rattle.yp_command.specs.office.Seeing.{seeing}
use Rattle.yp_command_maps.specs.inside.Xfr.{xfr_job_view}
use Rattle.yp_command_maps.proofs.Checking.{one_name}
use Rattle.yp_command_maps.proofs.Transferred.{xfr_does}
use Rattle.yp_command_maps.proofs.xfr.transfer_map.Goals as goal

pub transfer_on-done-requires-clause-only : goal.transfer_on-done-requires-clause-only
transfer_on-done-requires-clause-only g c =
    one_name c.args.office.now.disks.items (name_view c.args.job.store) c.requires.only

pub returns-clause-does : goal.returns-clause-does
returns-clause-does g c =
    let seen = seeing g.S.Source g.K.Sink g.D.Disk g.C.Clock g.A.Dial g.I.Inbox g.T.Texts in
    let job = xfr_job_view c.args.job in
    let old = c.args.office.now in
    let new = record old {
      wire = record old.wire { sink = c.tell_transfer.new.sink };
      disks = c.transfer_on-done.new.disks;
      dial = c.transfer_on-done.new.dial;
    } in
    xfr_does seen job old new c.transfer_on-done.result c.tell_transfer.result (record {
      moves = c.transfer_on-done.ensures.moves;
      few = c.transfer_on-done.ensures.few;
      undialed = c.transfer_on-done.ensures.undialed;
      silent = c.tell_transfer.ensures.silent;
      letters = c.transfer_on-done.ensures.letters;
      ends = c.tell_transfer.ensures.ends;
      write_fault = c.tell_transfer.ensures.write_fault;
      disk = c.tell_transfer.ensures.disk_fault;
      names = c.transfer_on-done.ensures.names;
      stays = refl;
    })
