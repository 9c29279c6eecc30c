use Rattle.yp_command.specs.office.Seeing.{seeing}
use Rattle.yp_transfer.specs.inside.walk.Told.{draft_with}
use Rattle.yp_command_maps.specs.Xfr.{wanted}
use Rattle.yp_command_maps.specs.inside.Xfr.{xfr_job_view}
use Rattle.yp_program.specs.Walking.{walk_of}
use Rattle.yp_program.proofs.Walked.{of_walk, of_skew, whole}
use Rattle.yp_program.proofs.walking.walk.Goals as goal

pub returns-clause-does : goal.returns-clause-does
returns-clause-does g c =
    let seen = seeing g.S.Source g.K.Sink g.D.Disk g.C.Clock g.A.Dial g.I.Inbox g.T.Texts in
    let job = xfr_job_view c.args.job.xfr in
    let turns = c.args.job.turns in
    let old = c.args.office.now in
    let new = c.walk_map.new.office in
    let status = c.walk_map.result in
    let does = c.walk_map.ensures.does in
    record {
      does = does;
      of_source = λ catalogue caller events held told happened answers tells.
          of_walk seen job turns status old new events held told happened catalogue caller
          c.delivered_is_of_source.ensures does answers tells;
      skews = λ catalogue caller events held first second told happened answers is.
          of_skew seen job turns status old new events held told happened catalogue caller first second
          c.delivered_skews.ensures does answers is;
      complete = λ events held draft told happened is unopposed inboxes disks writes.
          whole seen job turns status old new events held told happened draft does is unopposed inboxes disks writes;
      complete_of_source = λ catalogue caller events held version told happened answers walkable shown count unopposed
          inboxes disks writes.
          whole seen job turns status old new events held told happened (draft_with version version.rows) does
          (c.delivered_is_whole.ensures catalogue (walk_of caller job (wanted job held) events) version answers walkable
          shown count) unopposed inboxes disks writes;
    }
