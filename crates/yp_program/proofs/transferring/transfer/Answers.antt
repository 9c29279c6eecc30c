use Rattle.yp_command.specs.office.Seeing.{seeing}
use Rattle.yp_command_maps.specs.inside.Xfr.{xfr_job_view}
use Rattle.yp_program.proofs.Sourced.{of_run, whole}
use Rattle.yp_program.proofs.transferring.transfer.Goals as goal

pub returns-clause-does : goal.returns-clause-does
returns-clause-does g c =
    let seen = seeing g.S.Source g.K.Sink g.D.Disk g.C.Clock g.A.Dial g.I.Inbox g.T.Texts in
    let job = xfr_job_view c.args.job in
    let old = c.args.office.now in
    let new = c.transfer_map.new.office in
    let status = c.transfer_map.result in
    let does = c.transfer_map.ensures.does in
    record {
      does = does;
      of_source = λ catalogue caller run rest answers came told.
          of_run seen job status old new catalogue run caller rest c.run_is_fetched.ensures
          c.requires.named.0 c.requires.named.1 does answers came told;
      complete = λ held stream version told came fetched unopposed dials disks writes.
          whole seen job status old new held version told unopposed disks
          (λ fault. writes (does.write_fault fault)) dials stream c.wire_is_fetched.ensures c.fetched_is_one.ensures came
          fetched does;
    }
