use Rattle.std.proofs.Common.{Result, Ok, Err, subst}
use Rattle.std.specs.Prelude.{option_map}
use Rattle.yp_board.specs.Logs.{shown}
use Rattle.yp_publisher.specs.declared.install.Installed.{Installed}
use Rattle.yp_transfer.specs.declared.fault.XfrFault.{XfrFault}
use Rattle.yp_transfer.specs.Fetching.{wanted_of}
use Rattle.yp_command_maps.specs.Disks.{only_tells}
use Rattle.yp_command_maps.specs.inside.Xfr.{xfr_job_view, StoresFetched}
use Rattle.yp_command_maps.specs.declared.walk.walker.Came.{Came}
use Rattle.yp_command_maps.specs.walk.Turns.{WalksTo}
use Rattle.yp_command_maps.specs.walk.Walk.{walk_tells}
use Rattle.yp_command_maps.proofs.walk.Moving.{moved_ok, moved_fault, moved_spent, moved_failed}
use Rattle.yp_command_maps.proofs.walk.walk.store_came.Goals as goal

pub returns-in-Ok-clause-moves : goal.returns-in-Ok-clause-moves
returns-in-Ok-clause-moves g c = λ disks before after one begins walks.
    let job = xfr_job_view c.args.job.now.xfr in
    let turns = c.args.job.now.turns in
    let shows = shown 0 c.args.publisher.board.known in
    let wanted = wanted_of job.store.0 job.store.1 (option_map (λ version. version.order) shows) job.force in
    let old = only_tells g.D.Disk.history g.D.Disk.faults disks in
    let new = only_tells g.D.Disk.history g.D.Disk.faults c.store_fetched-done.result.1.items in
    let stored = c.store_fetched-done.ensures disks one begins in (
      moved_ok job turns (walk_tells before old) (walk_tells after new) shows c.in-Outcome.outcome c.in-Ok.installed
          (subst (λ (it : Came). WalksTo job.host.1 wanted turns it before after) c.in-Outcome.is walks)
          (subst (λ (r : Result Installed XfrFault). StoresFetched job shows c.in-Outcome.outcome r old new)
          c.in-Ok.is stored.0),
      stored.1,
    )

pub returns-in-Err-clause-moves : goal.returns-in-Err-clause-moves
returns-in-Err-clause-moves g c = λ disks before after one begins walks.
    let job = xfr_job_view c.args.job.now.xfr in
    let turns = c.args.job.now.turns in
    let shows = shown 0 c.args.publisher.board.known in
    let wanted = wanted_of job.store.0 job.store.1 (option_map (λ version. version.order) shows) job.force in
    let old = only_tells g.D.Disk.history g.D.Disk.faults disks in
    let new = only_tells g.D.Disk.history g.D.Disk.faults c.store_fetched-done.result.1.items in
    let stored = c.store_fetched-done.ensures disks one begins in (
      moved_fault job turns (walk_tells before old) (walk_tells after new) shows c.in-Outcome.outcome c.in-Err.fault
          (subst (λ (it : Came). WalksTo job.host.1 wanted turns it before after) c.in-Outcome.is walks)
          (subst (λ (r : Result Installed XfrFault). StoresFetched job shows c.in-Outcome.outcome r old new)
          c.in-Err.is stored.0),
      stored.1,
    )

pub returns-in-Spent-clause-moves : goal.returns-in-Spent-clause-moves
returns-in-Spent-clause-moves g c = λ disks before after one begins walks.
    let job = xfr_job_view c.args.job.now.xfr in
    let turns = c.args.job.now.turns in
    let shows = shown 0 c.args.publisher.board.known in
    let wanted = wanted_of job.store.0 job.store.1 (option_map (λ version. version.order) shows) job.force in
    let kept = c.hand_back.ensures job disks one begins in (
      moved_spent job turns (walk_tells before (only_tells g.D.Disk.history g.D.Disk.faults disks))
          (walk_tells after (only_tells g.D.Disk.history g.D.Disk.faults c.hand_back.result.items)) shows
          (subst (λ (it : Came). WalksTo job.host.1 wanted turns it before after) c.in-Spent.is walks) kept.0,
      kept.1,
    )

pub returns-in-Failed-clause-moves : goal.returns-in-Failed-clause-moves
returns-in-Failed-clause-moves g c = λ disks before after one begins walks.
    let job = xfr_job_view c.args.job.now.xfr in
    let turns = c.args.job.now.turns in
    let shows = shown 0 c.args.publisher.board.known in
    let wanted = wanted_of job.store.0 job.store.1 (option_map (λ version. version.order) shows) job.force in
    let kept = c.hand_back-in-Failed.ensures job disks one begins in (
      moved_failed job turns (walk_tells before (only_tells g.D.Disk.history g.D.Disk.faults disks))
          (walk_tells after (only_tells g.D.Disk.history g.D.Disk.faults c.hand_back-in-Failed.result.items)) shows
          (subst (λ (it : Came). WalksTo job.host.1 wanted turns it before after) c.in-Failed.is walks) kept.0,
      kept.1,
    )
