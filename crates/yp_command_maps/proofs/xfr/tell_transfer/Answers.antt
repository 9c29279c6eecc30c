use Rattle.std.proofs.Common.{None, Ok, Err, ◌∙◌}
use Rattle.yp_board.specs.Catalogues.{name_view}
use Rattle.yp_command_maps.proofs.Transferred.{stopped_no_write, end_disk}
use Rattle.yp_command_maps.proofs.xfr.tell_transfer.Goals as goal

pub returns-in-Err-clause-write_fault : goal.returns-in-Err-clause-write_fault
returns-in-Err-clause-write_fault g c = λ e.
    absurd (stopped_no_write (name_view c.args.store) c.in-Err.stop c.status_stopped.result None None
    (c.status_stopped.ensures.ends None) e)

pub returns-in-Err-clause-disk_fault : goal.returns-in-Err-clause-disk_fault
returns-in-Err-clause-disk_fault g c = λ map e.
    c.in-Err.is ∙ end_disk (name_view c.args.store) (Err c.in-Err.stop) c.status_stopped.result None None map
    (c.status_stopped.ensures.ends None) e

pub returns-in-Ok-clause-disk_fault : goal.returns-in-Ok-clause-disk_fault
returns-in-Ok-clause-disk_fault g c = λ map e.
    c.in-Ok.is ∙ end_disk (name_view c.args.store) (Ok c.in-Ok.installed) c.tell_stored.result _ _ map c.tell_stored.ensures.tells e
