use Rattle.std.proofs.Common.{ℕ, Option, Ok, Err, sym, subst}
use Rattle.yp_board.specs.Catalogues.{Catalogue}
use Rattle.yp_board.specs.Logs.{shown}
use Rattle.yp_publisher.specs.inside.Begins.{BeginsLevel}
use Rattle.yp_rpc.specs.inside.Turns.{box_by}
use Rattle.yp_transfer.specs.Fetching.{wanted_of}
use Rattle.yp_command_maps.specs.Disks.{only_tells}
use Rattle.yp_command_maps.specs.inside.Xfr.{xfr_job_view}
use Rattle.yp_command_maps.specs.declared.walk.walk.WalkStop.{WalkStop}
use Rattle.yp_command_maps.specs.walk.Turns.{WalksTo}
use Rattle.yp_command_maps.specs.walk.Walk.{walk_tells}
use Rattle.yp_command_maps.specs.inside.walk.Walk.{Moved}
use Rattle.yp_command_maps.proofs.walk.Moving.{moved_unbegun}
use Rattle.yp_command_maps.proofs.walk.walk.walk_over.Goals as goal

pub returns-in-Ok-walk_inbox-clause-moves : goal.returns-in-Ok-walk_inbox-clause-moves
returns-in-Ok-walk_inbox-clause-moves g c =
    let job = xfr_job_view c.args.job.now.xfr in
    let before = box_by g.I.Inbox c.args.inbox.now in
    let after = box_by g.I.Inbox c.walk_inbox.new.inbox in
    (c.store_came.ensures.moves c.args.only.disks.items before after c.requires.only
    (subst (λ (served : Catalogue). BeginsLevel g.D.Disk.history g.D.Disk.faults served c.args.only.disks.items
    c.in-Ok.publisher) c.requires.catalogue c.in-Ok.ensures.begun)
    (subst (λ (o : Option ℕ). WalksTo job.host.1 (wanted_of job.store.0 job.store.1 o job.force)
    c.args.job.now.turns c.in-Ok-walk_inbox.came before after) c.shown_order-shown.ensures
    c.in-Ok-walk_inbox.ensures.walks)).0

pub returns-in-Ok-walk_inbox-clause-only : goal.returns-in-Ok-walk_inbox-clause-only
returns-in-Ok-walk_inbox-clause-only g c =
    let job = xfr_job_view c.args.job.now.xfr in
    let before = box_by g.I.Inbox c.args.inbox.now in
    let after = box_by g.I.Inbox c.walk_inbox.new.inbox in
    (c.store_came.ensures.moves c.args.only.disks.items before after c.requires.only
    (subst (λ (served : Catalogue). BeginsLevel g.D.Disk.history g.D.Disk.faults served c.args.only.disks.items
    c.in-Ok.publisher) c.requires.catalogue c.in-Ok.ensures.begun)
    (subst (λ (o : Option ℕ). WalksTo job.host.1 (wanted_of job.store.0 job.store.1 o job.force)
    c.args.job.now.turns c.in-Ok-walk_inbox.came before after) c.shown_order-shown.ensures
    c.in-Ok-walk_inbox.ensures.walks)).1

pub returns-in-Err-walk_inbox-clause-moves : goal.returns-in-Err-walk_inbox-clause-moves
returns-in-Err-walk_inbox-clause-moves g c =
    let job = xfr_job_view c.args.job.now.xfr in
    let turns = c.args.job.now.turns in
    let old = walk_tells (box_by g.I.Inbox c.args.inbox.now)
    (only_tells g.D.Disk.history g.D.Disk.faults c.args.only.disks.items) in
    let new = walk_tells (box_by g.I.Inbox c.walk_inbox.new.inbox)
    (only_tells g.D.Disk.history g.D.Disk.faults c.hand_back.result.items) in
    let kept = c.hand_back.ensures job c.args.only.disks.items c.requires.only
    (subst (λ (served : Catalogue). BeginsLevel g.D.Disk.history g.D.Disk.faults served c.args.only.disks.items
    c.in-Ok.publisher) c.requires.catalogue c.in-Ok.ensures.begun) in
    subst (λ (why : WalkStop). Moved job turns (Err why) old new) (sym c.into.ensures)
    (moved_unbegun job turns old new (shown 0 c.in-Ok.publisher.board.known) kept.0)

pub returns-in-Err-walk_inbox-clause-only : goal.returns-in-Err-walk_inbox-clause-only
returns-in-Err-walk_inbox-clause-only g c =
    (c.hand_back.ensures (xfr_job_view c.args.job.now.xfr) c.args.only.disks.items c.requires.only
    (subst (λ (served : Catalogue). BeginsLevel g.D.Disk.history g.D.Disk.faults served c.args.only.disks.items
    c.in-Ok.publisher) c.requires.catalogue c.in-Ok.ensures.begun)).1
