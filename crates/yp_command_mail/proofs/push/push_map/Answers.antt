use Rattle.std.proofs.Common.{◌≡◌, rules, refl, subst, Option, Some, Ok}
use Rattle.yp_command.specs.office.Seeing.{Seeing, seeing}
use Rattle.yp_command_mail.specs.Finding.{judged}
use Rattle.yp_command_mail.specs.inside.Push.{job_view, PlansFrom}
use Rattle.yp_command_mail.specs.declared.push.PushPlan.{PushPlan}
use Rattle.yp_command_mail.proofs.Pushed.{push_does, planned, unplanned}
use Rattle.yp_command_mail.proofs.push.push_map.Goals as goal

pub returns-in-Ok-Some-clause-does : goal.returns-in-Ok-Some-clause-does
returns-in-Ok-Some-clause-does g c =
    let seen : Seeing g.row.S.Denot g.row.K.Denot g.row.D.Denot g.row.C.Denot g.row.A.Denot g.row.I.Denot g.row.T.Denot = seeing g.S.Source g.K.Sink g.D.Disk g.C.Clock g.A.Dial g.I.Inbox g.T.Texts in
    let made = c.in-Ok-Some.ensures.readies in
    let job = job_view c.args.job in
    let old = c.args.office in
    let new = c.push_plan.result.1 in
    let mid = record old { disks = c.ready.new.disks; clock = c.ready.new.clock } in
    let disks : new.disks ≡ c.ready.new.disks = search rules in
    let clock : new.clock ≡ c.ready.new.clock = search rules in
    let some : c.in-Ok-Some.field-0 ≡ Some c.in-Ok-Some.plan = search rules in
    let plans = subst (λ (o : Option PushPlan). PlansFrom job made.now (judged made.loaded.file made.loaded.servers) (Ok o)) some made.plans in
    push_does seen job made.now c.push_plan.result.0 old new made.loaded (rw disks made.loads) made.is_now
    (planned seen job made.now old new (judged made.loaded.file made.loaded.servers) c.in-Ok-Some.plan c.push_plan.result.0 mid refl plans c.push_plan.ensures.sent)
    c.push_plan.ensures.write_fault c.push_plan.ensures.inbox_fault (rw clock c.in-Ok-Some.ensures.told) (search rules)

pub returns-in-Err-clause-does : goal.returns-in-Err-clause-does
returns-in-Err-clause-does g c =
    let seen : Seeing g.row.S.Denot g.row.K.Denot g.row.D.Denot g.row.C.Denot g.row.A.Denot g.row.I.Denot g.row.T.Denot = seeing g.S.Source g.K.Sink g.D.Disk g.C.Clock g.A.Dial g.I.Inbox g.T.Texts in
    let made = c.in-Err.ensures.readies in
    let job = job_view c.args.job in
    let old = c.args.office in
    let new = record old { disks = c.ready.new.disks; clock = c.ready.new.clock } in
    push_does seen job made.now c.in-Err.status old new made.loaded made.loads made.is_now
    (unplanned seen job made.now old new (judged made.loaded.file made.loaded.servers) c.in-Err.status made.plans (record { sink = refl; dial = refl; inbox = refl }))
    (search rules) (search rules) c.in-Err.ensures.told refl
