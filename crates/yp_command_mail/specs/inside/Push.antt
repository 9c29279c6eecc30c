-- The parts of `push`: its plan, what is readied, and what is sent in turn.
use Rattle.std.specs.Prelude.{◌≡◌, ◌⊎◌, ℕ, ◌+◌, ◌<◌, ◌≤◌, false, List, [], length, map, Option, Some, None}
use Rattle.std.specs.Prelude.{Result, Ok, Err, IfSome, ⊤}
use Rattle.yp_io.specs.declared.disk.Disk as disk
use Rattle.yp_board.specs.Catalogues.{name_view}
use Rattle.yp_push.specs.Ledgers.{slaves_max}
use Rattle.yp_push.specs.inside.turns.Kept.{slave_view, request_view, IsWithin}
use Rattle.yp_push.specs.turns.Pushers.{Pushing}
use Rattle.yp_command.specs.Words.{host_view}
use Rattle.yp_command.specs.declared.command.PushJob.{PushJob}
use Rattle.yp_command.specs.declared.office.disks.NamedDisk.{NamedDisk}
use Rattle.yp_command.specs.declared.office.office.Office.{Office}
use Rattle.yp_command.specs.declared.office.status.Status.{Status}
use Rattle.yp_command.specs.declared.office.status.Status.TheVariants.{NoMemory, Rows}
use Rattle.yp_command.specs.office.Rows.{rows_rule}
use Rattle.yp_command.specs.office.Seeing.{Seeing}
use Rattle.yp_command_mail.specs.declared.finding.Found.{Found}
use Rattle.yp_command_mail.specs.declared.finding.LoadedFiles.{LoadedFiles}
use Rattle.yp_command_mail.specs.declared.finding.PushStop.{PushStop}
use Rattle.yp_command_mail.specs.declared.push.PushPlan.{PushPlan}
use Rattle.yp_command_mail.specs.Finding.{LoadsMaps, StopsPush, judged}
use Rattle.yp_command_mail.specs.Telling.{mail_seen}
use Rattle.yp_command_mail.specs.Push.{Job, job_of, slaves_in, request_of, ledger_of, outcome_of, TakesPushTurns}
use Rattle.yp_command_mail.specs.Push.{dial_seen}

-- ---- what is to be pushed

abbrev pub job_view : PushJob → Job
job_view job =
    job_of job.name.items job.port job.window job.turns (name_view job.store) (map host_view job.hosts.items)

-- a plan, over a dial
abbrev pub begun_by : {A : Type 0} → PushPlan → A → Pushing A
begun_by plan dial = record {
  dial = dial;
  ledger = plan.push;
  slaves = map slave_view plan.slaves.items;
  request = request_view plan.request;
  starved = false;
}

-- ---- how it is planned

-- a plan to push what was found
pub record IsPlan (job : Job) (now : ℕ) (found : Found) (plan : PushPlan) : Type 0 where
  pub slaves : map slave_view plan.slaves.items ≡ slaves_in job found
  pub ledger : plan.push ≡ ledger_of job now (length plan.slaves.items)
  pub request : request_view plan.request ≡ request_of job found
  pub some_ : 0 < length plan.slaves.items
  pub few : length plan.slaves.items ≤ slaves_max

-- a plan with which a push can start
pub record CanStart (plan : PushPlan) : Type 0 where
  pub counted : plan.push.slaves ≡ length plan.slaves.items
  pub few : length plan.slaves.items ≤ slaves_max
  pub within : IsWithin (request_view plan.request)

-- There is a plan, unless there is no slave, or there are too many.
abbrev pub Plans : Job → ℕ → Found → Result (Option PushPlan) Status → Type 0
Plans job now found (Ok None) = slaves_in job found ≡ []
Plans job now found (Ok (Some plan)) = IsPlan job now found plan
Plans job now found (Err (Rows row rule)) =
    (row ≡ slaves_max + 1) × (rule ≡ rows_rule) × (slaves_max < length (slaves_in job found))
Plans job now found (Err NoMemory) = ⊤
Plans job now found (Err _) = ⊥

-- The push is planned from what was found; or the status says why nothing is pushed, or that memory ran out.
abbrev pub PlansFrom : Job → ℕ → Result Found PushStop → Result (Option PushPlan) Status → Type 0
PlansFrom job now (Ok found) result = Plans job now found result
PlansFrom job now (Err stop) (Ok plan) = ⊥
PlansFrom job now (Err stop) (Err status) = StopsPush job.store stop status ⊎ (status ≡ NoMemory)

-- Both files were loaded, and the moment was read.
pub record Readies {D : Type 0} (seen : disk.Ghosts D) (told : Option ℕ) (job : Job)
    (result : Result (Option PushPlan) Status) (old new : List (NamedDisk D)) : Type 0 where
  pub loaded : LoadedFiles
  pub loads : LoadsMaps seen.history seen.faults job.store loaded old new
  pub now : ℕ
  pub is_now : IfSome told (λ moment. now ≡ moment)
  pub plans : PlansFrom job now (judged loaded.file loaded.servers) result

-- ---- the command

-- what is planned was pushed, or memory ran out before that
abbrev pub IsSentBy : {S K D C A I T : Type 0} → Seeing S K D C A I T → ℕ → PushPlan → Status
    → (old new : Office S K D C A I T) → Type 0
IsSentBy seen turns plan status old new =
    TakesPushTurns (dial_seen seen) turns (begun_by plan old.dial) (outcome_of status new.dial) (mail_seen seen old)
    (mail_seen seen new)
    ⊎ ((status ≡ NoMemory) × (new ≡ old))
