-- What a call of a port mapper did, by how its turns ended and what was told.
use Rattle.std.proofs.Common.{◌≡◌, ℕ, Ok, Err, None, refl, inl}
use Rattle.yp_io.specs.Counts.{HasRisen}
use Rattle.yp_io.specs.declared.stream.Failed.{Failed}
use Rattle.yp_rpc.specs.declared.turns.Ended.{Ended}
use Rattle.yp_rpc.specs.Turns.{turn_state, TakesTurns, InboxTells, inbox_tells}
use Rattle.yp_command.specs.declared.office.status.Status.{Status}
use Rattle.yp_command.specs.declared.office.status.Status.TheVariants.{WriteFault, InboxFault}
use Rattle.yp_command.specs.declared.office.office.Office.{Office}
use Rattle.yp_command.specs.office.Seeing.{Seeing}
use Rattle.yp_command_mail.specs.declared.mapper.Asking.{Asking}
use Rattle.yp_command_mail.specs.Telling.{TellsText, HasInboxCauses, box}
use Rattle.yp_command_mail.specs.Mapper.{asking_ways, answer_text, answer_status, MapperDoes}
use Rattle.yp_command_mail.proofs.Told.{told_whole}
use Rattle.yp_command_mail.proofs.Answered.{first_counts}

module _ {S K D C A I T : Type 0} (seen : Seeing S K D C A I T) (turns : ℕ) (old : Office S K D C A I T) where
  -- the office behind turns, and behind a text
  abbrev pub turned : I → Office S K D C A I T
  turned inbox = record old { inbox = inbox }

  abbrev pub told : I → K → Office S K D C A I T
  told inbox sink = record old { wire = record old.wire { sink = sink }; inbox = inbox }

  -- what the inbox tells then
  abbrev pub told_box : I → InboxTells
  told_box inbox = inbox_tells seen.inbox.past seen.inbox.turns seen.inbox.quiets inbox

  -- the count of the sink's or the inbox's faults rose
  abbrev pub SinkFails : K → Type 0
  SinkFails sink = HasRisen (seen.sink.faults old.wire.sink) (seen.sink.faults sink)

  abbrev pub BoxFails : I → Type 0
  BoxFails inbox = HasRisen (seen.inbox.faults old.inbox) (seen.inbox.faults inbox)

  failed : (inbox : I) → BoxFails inbox → HasInboxCauses seen InboxFault old (turned inbox)
  failed inbox fails = record { write_fault = λ e. absurd cc; inbox_fault = λ e. fails }

  -- ---- the commands

  pub mapper_failed : (first last : Asking) (inbox : I) (why : Failed) → first.answer ≡ None
      → TakesTurns asking_ways turns (Err why) (turn_state first (box seen old)) (turn_state last (told_box inbox)) → BoxFails inbox
      → MapperDoes seen turns first InboxFault old (turned inbox)
  mapper_failed first last inbox why none takes fails = record {
    asks = inl (record {
      end = Err why;
      last = last;
      takes = takes;
      tells = (refl, refl);
      answered = first_counts turns takes.events (Err why) first last takes.runs none;
      complete = λ sound whole. absurd (sound fails);
    });
    causes = failed inbox fails;
    stays = refl;
  }

  pub mapper_told : (first last : Asking) (inbox : I) (sink : K) (status : Status) (end : Ended)
      → first.answer ≡ None
      → TakesTurns asking_ways turns (Ok end) (turn_state first (box seen old)) (turn_state last (told_box inbox))
      → TellsText (answer_text first.call last.answer) (answer_status turns last.answer) status (seen.sink.output old.wire.sink)
      (seen.sink.output sink)
      → (status ≡ WriteFault → SinkFails sink) → (status ≡ InboxFault → ⊥)
      → MapperDoes seen turns first status old (told inbox sink)
  mapper_told first last inbox sink status end none takes tells cause heard = record {
    asks = inl (record {
      end = Ok end;
      last = last;
      takes = takes;
      tells = tells;
      answered = first_counts turns takes.events (Ok end) first last takes.runs none;
      complete = λ sound whole.
          told_whole (answer_text first.call last.answer) (answer_status turns last.answer) status
          (seen.sink.output old.wire.sink) (seen.sink.output sink) tells (λ e. whole (cause e));
    });
    causes = record { write_fault = cause; inbox_fault = λ e. absurd (heard e) };
    stays = refl;
  }
