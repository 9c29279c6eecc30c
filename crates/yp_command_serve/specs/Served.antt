-- What a session does with an input that is told, where the maps stay the same.
use Rattle.std.specs.Prelude.{◌≡◌, ◌⊎◌, ℕ, ◌-◌, ◌<◌, ◌≤◌, Bool, true, false, List, [], ◌∷◌, ◌++◌, length, take, min}
use Rattle.std.specs.Prelude.{flat_map, Option, Some, None}
use Rattle.std.specs.Io.KnownBytes.{Keeps, Appends}
use Rattle.yp_io.specs.Counts.{last_count, next_count}
use Rattle.yp_rpc.specs.Records.{Fragments, Cut, IsTorn, IsUnfinished, IsTooLong, IsLong}
use Rattle.yp_messages.specs.declared.transfer.XfrStat.TheVariants.{Rsrc}
use Rattle.yp_board.specs.Views.{Seen}
use Rattle.yp_answer.specs.Maps.{Maps}
use Rattle.yp_answer.specs.Served.{AreServed, maps_on}
use Rattle.yp_answer.specs.Numbers.{record_max}
use Rattle.yp_answer.specs.declared.session.session.End.{End}
use Rattle.yp_answer.specs.declared.session.session.End.TheVariants as ends
use Rattle.yp_answer.specs.declared.session.session.TheConstants.{CALLS_MAX}
use Rattle.yp_answer.specs.session.Progress.{Progress, begun}
use Rattle.yp_answer.specs.session.Wires.{Wire, wire_of}
use Rattle.yp_answer.specs.session.Hosts.{Conduct, conduct_of}
use Rattle.yp_answer.specs.session.Runs.{Runs, sent_reply}
use Rattle.yp_answer.specs.session.Runs.{dialogue_at}
use Rattle.yp_command.specs.Words.{nobody}
use Rattle.yp_command_serve.specs.Callers.{reply_to}
use Rattle.yp_command.specs.declared.office.status.Status.{Status}
use Rattle.yp_command.specs.declared.office.status.Status.TheVariants.{Done, ReadFault, WriteFault, Torn, TooLong}
use Rattle.yp_command.specs.declared.office.status.Status.TheVariants.{NoMemory, Enough, Rows}
use Rattle.yp_command.specs.declared.office.office.Office.{Office}
use Rattle.yp_command.specs.office.Seeing.{Seeing, input, output, ReadFails, WriteFails}

-- the status of a session that ended so
abbrev pub status_of : End → Status
status_of ends.Clean = Done
status_of (ends.Torn at) = Torn at
status_of (ends.TooLong at) = TooLong at
status_of ends.ReadFault = ReadFault
status_of ends.WriteFault = WriteFault
status_of ends.Enough = Enough

-- the statuses with which the calls of a wire may come to their end
abbrev pub serve_may_end : Status → Bool
serve_may_end Done = true
serve_may_end ReadFault = true
serve_may_end WriteFault = true
serve_may_end (Torn at) = true
serve_may_end (TooLong at) = true
serve_may_end NoMemory = true
serve_may_end Enough = true
serve_may_end _ = false

-- what is sent for a record from nobody
abbrev pub answer_to : Maps → List ℕ → List ℕ
answer_to maps message = sent_reply (reply_to maps message)

-- what is sent for records, in their order
abbrev pub answers : Maps → List (List ℕ) → List ℕ
answers maps messages = flat_map (answer_to maps) messages

-- the stream begins with one spelling of each of these records, and the rest is behind them
abbrev pub BeginsWithRecords : List ℕ → List (List ℕ) → List ℕ → Type 0
BeginsWithRecords stream [] rest = stream ≡ rest
BeginsWithRecords stream (message ∷ messages) rest =
    (bytes more : List ℕ) × Fragments record_max message bytes × (stream ≡ bytes ++ more)
    × BeginsWithRecords more messages rest

-- the place of the rest in the stream
abbrev pub rest_place : List ℕ → List ℕ → ℕ
rest_place stream rest = min (length stream - length rest) last_count

-- what of the outside a session may change: what is left of the input, and what the output took before and after
pub record Traffic : Type 0 where
  pub left : Option (List ℕ)
  pub before : Option (List ℕ)
  pub after : Option (List ℕ)

-- the output took these bytes
abbrev pub OutputTakes : Traffic → List ℕ → Type 0
OutputTakes traffic bytes = Appends traffic.before traffic.after bytes

-- the records of a stream were answered up to its rest; the stream fixes both
pub record AnswersUpTo (maps : Maps) (stream rest : List ℕ) (traffic : Traffic) : Type 0 where
  pub messages : List (List ℕ)
  pub cut : Cut record_max stream messages rest
  pub few : length messages < CALLS_MAX
  pub answered : OutputTakes traffic (answers maps messages)

-- Records at the front of a stream were read whole, and less than a record more; the rest is left. The stream and what
-- is left of it fix the records.
pub record AnswersSome (stream : List ℕ) (traffic : Traffic) (P : List (List ℕ) → Type 0) : Type 0 where
  pub messages : List (List ℕ)
  pub part : List ℕ
  pub rest : List ℕ
  pub begins : BeginsWithRecords stream messages (part ++ rest)
  pub begun : IsUnfinished record_max part
  pub left_is : traffic.left ≡ Some rest
  pub done : P messages

-- all replies before the last one went out, and a front of that
pub record AnswersInPart (maps : Maps) (messages : List (List ℕ)) (traffic : Traffic) : Type 0 where
  pub before : List (List ℕ)
  pub last : List ℕ
  pub count : ℕ
  pub all : messages ≡ before ++ last ∷ []
  pub answered : OutputTakes traffic (answers maps before ++ take count (answer_to maps last))

-- What is done with an input, for each status, and what is left of it. All records before the rest are answered.
abbrev pub ServesInput : Maps → Status → List ℕ → Traffic → Type 0
ServesInput maps Done stream traffic = AnswersUpTo maps stream [] traffic × (traffic.left ≡ Some [])
ServesInput maps (Torn at) stream traffic =
    (rest : List ℕ) × AnswersUpTo maps stream rest traffic × IsTorn record_max rest
    × (at ≡ rest_place stream rest) × (traffic.left ≡ Some [])
ServesInput maps (TooLong at) stream traffic =
    (front more : List ℕ) × AnswersUpTo maps stream (front ++ more) traffic × IsTooLong record_max front
    × (at ≡ rest_place stream (front ++ more)) × (traffic.left ≡ Some more)
ServesInput maps ReadFault stream traffic =
    AnswersSome stream traffic (λ messages. OutputTakes traffic (answers maps messages))
ServesInput maps WriteFault stream traffic =
    AnswersSome stream traffic (λ messages. AnswersInPart maps messages traffic)
ServesInput maps Enough stream traffic =
    AnswersSome stream traffic (λ messages. (length messages ≡ CALLS_MAX) × OutputTakes traffic (answers maps messages))
ServesInput maps NoMemory stream traffic = (traffic.left ≡ Some stream) × Keeps traffic.before traffic.after
ServesInput maps _ stream traffic = ⊥

-- The status of a stream that is cut into these records and this rest, where nothing fails.
abbrev pub IsStatusOf : List ℕ → List (List ℕ) → List ℕ → Status → Type 0
IsStatusOf stream messages rest Done = (length messages < CALLS_MAX) × (rest ≡ [])
IsStatusOf stream messages rest (Torn at) =
    (length messages < CALLS_MAX) × IsTorn record_max rest × (at ≡ rest_place stream rest)
IsStatusOf stream messages rest (TooLong at) =
    (length messages < CALLS_MAX) × IsLong record_max rest × (at ≡ rest_place stream rest)
IsStatusOf stream messages rest Enough = CALLS_MAX ≤ length messages
IsStatusOf stream messages rest _ = ⊥

-- ---- what a witness sees

-- what is reached, an office or all of the outside, and the wires that a witness of it has seen, each behind a record
-- that was answered
pub record Witnessed (P : Type 0) : Type 0 where
  pub reached : P
  pub wires : List Wire

abbrev pub witnessed : {P : Type 0} → P → List Wire → Witnessed P
witnessed reached wires = record { reached = reached; wires = wires }

-- a board whose maps are never made or fetched, and how many transfers it counted
pub record Fixed : Type 0 where
  pub board : Seen
  pub transfers : ℕ

abbrev pub fixed : Seen → Fixed
fixed board = record { board = board; transfers = 0 }

-- what it does: a read step counts, a transfer would be counted alone, and nothing is told of texts or of a clock
abbrev pub fixed_conduct : Conduct Fixed
fixed_conduct =
    conduct_of (λ host. host.board) (λ host. record { text = λ file. None; moment = None })
    (λ host. record { files = 0; transfers = host.transfers })
    (λ old new. new ≡ record old { board = record old.board { asked = next_count old.board.asked } })
    (λ job stat old new. (stat ≡ Rsrc) × (new ≡ old))
    (λ taken peer old new. new ≡ record old { transfers = next_count old.transfers })

-- The records of a wire were answered in turn on this board, by one session to this status, and behind each that was
-- answered, its reply flushed, the wire was one of these. The catalogue and all versions are within their limits. At
-- the end the board is the same, but for how often it was asked.
pub record RecordsAreAnswered (board : Seen) (status : Status) (old new : Wire) (wires : List Wire) : Type 0 where
  pub end : End
  pub told : status ≡ status_of end
  pub finish : Fixed
  pub progress : Progress
  pub runs : Runs fixed_conduct nobody CALLS_MAX end
      (dialogue_at (fixed board) old begun) (dialogue_at finish new progress) wires
  pub served : AreServed (maps_on board.catalogue finish.board.known)

-- What is seen of a wire, for each status: nothing, where nothing of it was read, and else it behind each record that
-- was answered.
abbrev pub IsWatched : Seen → Status → Wire → Wire → List Wire → Type 0
IsWatched board NoMemory old new wires = (new ≡ old) × (wires ≡ [])
IsWatched board (Rows row rule) old new wires = (new ≡ old) × (wires ≡ [])
IsWatched board status old new wires = RecordsAreAnswered board status old new wires

-- ---- in an office

-- what the wire of an office tells
abbrev pub wire : {S K D C A I T : Type 0} → Seeing S K D C A I T → Office S K D C A I T → Wire
wire seen office = wire_of seen.source seen.sink office.wire

-- what a session changed of an office
abbrev pub traffic_of : {S K D C A I T : Type 0} → Seeing S K D C A I T → (old new : Office S K D C A I T) → Traffic
traffic_of seen old new = record { left = input seen new; before = output seen old; after = output seen new }

-- Where the input is told, and neither the input nor the output fails, the status follows from the one way to cut the
-- input into records, unless memory runs out.
abbrev pub Completes : {S K D C A I T : Type 0} → Seeing S K D C A I T → Status → (old new : Office S K D C A I T)
    → Type 0
Completes seen status old new =
    (stream : List ℕ) (messages : List (List ℕ)) (rest : List ℕ) → input seen old ≡ Some stream
    → Cut record_max stream messages rest → ¬ ReadFails seen old new → ¬ WriteFails seen old new
    → IsStatusOf stream messages rest status ⊎ (status ≡ NoMemory)
