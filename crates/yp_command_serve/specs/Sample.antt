-- What `sample` tells: the numbers of a map of sample rows, and of what is answered on it.
use Rattle.std.specs.Prelude.{◌≡◌, ℕ, ◌<◌, ◌≤◌, Bool, true, false, List, [], ◌∷◌, ◌++◌, length, count_by}
use Rattle.std.specs.Prelude.{Option, Some, None, codes, decimal, bytes_eq}
use Rattle.std.specs.Io.KnownBytes.{Appends}
use Rattle.yp_io.specs.Streams.{AppendsFront}
use Rattle.yp_messages.specs.Messages.{resp_val}
use Rattle.yp_version.specs.Limits.{rows_max}
use Rattle.yp_version.specs.Rows.{Row}
use Rattle.yp_version.specs.Versions.{MapVersion, body_len}
use Rattle.yp_texts.specs.Samples.{sampled}
use Rattle.yp_client.specs.Asked.{match_call, all_call}
use Rattle.yp_answer.specs.Maps.{Maps}
use Rattle.yp_answer.specs.Results.{value_found}
use Rattle.yp_answer.specs.Reply.{success}
use Rattle.yp_command_serve.specs.Callers.{reply_to}
use Rattle.yp_command_serve.specs.declared.tally.SampleTally.{SampleTally}
use Rattle.yp_command.specs.declared.office.status.Status.{Status}
use Rattle.yp_command.specs.declared.office.status.Status.TheVariants.{Done, WriteFault, NoMemory, Rows}
use Rattle.yp_command.specs.office.Rows.{rows_rule}
use Rattle.yp_command.specs.declared.office.office.Office.{Office}
use Rattle.yp_command.specs.office.Seeing.{Seeing, output, HasCauses}

-- its own name, and the domain and the name of its one map
abbrev pub sample_name : List ℕ
sample_name = codes "sample"

abbrev pub sample_maps : MapVersion → Maps
sample_maps version = record {
  catalogue = record { own = sample_name; maps = (sample_name, sample_name) ∷ [] };
  log = (0, version) ∷ [];
}

-- ---- the calls

-- MATCH for a key of the map, and ALL of the map
abbrev pub sample_match : List ℕ → List ℕ
sample_match key = match_call sample_name sample_name key 0

abbrev pub sample_all : List ℕ
sample_all = all_call sample_name sample_name 0

-- ---- the numbers

-- the reply that has the value
abbrev pub value_reply : List ℕ → List ℕ
value_reply value = success 0 resp_val (value_found (Some value))

abbrev pub is_reply : Option (List ℕ) → List ℕ → Bool
is_reply None expected = false
is_reply (Some bytes) expected = bytes_eq bytes expected

-- MATCH for the key of the row has its value
abbrev pub is_matched : Maps → Row → Bool
is_matched maps row = is_reply (reply_to maps (sample_match row.0)) (value_reply row.1)

abbrev pub reply_len : Option (List ℕ) → ℕ
reply_len None = 0
reply_len (Some bytes) = length bytes

-- the rows of a version, the bytes of its stored body, those of the reply to ALL, and the rows that MATCH has
abbrev pub tally_of : MapVersion → SampleTally
tally_of version = record {
  rows = length version.rows;
  body = body_len version;
  all = reply_len (reply_to (sample_maps version) sample_all);
  matched = count_by (is_matched (sample_maps version)) version.rows;
}

-- the line that tells them
abbrev pub tally_line : SampleTally → List ℕ
tally_line tally =
    codes "rows " ++ decimal tally.rows ++ codes " body " ++ decimal tally.body ++ codes " all " ++ decimal tally.all
    ++ codes " matched " ++ decimal tally.matched ++ codes "\n"

-- the line of so many rows, after a number
abbrev pub sample_line : ℕ → ℕ → List ℕ
sample_line start count = tally_line (tally_of (sampled start count))

-- ---- what is done

-- the first row over the limit of rows
abbrev pub first_over : ℕ
first_over = 262145

-- What is told, for each status. There are too many rows exactly where that is told.
abbrev pub TellsSample : ℕ → ℕ → Status → Option (List ℕ) → Option (List ℕ) → Type 0
TellsSample start count Done before after = (count ≤ rows_max) × Appends before after (sample_line start count)
TellsSample start count WriteFault before after =
    (count ≤ rows_max) × AppendsFront (sample_line start count) before after
TellsSample start count NoMemory before after = (count ≤ rows_max) × (after ≡ before)
TellsSample start count (Rows row rule) before after =
    (rows_max < count) × (row ≡ first_over) × (rule ≡ rows_rule) × (after ≡ before)
TellsSample start count _ before after = ⊥

-- the statuses with which `sample` may end
abbrev pub sample_may_end : Status → Bool
sample_may_end Done = true
sample_may_end WriteFault = true
sample_may_end NoMemory = true
sample_may_end (Rows row rule) = true
sample_may_end _ = false

-- What `sample` does: it tells the numbers of its rows, or that there are too many, and then writes nothing.
pub record SampleDoes {S K D C A I T : Type 0} (seen : Seeing S K D C A I T) (start count : ℕ) (status : Status)
    (old new : Office S K D C A I T) : Type 0 where
  pub tells : TellsSample start count status (output seen old) (output seen new)
  pub many : rows_max < count → (status ≡ Rows first_over rows_rule) × (new ≡ old)
  pub causes : HasCauses seen status old new
  pub stays : new ≡ record old { wire = record old.wire { sink = new.wire.sink } }
