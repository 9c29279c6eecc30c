-- What `once` serves: one map, made of the rows of its words.
use Rattle.std.specs.Prelude.{◌≡◌, ◌⊎◌, ℕ, ◌+◌, Bool, true, false, List, [], ◌∷◌, min, codes}
use Rattle.std.specs.Prelude.{Option, Some, None, IfSome}
use Rattle.std.specs.Option.{option_map}
use Rattle.yp_version.specs.Rows.{Row, listed}
use Rattle.yp_version.specs.Versions.{MapVersion}
use Rattle.yp_version.specs.Drafts.{Draft, with_rows, first_refused, empty_draft}
use Rattle.yp_board.specs.Catalogues.{Name}
use Rattle.yp_board.specs.Views.{Seen}
use Rattle.yp_answer.specs.Maps.{Maps}
use Rattle.yp_answer.specs.session.Wires.{SeesMore}
use Rattle.yp_command.specs.declared.office.status.Status.{Status}
use Rattle.yp_command.specs.declared.office.status.Status.TheVariants.{NoMemory, Rows}
use Rattle.yp_command.specs.office.Rows.{rule_of}
use Rattle.yp_command.specs.declared.office.office.Office.{Office}
use Rattle.yp_command.specs.office.Seeing.{Seeing, input, HasCauses}
use Rattle.yp_command_serve.specs.Served.{ServesInput, Witnessed, IsWatched, serve_may_end, traffic_of, wire, Completes}

-- its own name
abbrev pub once_name : List ℕ
once_name = codes "once"

-- a version of order 1, to which no row was pushed yet
abbrev pub once_draft : Draft
once_draft = empty_draft 1 once_name

-- the version of these rows, of which the first of equal keys stands
abbrev pub once_version : List Row → MapVersion
once_version rows =
    record { order = 1; master = once_name; secure = false; rows = listed (with_rows once_draft rows).rows }

-- the one map with this version
abbrev pub once_maps : Name → List Row → Maps
once_maps store rows = record {
  catalogue = record { own = once_name; maps = store ∷ [] };
  log = (0, once_version rows) ∷ [];
}

-- the board that shows it, before the first call
abbrev pub once_board : Name → List Row → Seen
once_board store rows =
    record { catalogue = (once_maps store rows).catalogue; known = (once_maps store rows).log; asked = 0 }

-- the number of the word of a row, counted from 0 at `once`, up to the last of 32 bits
abbrev pub word_of : ℕ → ℕ
word_of row = min (row + 2) 4294967295

-- the first row past a limit, by the number of its word and the rule
abbrev pub rows_fault : List Row → Option (ℕ × ℕ)
rows_fault rows = option_map (λ refused. (word_of refused.0, rule_of refused.1)) (first_refused once_draft rows)

-- the statuses with which `once` may end
abbrev pub once_may_end : Status → Bool
once_may_end (Rows row rule) = true
once_may_end status = serve_may_end status

-- What `once` does: it answers the calls of its input on one map of these rows. The first row past a limit is told, and
-- then nothing is read or written. Where nothing fails its status is that of the one cut of the input. What a witness
-- has seen grows by the wires behind the records that were answered.
pub record OnceDoes {S K D C A I T : Type 0} (seen : Seeing S K D C A I T) (store : Name) (rows : List Row)
    (status : Status) (old new : Witnessed (Office S K D C A I T)) : Type 0 where
  pub serves : rows_fault rows ≡ None
      → IfSome (input seen old.reached) (λ stream. ServesInput (once_maps store rows) status stream
      (traffic_of seen old.reached new.reached))
  pub watched : SeesMore old.wires new.wires
      (IsWatched (once_board store rows) status (wire seen old.reached) (wire seen new.reached))
  pub refused : (row rule : ℕ) → rows_fault rows ≡ Some (row, rule)
      → ((status ≡ Rows row rule) ⊎ (status ≡ NoMemory)) × (new.reached ≡ old.reached)
  pub complete : rows_fault rows ≡ None → Completes seen status old.reached new.reached
  pub causes : HasCauses seen status old.reached new.reached
  pub stays : new.reached ≡ record old.reached { wire = new.reached.wire }
