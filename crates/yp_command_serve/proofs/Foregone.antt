-- What `once` leaves where it serves nothing: its rows were refused, or memory ran out.
use Rattle.std.proofs.Common.{◌≡◌, ◌⊎◌, ℕ, List, [], Option, Some, None, refl, inl, inr, sym, ap, ◌∙◌}
use Rattle.std.specs.Prelude.{IfSome}
use Rattle.std.specs.Io.KnownBytes.{Keeps}
use Rattle.std.proofs.lemmas.List.{append-nil}
use Rattle.yp_version.specs.Rows.{Row}
use Rattle.yp_board.specs.Catalogues.{Name}
use Rattle.yp_answer.specs.session.Wires.{Wire, SeesMore}
use Rattle.yp_command.specs.declared.office.office.Office.{Office}
use Rattle.yp_command.specs.declared.office.status.Status.{Status}
use Rattle.yp_command.specs.declared.office.status.Status.TheVariants.{ReadFault, WriteFault, DiskFault, NoMemory, Rows}
use Rattle.yp_command.specs.office.Seeing.{Seeing, input, HasCauses}
use Rattle.yp_command_serve.specs.Served.{ServesInput, witnessed, IsWatched, traffic_of, wire}
use Rattle.yp_command_serve.specs.Once.{once_maps, once_board, rows_fault, OnceDoes}
use Rattle.yp_command_serve.specs.inside.Once.{IsRows}

-- all that is told stays told
pub keeps : (told : Option (List ℕ)) → Keeps told told
keeps None = tt
keeps (Some bytes) = refl

rows_same : (row rule row' rule' : ℕ) → ◌≡◌ {A = Option (ℕ × ℕ)} (Some (row, rule)) (Some (row', rule')) → Rows row rule ≡ Rows row' rule'
rows_same row rule row' rule' e =
    let same : ◌≡◌ {A = ℕ × ℕ} (row, rule) (row', rule') = cc in
    ap (λ (fault : ℕ × ℕ). Rows fault.0 fault.1) same

module _ {S K D C A I T : Type 0} (seen : Seeing S K D C A I T) (store : Name) (rows : List Row) (office : Office S K D C A I T) (seen_before : List Wire) where
  no_stream : (told : Option (List ℕ)) → input seen office ≡ told → IfSome told (λ stream. ServesInput (once_maps store rows) NoMemory stream (traffic_of seen office office))
  no_stream None e = tt
  no_stream (Some stream) e = (e, keeps _)

  causes : (status : Status) → (status ≡ NoMemory) ⊎ ((row : ℕ) × (rule : ℕ) × (status ≡ Rows row rule)) → HasCauses seen status office office
  causes status (inl e) = record { read_fault = λ f. absurd (let no : NoMemory ≡ ReadFault = cc in cc); write_fault = λ f. absurd (let no : NoMemory ≡ WriteFault = cc in cc); disk_fault = λ map f. absurd (let no : NoMemory ≡ DiskFault map = cc in cc) }
  causes status (inr (row, rule, e)) = record { read_fault = λ f. absurd (let no : Rows row rule ≡ ReadFault = cc in cc); write_fault = λ f. absurd (let no : Rows row rule ≡ WriteFault = cc in cc); disk_fault = λ map f. absurd (let no : Rows row rule ≡ DiskFault map = cc in cc) }

  nothing_watched : (status : Status) → (status ≡ NoMemory) ⊎ ((row : ℕ) × (rule : ℕ) × (status ≡ Rows row rule))
      → SeesMore seen_before seen_before (IsWatched (once_board store rows) status (wire seen office) (wire seen office))
  nothing_watched status (inl e) = record { more = []; behind = sym (append-nil seen_before); done = rw e (refl, refl) }
  nothing_watched status (inr (row, rule, e)) = record { more = []; behind = sym (append-nil seen_before); done = rw e (refl, refl) }

  without_memory : OnceDoes seen store rows NoMemory (witnessed office seen_before) (witnessed office seen_before)
  without_memory = record {
    serves = λ none. no_stream (input seen office) refl;
    watched = nothing_watched NoMemory (inl refl);
    refused = λ row rule is. (inr refl, refl);
    complete = λ none stream messages rest told cut reads writes. inr refl;
    causes = causes NoMemory (inl refl);
    stays = refl;
  }

  refused_at : (fault : Option (ℕ × ℕ)) (status : Status) → rows_fault rows ≡ fault → IsRows fault status → OnceDoes seen store rows status (witnessed office seen_before) (witnessed office seen_before)
  refused_at None status e is = absurd is
  refused_at (Some (row, rule)) status e is = record {
    serves = λ none. absurd (let no : ◌≡◌ {A = Option (ℕ × ℕ)} None (Some (row, rule)) = cc in cc);
    watched = nothing_watched status (inr (row, rule, is));
    refused = λ row' rule' is'. (inl (is ∙ rows_same row rule row' rule' (sym e ∙ is')), refl);
    complete = λ none stream messages rest told cut reads writes. absurd (let no : ◌≡◌ {A = Option (ℕ × ℕ)} None (Some (row, rule)) = cc in cc);
    causes = causes status (inr (row, rule, is));
    stays = refl;
  }

  pub nothing_served : (status : Status) → (status ≡ NoMemory) ⊎ IsRows (rows_fault rows) status → OnceDoes seen store rows status (witnessed office seen_before) (witnessed office seen_before)
  nothing_served status (inl e) = rw e without_memory
  nothing_served status (inr is) = refused_at (rows_fault rows) status refl is
