-- The law of ALL.
use Rattle.std.proofs.Common.{◌≡◌, ℕ, ◌+◌, ◌≤◌, List, [], ◌++◌, length, map, Result, Ok, Err, refl, sym, ap, ◌∙◌, subst, arith}
use Rattle.std.specs.Prelude.{flat_map}
use Rattle.std.proofs.lemmas.List.{length-append}
use Rattle.yp_xdr.specs.Kind.{ListOf}
use Rattle.yp_xdr.specs.Spelling.{word, opaque, present, spelling}
use Rattle.yp_xdr.specs.Reading.{Remaining}
use Rattle.yp_xdr.specs.inside.Laws.{WrittenIsReadAgain}
use Rattle.yp_rpc.specs.inside.Laws.{IsWord, CallIsHeardAgain}
use Rattle.yp_messages.specs.declared.stat.YpStat.{YpStat}
use Rattle.yp_messages.specs.Numbers.{all_procedure}
use Rattle.yp_messages.specs.Messages.{req_nokey, key_val}
use Rattle.yp_version.specs.Rows.{Row}
use Rattle.yp_version.specs.inside.Rows.{HasDistinctKeys}
use Rattle.yp_version.specs.Drafts.{Draft}
use Rattle.yp_version.specs.Versions.{MapVersion, IsVersion}
use Rattle.yp_version.specs.inside.Laws.{RisingIsDistinct}
use Rattle.yp_client.specs.declared.fault.ClientFault.{ClientFault}
use Rattle.yp_client.specs.Limits.{all_max}
use Rattle.yp_client.specs.All.{filled_by, all_said}
use Rattle.yp_answer.specs.declared.procedure.Path.TheVariants.{Stream}
use Rattle.yp_answer.specs.declared.procedure.Procedure.TheVariants.{All}
use Rattle.yp_answer.specs.Maps.{row_check}
use Rattle.yp_answer.specs.Results.{row_item, all_items}
use Rattle.yp_answer.specs.Reply.{Bytes, success}
use Rattle.yp_end_to_end.specs.inside.exchange.Told.{all_told}
use Rattle.yp_end_to_end.specs.inside.exchange.Served.{DraftHasRoom}
use Rattle.yp_end_to_end.specs.inside.exchange.Laws.{AllTells}
use Rattle.yp_end_to_end.proofs.exchange.Sound.{IsSound, row_sound}
use Rattle.yp_end_to_end.proofs.exchange.Heads.{results_again}
use Rattle.yp_end_to_end.proofs.exchange.Found.{rows_short}
use Rattle.yp_end_to_end.proofs.exchange.Lengths.{opaque_short, length-success}
use Rattle.yp_end_to_end.proofs.exchange.Pushed.{AreTaken, are_taken}
use Rattle.yp_end_to_end.proofs.exchange.Rows.{rows_filled, refusal_filled, rows_fewer, rows_bytes}
use Rattle.yp_end_to_end.proofs.exchange.LookUps.{map_fits, replied_to}

-- the rows of a version are taken by a builder that has room for them
version_taken : RisingIsDistinct → (draft : Draft) (version : MapVersion) → IsVersion version → DraftHasRoom draft (Ok version) → AreTaken draft version.rows
version_taken distinct draft version is room =
    are_taken draft version.rows
    (subst (λ (front : List Row). HasDistinctKeys (front ++ version.rows)) (sym room.empty) (distinct version.rows is.rising)) (rows_short version is)
    (omega (arith, ap length room.empty, is.count)) room.room

-- what is filled is said
held_filled : WrittenIsReadAgain → RisingIsDistinct → (draft : Draft) (held : Result MapVersion YpStat) → IsSound held → DraftHasRoom draft held
    → filled_by draft (Ok (record { at = 24; bytes = spelling (ListOf key_val) (all_items held) })) ≡ all_told draft held
held_filled law distinct draft (Ok version) is room =
    rows_filled law _ 0 draft version.rows 24 (rows_fewer version.rows) (rows_short version is) (version_taken distinct draft version is room)
    ∙ ap (λ (front : List Row). record { draft = record draft { rows = front ++ version.rows }; rows = 0 + length version.rows; end = Ok tt }) room.empty
    ∙ ap (λ (n : ℕ). record { draft = record draft { rows = version.rows }; rows = n; end = Ok tt }) (omega arith)
held_filled law distinct draft (Err stat) is room = refusal_filled law _ draft stat 24 is

all_is_said : WrittenIsReadAgain → RisingIsDistinct → (draft : Draft) (xid : ℕ) (held : Result MapVersion YpStat) → IsWord xid → IsSound held → DraftHasRoom draft held
    → all_said draft xid (success xid (ListOf key_val) (all_items held)) ≡ all_told draft held
unfolding all_said
all_is_said law distinct draft xid held x is room =
    ap (λ (left : Result Remaining ClientFault). filled_by draft left) (results_again law (ListOf key_val) xid (all_items held) x) ∙ held_filled law distinct draft held is room

-- how long the list is
held_len : (held : Result MapVersion YpStat) → IsSound held → 24 + length (spelling (ListOf key_val) (all_items held)) ≤ all_max
held_len (Ok version) is =
    let rows = flat_map (present (spelling key_val)) (map row_item version.rows) in
    omega (arith, length-append rows (word 0), rows_bytes version.rows, is.body, is.count)
held_len (Err stat) is =
    omega (arith, length-append ((opaque [] ++ opaque []) ++ []) (word 0), length-append (opaque [] ++ opaque []) [], length-append (opaque []) (opaque []), opaque_short [])

pub all_tells : WrittenIsReadAgain → CallIsHeardAgain → RisingIsDistinct → AllTells
all_tells law calls distinct maps peer xid domain served x d map m draft room =
    let held = row_check maps peer.port domain map in
    let sound = row_sound maps peer.port domain map served in
    record {
      bytes = success xid (ListOf key_val) (all_items held);
      replied = replied_to law calls Stream maps peer req_nokey xid all_procedure (domain, map) All
          (λ asked. Bytes (success xid (ListOf key_val) (all_items (row_check maps peer.port asked.0 asked.1)))) x (omega arith) refl (map_fits domain map d m) refl;
      within = subst (λ n. n ≤ all_max) (sym (length-success xid (ListOf key_val) (all_items held))) (held_len held sound);
      says = all_is_said law distinct draft xid held x sound room;
    }
