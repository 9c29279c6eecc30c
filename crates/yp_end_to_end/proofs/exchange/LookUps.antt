-- The laws of the calls that look one thing up.
use Rattle.std.proofs.Common.{◌≡◌, ℕ, ◌+◌, ◌≤◌, List, ◌++◌, length, Some, Result, Ok, Err, refl, sym, ap, ◌∙◌, subst, arith}
use Rattle.std.proofs.lemmas.List.{length-append}
use Rattle.yp_io.specs.declared.stream.Peer.{Peer}
use Rattle.yp_xdr.specs.declared.fault.XdrFault.{XdrFault}
use Rattle.yp_xdr.specs.Kind.{Kind, Boolean, Value}
use Rattle.yp_xdr.specs.Spelling.{spelling, opaque}
use Rattle.yp_xdr.specs.inside.Spelling.{Fits}
use Rattle.yp_xdr.specs.inside.Laws.{WrittenIsReadAgain}
use Rattle.yp_rpc.specs.Judging.{admitted}
use Rattle.yp_rpc.specs.Called.{call_of}
use Rattle.yp_rpc.specs.inside.Laws.{IsWord, CallIsHeardAgain}
use Rattle.yp_messages.specs.declared.stat.YpStat.TheVariants.{Yperr}
use Rattle.yp_messages.specs.Numbers.{program, version, domain_procedure, match_procedure, first_procedure, next_procedure, master_procedure, order_procedure, maplist_procedure, name_max, key_max}
use Rattle.yp_messages.specs.Messages.{req_domain, req_nokey, req_key, resp_val, key_val, resp_master, resp_order}
use Rattle.yp_messages.specs.MapLists.{map_list}
use Rattle.yp_messages.specs.declared.transfer.XfrStat.{XfrStat}
use Rattle.yp_messages.specs.Transfers.{xfr_number, req_xfr}
use Rattle.yp_messages.specs.Numbers.{xfr_procedure, make_program, make_version, make_named_procedure}
use Rattle.yp_board.specs.Catalogues.{serves}
use Rattle.yp_client.specs.Limits.{reply_max}
use Rattle.yp_client.specs.Asked.{pull_request}
use Rattle.yp_answer.specs.declared.procedure.Path.{Path}
use Rattle.yp_answer.specs.declared.procedure.Path.TheVariants.{Stream}
use Rattle.yp_answer.specs.declared.procedure.Procedure.{Procedure}
use Rattle.yp_answer.specs.declared.procedure.Procedure.TheVariants.{Domain, Match, First, Next, Master, Order, Maplist, Xfr, MakeNamed}
use Rattle.yp_answer.specs.Maps.{Maps, map_check, row_check}
use Rattle.yp_answer.specs.Procedures.{programs_on}
use Rattle.yp_answer.specs.Results.{no_value, no_row, matched, first_row, next_row, mastered, ordered, maps_listed}
use Rattle.yp_answer.specs.Reply.{Response, Bytes, success, look_up, with_arguments, procedure_reply, arguments_of, reply}
use Rattle.yp_answer.specs.Reply.{reply_at_once, xfr_reply, xfr_response, make_reply, make_response}
use Rattle.yp_answer.specs.Make.{make_check}
use Rattle.yp_answer.specs.Transfer.{XfrRequest, asked_transid, xfr_check}
use Rattle.yp_end_to_end.specs.exchange.Told.{stat_told}
use Rattle.yp_end_to_end.specs.inside.exchange.Laws.{DomainTells, MatchTells, FirstTells, NextTells, MasterTells}
use Rattle.yp_end_to_end.specs.inside.exchange.Laws.{OrderTells, MaplistTells, PullTells, MakeHasResponse, MakeTells}
use Rattle.yp_end_to_end.proofs.exchange.Sound.{map_sound, row_sound}
use Rattle.yp_end_to_end.proofs.exchange.Calls.{head_of, call_head, caller_of, reply_to_call, arguments_again}
use Rattle.yp_end_to_end.proofs.exchange.Found.{matched_said, matched_short, FitsRow, first_said, first_fits, next_said, next_fits, master_said, mastered_short, order_said}
use Rattle.yp_end_to_end.proofs.exchange.Names.{names_within, names_said, served_said}
use Rattle.yp_end_to_end.proofs.exchange.Transfers.{taken_said, made_said}
use Rattle.yp_end_to_end.proofs.exchange.Lengths.{opaque_short, length-success}

-- arguments within their limits
pub domain_fits : (domain : List ℕ) → length domain ≤ name_max → Fits req_domain domain
domain_fits domain d = (d, omega (arith, d))

pub map_fits : (domain map : List ℕ) → length domain ≤ name_max → length map ≤ name_max → Fits req_nokey (domain, map)
map_fits domain map d m = (domain_fits domain d, domain_fits map m)

pub key_fits : (domain map key : List ℕ) → length domain ≤ name_max → length map ≤ name_max → length key ≤ key_max → Fits req_key (domain, (map, key))
key_fits domain map key d m k = (domain_fits domain d, (domain_fits map m, (k, omega (arith, k))))

-- what a procedure makes of arguments that were written is the reply to the call
replied_by : WrittenIsReadAgain → CallIsHeardAgain → (path : Path) (maps : Maps) (peer : Peer) (kind : Kind) (xid prog vers number : ℕ) (arguments : Value kind) (procedure : Procedure) (reply_to : Value kind → Response)
    → IsWord xid → IsWord prog → IsWord vers → IsWord number → admitted (programs_on path) (head_of xid prog vers number) ≡ Ok procedure → Fits kind arguments
    → procedure_reply maps (caller_of path xid peer) procedure (spelling kind arguments) ≡ with_arguments xid (arguments_of kind (spelling kind arguments)) reply_to
    → reply path maps peer (call_of kind xid prog vers number arguments) ≡ reply_to arguments
replied_by law calls path maps peer kind xid prog vers number arguments procedure reply_to x p v n is fits by =
    reply_to_call calls path maps peer kind xid prog vers number arguments procedure x p v n is
    ∙ by
    ∙ ap (λ (read : Result (Value kind) XdrFault). with_arguments xid read reply_to) (arguments_again law kind arguments fits)

-- of a procedure of YP
pub replied_to : WrittenIsReadAgain → CallIsHeardAgain → (path : Path) (maps : Maps) (peer : Peer) (kind : Kind) (xid number : ℕ) (arguments : Value kind) (procedure : Procedure) (reply_to : Value kind → Response)
    → IsWord xid → IsWord number → admitted (programs_on path) (call_head xid number) ≡ Ok procedure → Fits kind arguments
    → procedure_reply maps (caller_of path xid peer) procedure (spelling kind arguments) ≡ with_arguments xid (arguments_of kind (spelling kind arguments)) reply_to
    → reply path maps peer (call_of kind xid program version number arguments) ≡ reply_to arguments
replied_to law calls path maps peer kind xid number arguments procedure reply_to x n is fits by =
    replied_by law calls path maps peer kind xid program version number arguments procedure reply_to x (omega arith) (omega arith) n is fits by

pub domain_tells : WrittenIsReadAgain → CallIsHeardAgain → DomainTells
domain_tells law calls maps peer xid domain served x d = record {
  bytes = success xid Boolean (serves domain maps.catalogue);
  replied = replied_to law calls Stream maps peer req_domain xid domain_procedure domain Domain (λ asked. Bytes (success xid Boolean (serves asked maps.catalogue))) x (omega arith) refl (domain_fits domain d) refl;
  within = omega arith;
  says = served_said law xid (serves domain maps.catalogue) x;
}

pub match_tells : WrittenIsReadAgain → CallIsHeardAgain → MatchTells
match_tells law calls maps peer xid domain served x d map m key k =
    let held = row_check maps peer.port domain map in
    let sound = row_sound maps peer.port domain map served in
    let short = matched_short key held sound in
    record {
      bytes = success xid resp_val (matched key held);
      replied = replied_to law calls Stream maps peer req_key xid match_procedure (domain, (map, key)) Match
          (λ asked. Bytes (look_up Stream xid resp_val (matched asked.1.1 (row_check maps peer.port asked.0 asked.1.0)) (no_value Yperr))) x (omega arith) refl (key_fits domain map key d m k) refl;
      within = omega (arith, short, opaque_short (matched key held).1);
      says = matched_said law xid key held x sound;
    }

-- how long a reply with a row is
row_within : (result : Value key_val) → FitsRow result → 28 + length (opaque result.1.0 ++ opaque result.1.1) ≤ 262144
row_within result fits = omega (arith, fits.value, fits.key, length-append (opaque result.1.0) (opaque result.1.1), opaque_short result.1.0, opaque_short result.1.1)

pub first_tells : WrittenIsReadAgain → CallIsHeardAgain → FirstTells
first_tells law calls maps peer xid domain served x d map m =
    let held = row_check maps peer.port domain map in
    let sound = row_sound maps peer.port domain map served in
    record {
      bytes = success xid key_val (first_row held);
      replied = replied_to law calls Stream maps peer req_nokey xid first_procedure (domain, map) First
          (λ asked. Bytes (look_up Stream xid key_val (first_row (row_check maps peer.port asked.0 asked.1)) (no_row Yperr))) x (omega arith) refl (map_fits domain map d m) refl;
      within = omega (arith, row_within (first_row held) (first_fits held sound));
      says = first_said law xid held x sound;
    }

pub next_tells : WrittenIsReadAgain → CallIsHeardAgain → NextTells
next_tells law calls maps peer xid domain served x d map m key k =
    let held = row_check maps peer.port domain map in
    let sound = row_sound maps peer.port domain map served in
    record {
      bytes = success xid key_val (next_row key held);
      replied = replied_to law calls Stream maps peer req_key xid next_procedure (domain, (map, key)) Next
          (λ asked. Bytes (look_up Stream xid key_val (next_row asked.1.1 (row_check maps peer.port asked.0 asked.1.0)) (no_row Yperr))) x (omega arith) refl (key_fits domain map key d m k) refl;
      within = omega (arith, row_within (next_row key held) (next_fits key held sound));
      says = next_said law xid key held x sound;
    }

pub master_tells : WrittenIsReadAgain → CallIsHeardAgain → MasterTells
master_tells law calls maps peer xid domain served x d map m =
    let held = map_check maps domain map in
    let sound = map_sound maps domain map served in
    let short = mastered_short held sound in
    record {
      bytes = success xid resp_master (mastered held);
      replied = replied_to law calls Stream maps peer req_nokey xid master_procedure (domain, map) Master
          (λ asked. Bytes (success xid resp_master (mastered (map_check maps asked.0 asked.1)))) x (omega arith) refl (map_fits domain map d m) refl;
      within = omega (arith, short, opaque_short (mastered held).1);
      says = master_said law xid held x sound;
    }

pub order_tells : WrittenIsReadAgain → CallIsHeardAgain → OrderTells
order_tells law calls maps peer xid domain served x d map m =
    let held = map_check maps domain map in
    record {
      bytes = success xid resp_order (ordered held);
      replied = replied_to law calls Stream maps peer req_nokey xid order_procedure (domain, map) Order
          (λ asked. Bytes (success xid resp_order (ordered (map_check maps asked.0 asked.1)))) x (omega arith) refl (map_fits domain map d m) refl;
      within = omega arith;
      says = order_said law xid held x (map_sound maps domain map served);
    }

pub maplist_tells : WrittenIsReadAgain → CallIsHeardAgain → MaplistTells
maplist_tells law calls maps peer xid domain served x d = record {
  bytes = success xid map_list (maps_listed maps domain);
  replied = replied_to law calls Stream maps peer req_domain xid maplist_procedure domain Maplist (λ asked. Bytes (success xid map_list (maps_listed maps asked))) x (omega arith) refl (domain_fits domain d) refl;
  within = subst (λ n. n ≤ reply_max) (sym (length-success xid map_list (maps_listed maps domain))) (names_within maps domain served);
  says = names_said law maps xid domain served x;
}

-- a request of `pull`
pull_fits : (domain map source : List ℕ) → length domain ≤ name_max → length map ≤ name_max → length source ≤ name_max → Fits req_xfr (pull_request domain map source)
pull_fits domain map source d m s =
    (domain_fits domain d, (domain_fits map m, (omega arith, (domain_fits source s, (omega arith, (omega arith, omega arith))))))

-- the reply to XFR goes out at once, whether or not a transfer is taken
replied_at_once : (xid : ℕ) (asked : XfrRequest) (checked : Result ℕ XfrStat)
    → reply_at_once (xfr_response xid asked checked) ≡ Some (xfr_reply xid (asked_transid asked) (stat_told checked))
replied_at_once xid asked (Ok map) = refl
replied_at_once xid asked (Err stat) = refl

pub pull_tells : WrittenIsReadAgain → CallIsHeardAgain → PullTells
pull_tells law calls maps peer xid domain served x d map m source s =
    let asked = pull_request domain map source in
    let stat = stat_told (xfr_check maps asked) in
    record {
      bytes = xfr_reply xid 0 stat;
      replied = ap reply_at_once (replied_to law calls Stream maps peer req_xfr xid xfr_procedure asked Xfr
          (λ request. xfr_response xid request (xfr_check maps request)) x (omega arith) refl (pull_fits domain map source d m s) refl)
          ∙ replied_at_once xid asked (xfr_check maps asked);
      within = omega arith;
      says = taken_said law xid stat x;
    }

pub make_has_response : WrittenIsReadAgain → CallIsHeardAgain → MakeHasResponse
make_has_response law calls maps peer xid domain served x d map m =
    replied_by law calls Stream maps peer req_nokey xid make_program make_version make_named_procedure (domain, map) MakeNamed
    (λ asked. make_response xid (make_check maps.catalogue peer asked.0 (Some asked.1))) x (omega arith) (omega arith) (omega arith) refl (map_fits domain map d m) refl

pub make_tells : WrittenIsReadAgain → MakeTells
make_tells law xid stat x = record {
  within = omega arith;
  says = made_said law xid stat x;
}
