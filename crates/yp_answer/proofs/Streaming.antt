-- The reply of ALL as a stream.
use Rattle.std.proofs.Common.{◌≡◌, ℕ, List, Result, Ok, sym, ap, subst, ◌∙◌}
use Rattle.yp_xdr.specs.Kind.{Value, ListOf}
use Rattle.yp_messages.specs.declared.stat.YpStat.{YpStat}
use Rattle.yp_messages.specs.Messages.{req_nokey, key_val}
use Rattle.yp_answer.specs.declared.caller.Caller.{Caller}
use Rattle.yp_answer.specs.declared.procedure.Procedure.TheVariants.{All}
use Rattle.yp_answer.specs.Maps.{Maps, row_check}
use Rattle.yp_answer.specs.Results.{all_items}
use Rattle.yp_answer.specs.Reply.{Response, Bytes, arguments_of, with_arguments, procedure_reply, success}
use Rattle.yp_rpc.specs.Records.{joined}
use Rattle.yp_answer.specs.inside.Streams.{Streamed, source_of, parts_left}
use Rattle.yp_answer.specs.inside.Answers.{StreamIsInside, Streams}
use Rattle.yp_answer.proofs.Parts.{joined_parts}

-- the stream of a source, before any part was given
abbrev pub fresh : ℕ → Result ℕ YpStat → Streamed
fresh xid source = record { xid = xid; source = source; given = 0 }

-- it is the reply to arguments that were read, where its source is what the check of the map gives
pub all_streams : (maps : Maps) (caller : Caller) (bytes : List ℕ) (asked : Value req_nokey) (source : Result ℕ YpStat) (stream : Streamed)
    → arguments_of req_nokey bytes ≡ Ok asked → source_of maps.log source ≡ row_check maps caller.peer.port asked.0 asked.1 → StreamIsInside maps source → stream ≡ fresh caller.xid source
    → Streams maps (procedure_reply maps caller All bytes) stream
all_streams maps caller bytes asked source stream read same inside is =
    let reply : Value req_nokey → Response = λ v. Bytes (success caller.xid (ListOf key_val) (all_items (row_check maps caller.peer.port v.0 v.1))) in
    let answered : procedure_reply maps caller All bytes ≡ reply asked = ap (λ r. with_arguments caller.xid r reply) read in
    let bytes_are : joined (parts_left maps.log (fresh caller.xid source)) ≡ success caller.xid (ListOf key_val) (all_items (row_check maps caller.peer.port asked.0 asked.1)) =
    joined_parts caller.xid (source_of maps.log source) ∙ ap (λ s. success caller.xid (ListOf key_val) (all_items s)) same in
    subst (λ s. Streams maps (procedure_reply maps caller All bytes) s) (sym is) (record {
      inside = inside;
      some = λ e. cc;
      whole = answered ∙ ap (λ b. Bytes b) (sym bytes_are);
    })
