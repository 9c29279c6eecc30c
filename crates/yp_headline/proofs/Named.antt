-- A map that is made is made of what its name says.
use Rattle.std.proofs.Common.{◌≡◌, ℕ, Bool, true, false, cond, not, List, drop, Option, Some, None, Result, Ok, Err, refl, subst}
use Rattle.std.specs.Prelude.{⊤, ◌||◌, ◌==◌, bytes_eq, length}
use Rattle.std.specs.Option.{option_map, option_and_then, ok_or}
use Rattle.yp_io.specs.declared.stream.Peer.{Peer}
use Rattle.yp_xdr.specs.declared.fault.XdrFault.{XdrFault}
use Rattle.yp_rpc.specs.declared.judging.Judged.{Judged}
use Rattle.yp_rpc.specs.declared.judging.Judged.TheVariants.{Ignored, Refused, Admitted}
use Rattle.yp_rpc.specs.Judging.{judged}
use Rattle.yp_messages.specs.declared.transfer.XfrStat.{XfrStat}
use Rattle.yp_messages.specs.declared.transfer.XfrStat.TheVariants as stats
use Rattle.yp_messages.specs.declared.transfer.XfrStat.TheVariants.{Nomap, Nodom, Badargs}
use Rattle.yp_io.specs.Peers.{own_host}
use Rattle.yp_board.specs.Catalogues.{Catalogue, serves, find}
use Rattle.yp_answer.specs.declared.caller.Caller.{Caller}
use Rattle.yp_answer.specs.declared.make.MakeJob.{MakeJob}
use Rattle.yp_answer.specs.declared.procedure.Path.{Path}
use Rattle.yp_answer.specs.declared.procedure.Procedure.{Procedure}
use Rattle.yp_answer.specs.declared.procedure.Procedure.TheVariants.{Null, Domain, DomainNonack, Match, First, Next, Xfr, Clear, All, Master, Order, Maplist, Make, MakeNamed}
use Rattle.yp_answer.specs.Maps.{Maps}
use Rattle.yp_answer.specs.Make.{map_name, making_of, job_of, map_numbered, is_nameless, make_check}
use Rattle.yp_answer.specs.Procedures.{programs_on}
use Rattle.yp_answer.specs.Transfer.{XfrRequest, xfr_check}
use Rattle.yp_answer.specs.Reply.{Response, Silence, Bytes, Open, with_arguments, make_response, xfr_response, arguments_of, procedure_reply, judged_reply, reply}
use Rattle.yp_xdr.specs.Kind.{Value}
use Rattle.yp_messages.specs.Messages.{req_domain, req_key, req_nokey}
use Rattle.yp_messages.specs.Transfers.{req_xfr, req_make}

abbrev pub IsNamed : Catalogue → Response → Type 0
IsNamed catalogue (Open xid job) = job.making ≡ making_of (map_name job.map catalogue)
IsNamed catalogue _ = ⊤

abbrev IsNamedJob : Catalogue → Result MakeJob XfrStat → Type 0
IsNamedJob catalogue (Ok job) = job.making ≡ making_of (map_name job.map catalogue)
IsNamedJob catalogue (Err stat) = ⊤

unless : (catalogue : Catalogue) (b : Bool) (stat : XfrStat) (later : Result MakeJob XfrStat) → IsNamedJob catalogue later
    → IsNamedJob catalogue (cond b (Err stat) later)
unless catalogue true stat later named = tt
unless catalogue false stat later named = named

of_number : (catalogue : Catalogue) (number : Option ℕ) → IsNamedJob catalogue (ok_or (option_map (job_of catalogue) number) Nomap)
of_number catalogue None = tt
of_number catalogue (Some number) = refl

checked : (catalogue : Catalogue) (peer : Peer) (domain : List ℕ) (map : Option (List ℕ))
    → IsNamedJob catalogue (make_check catalogue peer domain map)
checked catalogue peer domain map =
    let number = option_and_then (λ name. find domain name catalogue) map in
    let last : Result MakeJob XfrStat = ok_or (option_map (job_of catalogue) number) Nomap in
    let served : Result MakeJob XfrStat = cond (not (serves domain catalogue)) (Err Nodom) last in
    let named : Result MakeJob XfrStat = cond (length domain == 0 || is_nameless map) (Err Badargs) served in
    unless catalogue (not (bytes_eq peer.addr own_host)) stats.Refused named
    (unless catalogue (length domain == 0 || is_nameless map) Badargs served
    (unless catalogue (not (serves domain catalogue)) Nodom last (of_number catalogue number)))

made : (catalogue : Catalogue) (xid : ℕ) (check : Result MakeJob XfrStat) → IsNamedJob catalogue check
    → IsNamed catalogue (make_response xid check)
made catalogue xid (Ok job) named = named
made catalogue xid (Err stat) named = tt

taken : (catalogue : Catalogue) (xid : ℕ) (asked : XfrRequest) (check : Result ℕ XfrStat)
    → IsNamed catalogue (xfr_response xid asked check)
taken catalogue xid asked (Ok map) = tt
taken catalogue xid asked (Err stat) = tt

by_arguments : {V : Type 0} (catalogue : Catalogue) (target : Response) (xid : ℕ) (arguments : Result V XdrFault)
    (then : V → Response) → with_arguments xid arguments then ≡ target
    → ((v : V) → then v ≡ target → IsNamed catalogue target) → IsNamed catalogue target
by_arguments catalogue target xid (Ok v) then is named = named v is
by_arguments catalogue target xid (Err fault) then is named = subst (IsNamed catalogue) is tt

of_bytes : (catalogue : Catalogue) (target : Response) (bytes : List ℕ) → Bytes bytes ≡ target → IsNamed catalogue target
of_bytes catalogue target bytes is = subst (IsNamed catalogue) is tt

of_either : (catalogue : Catalogue) (target : Response) (b : Bool) (bytes : List ℕ) → cond b (Bytes bytes) Silence ≡ target
    → IsNamed catalogue target
of_either catalogue target true bytes is = subst (IsNamed catalogue) is tt
of_either catalogue target false bytes is = subst (IsNamed catalogue) is tt

of_procedure : (maps : Maps) (caller : Caller) (procedure : Procedure) (bytes : List ℕ) (target : Response)
    → procedure_reply maps caller procedure bytes ≡ target → IsNamed maps.catalogue target
of_procedure maps caller Null bytes target is = of_bytes maps.catalogue target _ is
of_procedure maps caller Clear bytes target is = of_bytes maps.catalogue target _ is
of_procedure maps caller Domain bytes target is = by_arguments maps.catalogue target caller.xid (arguments_of req_domain bytes) _ is
    (λ v h. of_bytes maps.catalogue target _ h)
of_procedure maps caller DomainNonack bytes target is = by_arguments maps.catalogue target caller.xid
    (arguments_of req_domain bytes) _ is (λ (v : List ℕ) h. of_either maps.catalogue target (serves v maps.catalogue) _ h)
of_procedure maps caller Match bytes target is = by_arguments maps.catalogue target caller.xid (arguments_of req_key bytes) _ is
    (λ v h. of_bytes maps.catalogue target _ h)
of_procedure maps caller First bytes target is = by_arguments maps.catalogue target caller.xid (arguments_of req_nokey bytes) _ is
    (λ v h. of_bytes maps.catalogue target _ h)
of_procedure maps caller Next bytes target is = by_arguments maps.catalogue target caller.xid (arguments_of req_key bytes) _ is
    (λ v h. of_bytes maps.catalogue target _ h)
of_procedure maps caller Xfr bytes target is = by_arguments maps.catalogue target caller.xid (arguments_of req_xfr bytes) _ is
    (λ (v : XfrRequest) h. subst (IsNamed maps.catalogue) h (taken maps.catalogue caller.xid v (xfr_check maps v)))
of_procedure maps caller All bytes target is = by_arguments maps.catalogue target caller.xid (arguments_of req_nokey bytes) _ is
    (λ v h. of_bytes maps.catalogue target _ h)
of_procedure maps caller Master bytes target is = by_arguments maps.catalogue target caller.xid (arguments_of req_nokey bytes) _ is
    (λ v h. of_bytes maps.catalogue target _ h)
of_procedure maps caller Order bytes target is = by_arguments maps.catalogue target caller.xid (arguments_of req_nokey bytes) _ is
    (λ v h. of_bytes maps.catalogue target _ h)
of_procedure maps caller Maplist bytes target is = by_arguments maps.catalogue target caller.xid (arguments_of req_domain bytes) _ is
    (λ v h. of_bytes maps.catalogue target _ h)
of_procedure maps caller Make bytes target is = by_arguments maps.catalogue target caller.xid (arguments_of req_make bytes) _ is
    (λ (v : Value req_make) h. subst (IsNamed maps.catalogue) h
    (made maps.catalogue caller.xid (make_check maps.catalogue caller.peer v.0 (map_numbered v.1))
    (checked maps.catalogue caller.peer v.0 (map_numbered v.1))))
of_procedure maps caller MakeNamed bytes target is = by_arguments maps.catalogue target caller.xid (arguments_of req_nokey bytes) _ is
    (λ (v : Value req_nokey) h. subst (IsNamed maps.catalogue) h
    (made maps.catalogue caller.xid (make_check maps.catalogue caller.peer v.0 (Some v.1))
    (checked maps.catalogue caller.peer v.0 (Some v.1))))

of_judged : (path : Path) (maps : Maps) (peer : Peer) (message : List ℕ) (was : Judged Procedure) (target : Response)
    → judged_reply path maps peer message was ≡ target → IsNamed maps.catalogue target
of_judged path maps peer message Ignored target is = subst (IsNamed maps.catalogue) is tt
of_judged path maps peer message (Refused number head) target is = subst (IsNamed maps.catalogue) is tt
of_judged path maps peer message (Admitted call procedure) target is =
    of_procedure maps (record { path = path; xid = call.xid; peer = peer }) procedure (drop call.body message) target is

pub open_is_named : (path : Path) (maps : Maps) (peer : Peer) (message : List ℕ) (xid : ℕ) (job : MakeJob)
    → reply path maps peer message ≡ Open xid job → job.making ≡ making_of (map_name job.map maps.catalogue)
open_is_named path maps peer message xid job is =
    of_judged path maps peer message (judged (programs_on path) message) (Open xid job) is
