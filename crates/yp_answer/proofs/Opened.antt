-- A MAKE that is left open.
use Rattle.std.proofs.Common.{◌≡◌, ℕ, not, cond, List, drop, Option, Some, Result, Ok, Err, subst, refl, inl, inr}
use Rattle.std.specs.Prelude.{bytes_eq}
use Rattle.std.proofs.lemmas.Bool.{cases_Bool}
use Rattle.std.proofs.lemmas.Slice.Eq.{bytes_eq-Decides}
use Rattle.yp_io.specs.declared.stream.Peer.{Peer}
use Rattle.yp_rpc.specs.declared.judging.Judged.{Judged}
use Rattle.yp_rpc.specs.declared.judging.Judged.TheVariants.{Ignored, Admitted}
use Rattle.yp_rpc.specs.declared.judging.Judged.TheVariants as judged
use Rattle.yp_xdr.specs.Kind.{Value}
use Rattle.yp_messages.specs.declared.transfer.XfrStat.{XfrStat}
use Rattle.yp_messages.specs.declared.transfer.XfrStat.TheVariants.{Refused}
use Rattle.yp_messages.specs.Messages.{req_domain, req_key, req_nokey}
use Rattle.yp_messages.specs.Transfers.{req_xfr, req_make}
use Rattle.yp_board.specs.Catalogues.{serves}
use Rattle.yp_answer.specs.declared.caller.Caller.{Caller}
use Rattle.yp_answer.specs.declared.procedure.Path.{Path}
use Rattle.yp_answer.specs.declared.procedure.Procedure.{Procedure}
use Rattle.yp_answer.specs.declared.procedure.Procedure.TheVariants.{Null, Domain, DomainNonack, Match, First, Next, Xfr, Clear, All, Master, Order, Maplist, Make, MakeNamed}
use Rattle.yp_answer.specs.Maps.{Maps}
use Rattle.yp_answer.specs.declared.make.MakeJob.{MakeJob}
use Rattle.yp_io.specs.Peers.{own_host}
use Rattle.yp_answer.specs.Make.{map_numbered, make_check}
use Rattle.yp_answer.specs.Transfer.{XfrRequest, Taken, taken_for, xfr_check}
use Rattle.yp_answer.specs.Reply.{Response, Takes, Open, arguments_of, xfr_response, make_response, procedure_reply, judged_reply}
use Rattle.yp_answer.proofs.Targets.{IsSpecial, not_of_bytes, of_arguments, not_of_either}

-- ---- which replies are special: those of XFR and MAKE

-- a map is made for what was asked for, or a transfer is taken
abbrev pub IsAsked : Maps → Peer → Response → Type 0
IsAsked maps peer (Open xid job) = (domain : List ℕ) × (map : Option (List ℕ)) × (make_check maps.catalogue peer domain map ≡ Ok job)
IsAsked maps peer (Takes bytes taken) = (asked : XfrRequest) × (map : ℕ) × (xfr_check maps asked ≡ Ok map) × (taken ≡ taken_for asked map)
IsAsked maps peer _ = ⊥

pub open_is_special : (xid : ℕ) (job : MakeJob) → IsSpecial (Open xid job)
open_is_special xid job = record { no_bytes = λ bytes e. absurd cc; no_silence = λ e. absurd cc }

takes_is_special : (bytes : List ℕ) (taken : Taken) → IsSpecial (Takes bytes taken)
takes_is_special bytes taken = record { no_bytes = λ some e. absurd cc; no_silence = λ e. absurd cc }

of_make : (maps : Maps) (peer : Peer) (target : Response) (number : ℕ) (domain : List ℕ) (map : Option (List ℕ)) (check : Result MakeJob XfrStat)
    → make_check maps.catalogue peer domain map ≡ check → IsSpecial target
    → make_response number check ≡ target → IsAsked maps peer target
of_make maps peer target number domain map (Err stat) is special e = absurd (special.no_bytes _ e)
of_make maps peer target number domain map (Ok job) is special e = subst (IsAsked maps peer) e (domain, map, is)

of_xfr : (maps : Maps) (peer : Peer) (target : Response) (number : ℕ) (asked : XfrRequest) (check : Result ℕ XfrStat) → xfr_check maps asked ≡ check → IsSpecial target
    → xfr_response number asked check ≡ target → IsAsked maps peer target
of_xfr maps peer target number asked (Err stat) is special e = absurd (special.no_bytes _ e)
of_xfr maps peer target number asked (Ok map) is special e = subst (IsAsked maps peer) e (asked, map, is, refl)

of_procedure : (maps : Maps) (caller : Caller) (procedure : Procedure) (bytes : List ℕ) (target : Response) → IsSpecial target → procedure_reply maps caller procedure bytes ≡ target
    → IsAsked maps caller.peer target
of_procedure maps caller Null bytes target special e = absurd (special.no_bytes _ e)
of_procedure maps caller Clear bytes target special e = absurd (special.no_bytes _ e)
of_procedure maps caller Domain bytes target special e = absurd (not_of_bytes target caller.xid (arguments_of req_domain bytes) _ special e)
of_procedure maps caller DomainNonack bytes target special e =
    of_arguments target caller.xid (arguments_of req_domain bytes) _ _ special e (λ (v : List ℕ) h. absurd (not_of_either target (serves v maps.catalogue) _ special h))
of_procedure maps caller Match bytes target special e = absurd (not_of_bytes target caller.xid (arguments_of req_key bytes) _ special e)
of_procedure maps caller First bytes target special e = absurd (not_of_bytes target caller.xid (arguments_of req_nokey bytes) _ special e)
of_procedure maps caller Next bytes target special e = absurd (not_of_bytes target caller.xid (arguments_of req_key bytes) _ special e)
of_procedure maps caller Xfr bytes target special e =
    of_arguments target caller.xid (arguments_of req_xfr bytes) _ _ special e (λ (v : XfrRequest) h. of_xfr maps caller.peer target caller.xid v (xfr_check maps v) refl special h)
of_procedure maps caller All bytes target special e = absurd (not_of_bytes target caller.xid (arguments_of req_nokey bytes) _ special e)
of_procedure maps caller Master bytes target special e = absurd (not_of_bytes target caller.xid (arguments_of req_nokey bytes) _ special e)
of_procedure maps caller Order bytes target special e = absurd (not_of_bytes target caller.xid (arguments_of req_nokey bytes) _ special e)
of_procedure maps caller Maplist bytes target special e = absurd (not_of_bytes target caller.xid (arguments_of req_domain bytes) _ special e)
of_procedure maps caller Make bytes target special e =
    of_arguments target caller.xid (arguments_of req_make bytes) _ _ special e (λ (v : Value req_make) h.
    of_make maps caller.peer target caller.xid v.0 (map_numbered v.1) (make_check maps.catalogue caller.peer v.0 (map_numbered v.1)) refl special h)
of_procedure maps caller MakeNamed bytes target special e =
    of_arguments target caller.xid (arguments_of req_nokey bytes) _ _ special e (λ (v : Value req_nokey) h.
    of_make maps caller.peer target caller.xid v.0 (Some v.1) (make_check maps.catalogue caller.peer v.0 (Some v.1)) refl special h)

of_judged : (path : Path) (maps : Maps) (peer : Peer) (message : List ℕ) (was : Judged Procedure) (target : Response) → IsSpecial target → judged_reply path maps peer message was ≡ target
    → IsAsked maps peer target
of_judged path maps peer message Ignored target special e = absurd (special.no_silence e)
of_judged path maps peer message (judged.Refused number head) target special e = absurd (special.no_bytes _ e)
of_judged path maps peer message (Admitted call procedure) target special e =
    of_procedure maps (record { path = path; xid = call.xid; peer = peer }) procedure (drop call.body message) target special e

pub open_is_asked : (path : Path) (maps : Maps) (peer : Peer) (message : List ℕ) (was : Judged Procedure) (xid : ℕ) (job : MakeJob) → judged_reply path maps peer message was ≡ Open xid job
    → IsAsked maps peer (Open xid job)
open_is_asked path maps peer message was xid job e = of_judged path maps peer message was (Open xid job) (open_is_special xid job) e

pub taken_is_asked : (path : Path) (maps : Maps) (peer : Peer) (message : List ℕ) (was : Judged Procedure) (bytes : List ℕ) (taken : Taken) → judged_reply path maps peer message was ≡ Takes bytes taken
    → IsAsked maps peer (Takes bytes taken)
taken_is_asked path maps peer message was bytes taken e = of_judged path maps peer message was (Takes bytes taken) (takes_is_special bytes taken) e

-- ---- what a MAKE that is left open rests on

-- a caller elsewhere is refused
from_own_host : (addr : List ℕ) (job : MakeJob) (later : Result MakeJob XfrStat) → cond (not (bytes_eq addr own_host)) (Err Refused) later ≡ Ok job → addr ≡ own_host
from_own_host addr job later e =
    elim (cases_Bool (bytes_eq addr own_host)) [
      | inl same ↦ (bytes_eq-Decides addr own_host).0 same
      | inr other ↦ let refused : Err Refused ≡ Ok job = rw other at e in absurd cc
    ]

pub asked_is_local : (maps : Maps) (peer : Peer) (xid : ℕ) (job : MakeJob) → IsAsked maps peer (Open xid job) → peer.addr ≡ own_host
asked_is_local maps peer xid job asked = from_own_host peer.addr job _ asked.2
