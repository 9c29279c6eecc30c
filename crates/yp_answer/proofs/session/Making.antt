-- Records for which no map is made.
use Rattle.std.proofs.Common.{◌≡◌, ℕ, Bool, true, false, List, [], ◌∷◌, ◌++◌, length, take, drop, None, ap, sym, ◌∙◌}
use Rattle.std.specs.Prelude.{bytes_eq, ◌&&◌}
use Rattle.std.proofs.lemmas.Slice.Eq.{bytes_eq-Decides}
use Rattle.yp_io.specs.declared.stream.Peer.{Peer}
use Rattle.yp_io.specs.Peers.{own_host}
use Rattle.yp_rpc.specs.Judging.{judged}
use Rattle.yp_rpc.specs.declared.judging.Judged.{Judged}
use Rattle.yp_rpc.specs.declared.judging.Judged.TheVariants.{Ignored, Admitted}
use Rattle.yp_rpc.specs.declared.judging.Judged.TheVariants as judged_as
use Rattle.yp_board.specs.Catalogues.{serves}
use Rattle.yp_messages.specs.Messages.{req_domain, req_key, req_nokey}
use Rattle.yp_messages.specs.Transfers.{req_xfr}
use Rattle.yp_answer.specs.declared.caller.Caller.{Caller}
use Rattle.yp_answer.specs.declared.make.MakeJob.{MakeJob}
use Rattle.yp_answer.specs.declared.procedure.Path.TheVariants.{Stream}
use Rattle.yp_answer.specs.declared.procedure.Procedure.{Procedure}
use Rattle.yp_answer.specs.declared.procedure.Procedure.TheVariants.{Null, Domain, DomainNonack, Match, First, Next, Xfr, Clear, All, Master, Order, Maplist, Make, MakeNamed}
use Rattle.yp_answer.specs.Maps.{Maps, maps_of}
use Rattle.yp_answer.specs.Procedures.{programs_on}
use Rattle.yp_answer.specs.Transfer.{XfrRequest, xfr_check}
use Rattle.yp_answer.specs.Reply.{Response, Silence, Bytes, Takes, Open, arguments_of, xfr_response, procedure_reply, judged_reply, reply}
use Rattle.yp_answer.specs.session.Hosts.{Conduct, Turn, Link, Carries}
use Rattle.yp_answer.specs.session.Makes.{is_make, is_let_to_make, may_make}
use Rattle.yp_answer.specs.inside.session.Makes.{BeginsWithMake}
use Rattle.yp_answer.specs.Numbers.{record_max}
use Rattle.yp_rpc.specs.inside.Incoming.{IsRecord}
use Rattle.yp_answer.proofs.Targets.{not_of_bytes, of_arguments, not_of_either}
use Rattle.yp_answer.proofs.Opened.{open_is_special, open_is_asked, asked_is_local}
use Rattle.std.proofs.Common.{Result, Ok, Err, refl}
use Rattle.yp_messages.specs.declared.transfer.XfrStat.{XfrStat}

-- a transfer leaves no MAKE open
not_of_xfr : (number : ℕ) (asked : XfrRequest) (check : Result ℕ XfrStat) (xid : ℕ) (job : MakeJob) → xfr_response number asked check ≡ Open xid job → ⊥
not_of_xfr number asked (Err stat) xid job e = cc
not_of_xfr number asked (Ok map) xid job e = cc

-- MAKE and MAKE_NAMED alone are left open
open_is_make : (maps : Maps) (caller : Caller) (procedure : Procedure) (bytes : List ℕ) (xid : ℕ) (job : MakeJob)
    → procedure_reply maps caller procedure bytes ≡ Open xid job → is_make procedure ≡ true
open_is_make maps caller Null bytes xid job e = absurd ((open_is_special xid job).no_bytes _ e)
open_is_make maps caller Clear bytes xid job e = absurd ((open_is_special xid job).no_bytes _ e)
open_is_make maps caller Domain bytes xid job e = absurd (not_of_bytes (Open xid job) caller.xid (arguments_of req_domain bytes) _ (open_is_special xid job) e)
open_is_make maps caller DomainNonack bytes xid job e =
    of_arguments (Open xid job) caller.xid (arguments_of req_domain bytes) _ _ (open_is_special xid job) e
    (λ (v : List ℕ) h. absurd (not_of_either (Open xid job) (serves v maps.catalogue) _ (open_is_special xid job) h))
open_is_make maps caller Match bytes xid job e = absurd (not_of_bytes (Open xid job) caller.xid (arguments_of req_key bytes) _ (open_is_special xid job) e)
open_is_make maps caller First bytes xid job e = absurd (not_of_bytes (Open xid job) caller.xid (arguments_of req_nokey bytes) _ (open_is_special xid job) e)
open_is_make maps caller Next bytes xid job e = absurd (not_of_bytes (Open xid job) caller.xid (arguments_of req_key bytes) _ (open_is_special xid job) e)
open_is_make maps caller Xfr bytes xid job e =
    of_arguments (Open xid job) caller.xid (arguments_of req_xfr bytes) _ _ (open_is_special xid job) e
    (λ (v : XfrRequest) h. absurd (not_of_xfr caller.xid v (xfr_check maps v) xid job h))
open_is_make maps caller All bytes xid job e = absurd (not_of_bytes (Open xid job) caller.xid (arguments_of req_nokey bytes) _ (open_is_special xid job) e)
open_is_make maps caller Master bytes xid job e = absurd (not_of_bytes (Open xid job) caller.xid (arguments_of req_nokey bytes) _ (open_is_special xid job) e)
open_is_make maps caller Order bytes xid job e = absurd (not_of_bytes (Open xid job) caller.xid (arguments_of req_nokey bytes) _ (open_is_special xid job) e)
open_is_make maps caller Maplist bytes xid job e = absurd (not_of_bytes (Open xid job) caller.xid (arguments_of req_domain bytes) _ (open_is_special xid job) e)
open_is_make maps caller Make bytes xid job e = refl
open_is_make maps caller MakeNamed bytes xid job e = refl

judged_make : (maps : Maps) (peer : Peer) (message : List ℕ) (was : Judged Procedure) (xid : ℕ) (job : MakeJob)
    → judged_reply Stream maps peer message was ≡ Open xid job → is_let_to_make was ≡ true
judged_make maps peer message Ignored xid job e = absurd ((open_is_special xid job).no_silence e)
judged_make maps peer message (judged_as.Refused number head) xid job e = absurd ((open_is_special xid job).no_bytes _ e)
judged_make maps peer message (Admitted call procedure) xid job e =
    open_is_make maps (record { path = Stream; xid = call.xid; peer = peer }) procedure (drop call.body message) xid job e

both : (a b : Bool) → a ≡ true → b ≡ true → a && b ≡ true
both true true h k = refl
both true false h k = k
both false b h k = h

-- what leaves a MAKE open may have a map made for it
open_may_make : (maps : Maps) (peer : Peer) (message : List ℕ) (xid : ℕ) (job : MakeJob) → reply Stream maps peer message ≡ Open xid job
    → may_make Stream peer message ≡ true
open_may_make maps peer message xid job e =
    both (bytes_eq peer.addr own_host) (is_let_to_make (judged (programs_on Stream) message))
    ((bytes_eq-Decides peer.addr own_host).1 (asked_is_local maps peer xid job (open_is_asked Stream maps peer message (judged (programs_on Stream) message) xid job e)))
    (judged_make maps peer message (judged (programs_on Stream) message) xid job e)

-- the whole of a front
pub take_front : (n : ℕ) (xs ys : List ℕ) → n ≡ length xs → take n (xs ++ ys) ≡ xs
take_front n xs ys is = ap (λ (m : ℕ). take m (xs ++ ys)) is ∙ all xs
  where
    all : (zs : List ℕ) → take (length zs) (zs ++ ys) ≡ zs
    all [] = refl
    all (z ∷ zs) = ap (λ (l : List ℕ). z ∷ l) (all zs)

-- a record for which a map may be made came first
pub make_came : (limit len spelled : ℕ) (peer : Peer) (came buf : List ℕ) → limit ≡ record_max → IsRecord limit len spelled came buf
    → may_make Stream peer (take len buf) ≡ true → BeginsWithMake peer came
make_came limit len spelled peer came buf is whole makes = record {
  message = take len buf;
  first = whole.bytes;
  rest = whole.rest;
  fragments = rw is at whole.fragments;
  all = whole.came_is;
  makes = makes;
}

module _ {H : Type 0} (conduct : Conduct H) (peer : Peer) (turn : Turn) where
  -- where no MAKE is left open no map is made
  none_made : (response : Response) (old new : H) → ((xid : ℕ) (job : MakeJob) → response ≡ Open xid job → ⊥)
      → Carries conduct peer response turn old new → turn.made ≡ None
  none_made Silence old new never carried = carried.1
  none_made (Bytes bytes) old new never carried = carried.1
  none_made (Takes bytes taken) old new never carried = carried.1
  none_made (Open xid job) old new never carried = absurd (never xid job refl)

  pub unmade : (old new : H) → Link conduct Stream peer turn old new → may_make Stream peer turn.message ≡ false → turn.made ≡ None
  unmade old new link short =
      let maps = maps_of (conduct.seen link.mid) in
      none_made (reply Stream maps peer turn.message) link.mid new
      (λ xid job e. let no : true ≡ false = sym (open_may_make maps peer turn.message xid job e) ∙ short in cc) link.carried
