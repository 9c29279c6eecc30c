-- What a host did for one record.
use Rattle.std.proofs.Common.{◌≡◌, Bool, true, false, ℕ, List, Option, Some, None, refl, sym, ap, subst}
use Rattle.yp_io.specs.declared.stream.Peer.{Peer}
use Rattle.yp_messages.specs.declared.transfer.XfrStat.{XfrStat}
use Rattle.yp_answer.specs.declared.make.MakeJob.{MakeJob}
use Rattle.yp_answer.specs.declared.procedure.Path.{Path}
use Rattle.yp_answer.specs.Maps.{maps_of}
use Rattle.yp_answer.specs.Transfer.{Taken}
use Rattle.yp_answer.specs.Reply.{Response, Silence, Bytes, Takes, Open, reply, asks, make_reply}
use Rattle.yp_answer.specs.Answers.{StepsWhere}
use Rattle.yp_answer.specs.session.Hosts.{Conduct, Fulfils, Turn, CarriesWhere, Carries, Link}

-- a read step of this host counts nothing
abbrev pub CountsNothing : {H : Type 0} → Conduct H → Type 0
CountsNothing {H} conduct = (old new : H) → conduct.stepped old new → conduct.counts new ≡ conduct.counts old

abbrev pub turn : List ℕ → Option (List ℕ) → Option XfrStat → Option Taken → Bool → Turn
turn message answer made taken flushed = record { message = message; answer = answer; made = made; taken = taken; flushed = flushed }

module _ {H : Type 0} (conduct : Conduct H) (path : Path) (peer : Peer) (message : List ℕ) (flushed : Bool) (law : CountsNothing conduct) where
  -- nor does a step that wasn't taken
  uncounted : (asked : Bool) (old mid : H) → StepsWhere asked conduct.stepped conduct.seen old mid → conduct.counts mid ≡ conduct.counts old
  uncounted true old mid h = law old mid h.0
  uncounted false old mid h = ap conduct.counts h

  linked : (answer : Option (List ℕ)) (made : Option XfrStat) (taken : Option Taken) (response : Response) (old mid new : H) → StepsWhere (asks path message) conduct.stepped conduct.seen old mid
      → reply path (maps_of (conduct.seen mid)) peer message ≡ response → Carries conduct peer response (turn message answer made taken flushed) mid new
      → Link conduct path peer (turn message answer made taken flushed) old new
  linked answer made taken response old mid new step is carried = record {
    mid = mid;
    step = step;
    uncounted = uncounted (asks path message) old mid step;
    carried = let P : Response → Type 0 = λ r. Carries conduct peer r (turn message answer made taken flushed) mid new in subst P (sym is) carried;
  }

  -- silence
  pub link_silent : (old mid : H) → StepsWhere (asks path message) conduct.stepped conduct.seen old mid
      → reply path (maps_of (conduct.seen mid)) peer message ≡ Silence → Link conduct path peer (turn message None None None flushed) old mid
  link_silent old mid step is = linked None None None Silence old mid mid step is (refl, refl, refl, refl)

  -- a reply that goes out at once
  pub link_bytes : (bytes : List ℕ) (old mid : H) → StepsWhere (asks path message) conduct.stepped conduct.seen old mid
      → reply path (maps_of (conduct.seen mid)) peer message ≡ Bytes bytes → Link conduct path peer (turn message (Some bytes) None None flushed) old mid
  link_bytes bytes old mid step is = linked (Some bytes) None None (Bytes bytes) old mid mid step is (refl, refl, refl, refl)

  -- a reply that takes a transfer
  pub link_takes : (bytes : List ℕ) (taken : Taken) (old mid new : H) → StepsWhere (asks path message) conduct.stepped conduct.seen old mid
      → reply path (maps_of (conduct.seen mid)) peer message ≡ Takes bytes taken → CarriesWhere flushed conduct taken peer mid new
      → Link conduct path peer (turn message (Some bytes) None (Some taken) flushed) old new
  link_takes bytes taken old mid new step is carried =
      linked (Some bytes) None (Some taken) (Takes bytes taken) old mid new step is (refl, refl, refl, carried)

  -- a map that is made first
  pub link_open : (xid : ℕ) (job : MakeJob) (stat : XfrStat) (old mid new : H) → StepsWhere (asks path message) conduct.stepped conduct.seen old mid
      → reply path (maps_of (conduct.seen mid)) peer message ≡ Open xid job → Fulfils conduct job stat mid new
      → Link conduct path peer (turn message (Some (make_reply xid stat)) (Some stat) None flushed) old new
  link_open xid job stat old mid new step is made =
      linked (Some (make_reply xid stat)) (Some stat) None (Open xid job) old mid new step is (stat, refl, refl, refl, made)
