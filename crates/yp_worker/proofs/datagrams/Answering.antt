-- What a host did for a datagram, before its reply.
use Rattle.std.proofs.Common.{◌≡◌, ◌<◌, zero, suc, take, Bool, true, false, ℕ, List, [], ◌++◌, Option, Some, None, refl, sym, ap, subst, ◌∙◌, append_assoc, arith}
use Rattle.std.proofs.lemmas.List.{append-nil}
use Rattle.yp_io.specs.declared.stream.Peer.{Peer}
use Rattle.yp_messages.specs.declared.transfer.XfrStat.{XfrStat}
use Rattle.yp_board.specs.Logs.{Log}
use Rattle.yp_board.specs.Views.{Seen, IsFront}
use Rattle.yp_answer.specs.declared.make.MakeJob.{MakeJob}
use Rattle.yp_answer.specs.declared.procedure.Path.TheVariants.{Datagram}
use Rattle.yp_answer.specs.Maps.{maps_of}
use Rattle.yp_answer.specs.Transfer.{Taken}
use Rattle.yp_answer.specs.Reply.{Response, Silence, Bytes, Takes, Open, reply, asks, make_reply}
use Rattle.yp_answer.specs.Answers.{StepsWhere}
use Rattle.yp_answer.specs.session.Hosts.{Counts, Conduct, Fulfils, Turn, CarriesWhere, Carries, Link, counts_where, counts_behind}
use Rattle.yp_rpc.specs.inside.Turns.{reply_of}
use Rattle.yp_worker.specs.datagrams.Mailing.{AnswersMail}

-- a reply of some bytes at the front of a buffer
pub reply_is : (len : ℕ) (buf : List ℕ) → 0 < len → reply_of len buf ≡ Some (take len buf)
reply_is zero buf some = absurd (omega (arith, some))
reply_is (suc len) buf some = refl

-- the same catalogue, and nothing less is known
pub record Later (old new : Seen) : Type 0 where
  pub grown : IsFront old.known new.known
  pub catalogue : new.catalogue ≡ old.catalogue

pub later_then : (a b c : Seen) → Later a b → Later b c → Later a c
later_then a b c first second = record {
  grown = (
    first.grown.0 ++ second.grown.0,
    second.grown.1 ∙ ap (λ (l : Log). l ++ second.grown.0) first.grown.1 ∙ append_assoc a.known first.grown.0 second.grown.0,
  );
  catalogue = second.catalogue ∙ first.catalogue;
}

-- nothing happened
module _ {H : Type 0} (conduct : Conduct H) where
  pub same : (old new : H) → new ≡ old → Later (conduct.seen old) (conduct.seen new)
  same old new e = record {
    grown = ([], ap (λ (h : H). (conduct.seen h).known) e ∙ sym (append-nil (conduct.seen old).known));
    catalogue = ap (λ (h : H). (conduct.seen h).catalogue) e;
  }

-- a read step of this host counts nothing
abbrev pub CountsNothing : {H : Type 0} → Conduct H → Type 0
CountsNothing {H} conduct = (old new : H) → conduct.stepped old new → conduct.counts new ≡ conduct.counts old

abbrev pub turn_of : List ℕ → Option (List ℕ) → Option XfrStat → Option Taken → Turn
turn_of message answer made taken = record { message = message; answer = answer; made = made; taken = taken; flushed = false }

module _ {H : Type 0} (conduct : Conduct H) (peer : Peer) where
  stepped : (asked : Bool) (old mid : H) → StepsWhere asked conduct.stepped conduct.seen old mid
      → Later (conduct.seen old) (conduct.seen mid)
  stepped true old mid h = record { grown = h.1.grown; catalogue = h.1.catalogue }
  stepped false old mid h = same conduct old mid h

  transferred : (flushed : Bool) (taken : Taken) (mid new : H) → CarriesWhere flushed conduct taken peer mid new
      → Later (conduct.seen mid) (conduct.seen new)
  transferred true taken mid new h = record { grown = h.grown; catalogue = h.catalogue }
  transferred false taken mid new h = same conduct mid new h

  carried : (response : Response) (turn : Turn) (mid new : H) → Carries conduct peer response turn mid new
      → Later (conduct.seen mid) (conduct.seen new)
  carried Silence turn mid new h = same conduct mid new h.3
  carried (Bytes bytes) turn mid new h = same conduct mid new h.3
  carried (Takes bytes taken) turn mid new h = transferred turn.flushed taken mid new h.3
  carried (Open xid job) turn mid new h = record { grown = h.4.grown; catalogue = h.4.catalogue }

  where_counts : (flushed : Bool) (taken : Taken) (old new : H) → CarriesWhere flushed conduct taken peer old new
      → conduct.counts new ≡ counts_where flushed (conduct.counts old)
  where_counts true taken old new h = h.counted
  where_counts false taken old new h = ap conduct.counts h

  carried_counts : (response : Response) (turn : Turn) (old new : H) → Carries conduct peer response turn old new
      → conduct.counts new ≡ counts_behind (conduct.counts old) turn
  carried_counts Silence turn old new h = rw (h.1, h.2) (ap conduct.counts h.3)
  carried_counts (Bytes bytes) turn old new h = rw (h.1, h.2) (ap conduct.counts h.3)
  carried_counts (Takes bytes taken) turn old new h = rw (h.1, h.2) (where_counts turn.flushed taken old new h.3)
  carried_counts (Open xid job) turn old new h = rw (h.2, h.3) h.4.counted

  -- a datagram's turn, from its link
  pub answered : (turn : Turn) (old new : H) → turn.flushed ≡ false → Link conduct Datagram peer turn old new
      → AnswersMail conduct peer turn old new
  answered turn old new is link =
      let response = reply Datagram (maps_of (conduct.seen link.mid)) peer turn.message in
      let went = later_then (conduct.seen old) (conduct.seen link.mid) (conduct.seen new)
      (stepped (asks Datagram turn.message) old link.mid link.step) (carried response turn link.mid new link.carried) in
      record {
        link = link;
        unflushed = is;
        grown = went.grown;
        catalogue = went.catalogue;
        counts = carried_counts response turn link.mid new link.carried
            ∙ ap (λ (counts : Counts). counts_behind counts turn) link.uncounted;
      }

  -- ---- before the reply

  module _ (message : List ℕ) (law : CountsNothing conduct) where
    uncounted_step : (asked : Bool) (old mid : H) → StepsWhere asked conduct.stepped conduct.seen old mid
        → conduct.counts mid ≡ conduct.counts old
    uncounted_step true old mid h = law old mid h.0
    uncounted_step false old mid h = ap conduct.counts h

    linked : (answer : Option (List ℕ)) (made : Option XfrStat) (taken : Option Taken) (response : Response) (old mid new : H)
        → StepsWhere (asks Datagram message) conduct.stepped conduct.seen old mid
        → reply Datagram (maps_of (conduct.seen mid)) peer message ≡ response
        → Carries conduct peer response (turn_of message answer made taken) mid new
        → Link conduct Datagram peer (turn_of message answer made taken) old new
    linked answer made taken response old mid new step is carries = record {
      mid = mid;
      step = step;
      uncounted = uncounted_step (asks Datagram message) old mid step;
      carried = let P : Response → Type 0 = λ r. Carries conduct peer r (turn_of message answer made taken) mid new in subst P (sym is) carries;
    }

    pub link_silent : (old mid : H) → StepsWhere (asks Datagram message) conduct.stepped conduct.seen old mid
        → reply Datagram (maps_of (conduct.seen mid)) peer message ≡ Silence
        → Link conduct Datagram peer (turn_of message None None None) old mid
    link_silent old mid step is = linked None None None Silence old mid mid step is (refl, refl, refl, refl)

    pub link_bytes : (bytes : List ℕ) (old mid : H) → StepsWhere (asks Datagram message) conduct.stepped conduct.seen old mid
        → reply Datagram (maps_of (conduct.seen mid)) peer message ≡ Bytes bytes
        → Link conduct Datagram peer (turn_of message (Some bytes) None None) old mid
    link_bytes bytes old mid step is = linked (Some bytes) None None (Bytes bytes) old mid mid step is (refl, refl, refl, refl)

    pub link_takes : (bytes : List ℕ) (taken : Taken) (old mid : H) → StepsWhere (asks Datagram message) conduct.stepped conduct.seen old mid
        → reply Datagram (maps_of (conduct.seen mid)) peer message ≡ Takes bytes taken
        → Link conduct Datagram peer (turn_of message (Some bytes) None (Some taken)) old mid
    link_takes bytes taken old mid step is =
        linked (Some bytes) None (Some taken) (Takes bytes taken) old mid mid step is (refl, refl, refl, refl)

    pub link_open : (xid : ℕ) (job : MakeJob) (stat : XfrStat) (old mid new : H) → StepsWhere (asks Datagram message) conduct.stepped conduct.seen old mid
        → reply Datagram (maps_of (conduct.seen mid)) peer message ≡ Open xid job → Fulfils conduct job stat mid new
        → Link conduct Datagram peer (turn_of message (Some (make_reply xid stat)) (Some stat) None) old new
    link_open xid job stat old mid new step is made =
        linked (Some (make_reply xid stat)) (Some stat) None (Open xid job) old mid new step is (stat, refl, refl, refl, made)
