-- What a host knows never goes back in a session, and its catalogue stays.
use Rattle.std.proofs.Common.{◌≡◌, Bool, true, false, ℕ, List, [], ◌∷◌, ◌++◌, sym, ap, ◌∙◌, append_assoc}
use Rattle.std.proofs.lemmas.List.{append-nil}
use Rattle.yp_io.specs.declared.stream.Peer.{Peer}
use Rattle.yp_board.specs.Logs.{Log}
use Rattle.yp_board.specs.Views.{Seen, IsFront}
use Rattle.yp_answer.specs.declared.procedure.Path.TheVariants.{Stream}
use Rattle.yp_answer.specs.Maps.{maps_of}
use Rattle.yp_answer.specs.Transfer.{Taken}
use Rattle.yp_answer.specs.Reply.{Response, Silence, Bytes, Takes, Open, reply, asks}
use Rattle.yp_answer.specs.Answers.{StepsWhere}
use Rattle.yp_answer.specs.declared.session.session.End.{End}
use Rattle.yp_answer.specs.declared.session.session.End.TheVariants.{Clean, Torn, TooLong, ReadFault, WriteFault, Enough}
use Rattle.yp_answer.specs.session.Wires.{Wire}
use Rattle.yp_answer.specs.session.Hosts.{Conduct, Turn, CarriesWhere, Carries, Link}
use Rattle.yp_answer.specs.session.Runs.{Dialogue, Chain, Ends, Runs}

-- the same catalogue, and nothing less is known
pub record Later (old new : Seen) : Type 0 where
  pub grown : IsFront old.known new.known
  pub catalogue : new.catalogue ≡ old.catalogue

pub front_same : (a : Log) → IsFront a a
front_same a = ([], sym (append-nil a))

pub front_then : (a b c : Log) → IsFront a b → IsFront b c → IsFront a c
front_then a b c first second =
    (first.0 ++ second.0, second.1 ∙ ap (λ (l : Log). l ++ second.0) first.1 ∙ append_assoc a first.0 second.0)

later_then : (a b c : Seen) → Later a b → Later b c → Later a c
later_then a b c first second = record {
  grown = front_then a.known b.known c.known first.grown second.grown;
  catalogue = second.catalogue ∙ first.catalogue;
}

module _ {H : Type 0} (conduct : Conduct H) (peer : Peer) where
  same : (old new : H) → new ≡ old → Later (conduct.seen old) (conduct.seen new)
  same old new e = record {
    grown = ([], ap (λ (h : H). (conduct.seen h).known) e ∙ sym (append-nil (conduct.seen old).known));
    catalogue = ap (λ (h : H). (conduct.seen h).catalogue) e;
  }

  stepped : (asked : Bool) (old mid : H) → StepsWhere asked conduct.stepped conduct.seen old mid
      → Later (conduct.seen old) (conduct.seen mid)
  stepped true old mid h = record { grown = h.1.grown; catalogue = h.1.catalogue }
  stepped false old mid h = same old mid h

  transferred : (flushed : Bool) (taken : Taken) (mid new : H) → CarriesWhere flushed conduct taken peer mid new
      → Later (conduct.seen mid) (conduct.seen new)
  transferred true taken mid new h = record { grown = h.grown; catalogue = h.catalogue }
  transferred false taken mid new h = same mid new h

  carried : (response : Response) (turn : Turn) (mid new : H) → Carries conduct peer response turn mid new
      → Later (conduct.seen mid) (conduct.seen new)
  carried Silence turn mid new h = same mid new h.3
  carried (Bytes bytes) turn mid new h = same mid new h.3
  carried (Takes bytes taken) turn mid new h = transferred turn.flushed taken mid new h.3
  carried (Open xid job) turn mid new h = record { grown = h.4.grown; catalogue = h.4.catalogue }

  linked : (turn : Turn) (old new : H) → Link conduct Stream peer turn old new
      → Later (conduct.seen old) (conduct.seen new)
  linked turn old new link =
      later_then (conduct.seen old) (conduct.seen link.mid) (conduct.seen new)
      (stepped (asks Stream turn.message) old link.mid link.step)
      (carried (reply Stream (maps_of (conduct.seen link.mid)) peer turn.message) turn link.mid new link.carried)

  chained : (answered : List (Turn × Dialogue H)) (old new : Dialogue H) → Chain conduct peer answered old new
      → Later (conduct.seen old.host) (conduct.seen new.host)
  chained [] old new chain = same old.host new.host (ap (λ (d : Dialogue H). d.host) chain)
  chained (one ∷ answered) old new chain =
      later_then (conduct.seen old.host) (conduct.seen one.1.host) (conduct.seen new.host)
      (linked one.0 old.host one.1.host chain.0.replied.link) (chained answered one.1 new chain.1)

  ended : (most count : ℕ) (end : End) (last new : Dialogue H) → Ends conduct peer most count end last new
      → Later (conduct.seen last.host) (conduct.seen new.host)
  ended most count Clean last new ends = same last.host new.host ends.1.1.host
  ended most count (Torn at) last new ends = same last.host new.host ends.1.1.host
  ended most count (TooLong at) last new ends = same last.host new.host ends.1.1.host
  ended most count ReadFault last new ends = same last.host new.host ends.1.1.host
  ended most count WriteFault last new ends = linked ends.1.0 last.host new.host ends.1.1.replied.link
  ended most count Enough last new ends = same last.host new.host (ap (λ (d : Dialogue H). d.host) ends.1)

  -- of a whole session
  pub later : (most : ℕ) (end : End) (old new : Dialogue H) (wires : List Wire)
      → Runs conduct peer most end old new wires → Later (conduct.seen old.host) (conduct.seen new.host)
  later most end old new wires runs =
      later_then (conduct.seen old.host) (conduct.seen runs.last.host) (conduct.seen new.host)
      (chained runs.answered old runs.last runs.chain) (ended most _ end runs.last new runs.ends)
