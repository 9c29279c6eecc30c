-- A run on logs alone, from the run of a host.
use Rattle.std.proofs.Common.{◌≡◌, ℕ, Bool, true, false, List, [], ◌∷◌, ◌++◌, map, refl, sym, ap, subst, ◌∙◌}
use Rattle.std.proofs.lemmas.List.{append-nil}
use Rattle.yp_io.specs.declared.stream.Peer.{Peer}
use Rattle.yp_board.specs.Catalogues.{Catalogue}
use Rattle.yp_board.specs.Logs.{Log}
use Rattle.yp_board.specs.Views.{Seen, IsFront}
use Rattle.yp_answer.specs.declared.procedure.Path.{Path}
use Rattle.yp_answer.specs.declared.procedure.Path.TheVariants.{Stream}
use Rattle.yp_answer.specs.Maps.{maps_of}
use Rattle.yp_answer.specs.Transfer.{Taken}
use Rattle.yp_answer.specs.Reply.{Response, Silence, Bytes, Takes, Open, reply, asks}
use Rattle.yp_answer.specs.Answers.{StepsWhere}
use Rattle.yp_answer.specs.declared.session.session.End.{End}
use Rattle.yp_answer.specs.declared.session.session.End.TheVariants.{Clean, Torn, TooLong, ReadFault, WriteFault, Enough}
use Rattle.yp_answer.specs.session.Hosts.{Conduct, Turn, CarriesWhere, Carries, Link}
use Rattle.yp_answer.specs.session.LogRuns.{Gets, IsAnsweredOn, LogRun}
use Rattle.yp_answer.specs.session.Runs.{Dialogue, Chain, Ends, unsent}

-- a log is a front of itself
front_same : (log other : Log) → other ≡ log → IsFront log other
front_same log other e = ([], e ∙ sym (append-nil log))

-- what is known later, of the same catalogue
pub record Later (old new : Seen) : Type 0 where
  pub grown : IsFront old.known new.known
  pub catalogue : new.catalogue ≡ old.catalogue

module _ {H : Type 0} (conduct : Conduct H) (path : Path) (peer : Peer) where
  same : (old new : H) → new ≡ old → Later (conduct.seen old) (conduct.seen new)
  same old new e = record {
    grown = front_same (conduct.seen old).known (conduct.seen new).known (ap (λ (h : H). (conduct.seen h).known) e);
    catalogue = ap (λ (h : H). (conduct.seen h).catalogue) e;
  }

  stepped : (asked : Bool) (old mid : H) → StepsWhere asked conduct.stepped conduct.seen old mid → Later (conduct.seen old) (conduct.seen mid)
  stepped true old mid h = record { grown = h.1.grown; catalogue = h.1.catalogue }
  stepped false old mid h = same old mid h

  transferred : (flushed : Bool) (taken : Taken) (mid new : H) → CarriesWhere flushed conduct taken peer mid new → Later (conduct.seen mid) (conduct.seen new)
  transferred true taken mid new h = record { grown = h.grown; catalogue = h.catalogue }
  transferred false taken mid new h = same mid new h

  carried : (response : Response) (turn : Turn) (mid new : H) → Carries conduct peer response turn mid new → Later (conduct.seen mid) (conduct.seen new)
  carried Silence turn mid new h = same mid new h.3
  carried (Bytes bytes) turn mid new h = same mid new h.3
  carried (Takes bytes taken) turn mid new h = transferred turn.flushed taken mid new h.3
  carried (Open xid job) turn mid new h = record { grown = h.4.grown; catalogue = h.4.catalogue }

  gets : (response : Response) (turn : Turn) (mid new : H) → Carries conduct peer response turn mid new
      → Gets (conduct.seen mid).catalogue response turn.answer (conduct.seen mid).known (conduct.seen new).known
  gets Silence turn mid new h = h.0
  gets (Bytes bytes) turn mid new h = h.0
  gets (Takes bytes taken) turn mid new h = h.0
  gets (Open xid job) turn mid new h = (h.0, h.1, conduct.told mid, h.4.cause)

  linked : (catalogue : Catalogue) (turn : Turn) (old new : H) → Link conduct path peer turn old new → (conduct.seen old).catalogue ≡ catalogue
      → IsAnsweredOn catalogue path peer turn (conduct.seen old).known (conduct.seen new).known × ((conduct.seen new).catalogue ≡ catalogue)
  linked catalogue turn old new link is =
      let mid = link.mid in
      let response = reply path (maps_of (conduct.seen mid)) peer turn.message in
      let first = stepped (asks path turn.message) old mid link.step in
      let second = carried response turn mid new link.carried in
      let same_catalogue : (conduct.seen mid).catalogue ≡ catalogue = first.catalogue ∙ is in (
        record {
          log = (conduct.seen mid).known;
          begins = first.grown;
          goes_on = second.grown;
          gets =
              let P : Catalogue → Type 0 = λ c. Gets c (reply path (record { catalogue = c; log = (conduct.seen mid).known }) peer turn.message) turn.answer
              (conduct.seen mid).known (conduct.seen new).known in
              subst P same_catalogue (gets response turn mid new link.carried);
        },
        second.catalogue ∙ same_catalogue,
      )

module _ {H : Type 0} (conduct : Conduct H) (peer : Peer) (catalogue : Catalogue) where
  pub chain_logs : (answered : List (Turn × Dialogue H)) (rest : List Turn) (old last : Dialogue H) (final : Log) → Chain conduct peer answered old last
      → (conduct.seen old.host).catalogue ≡ catalogue
      → ((conduct.seen last.host).catalogue ≡ catalogue → LogRun catalogue Stream peer rest (conduct.seen last.host).known final)
      → LogRun catalogue Stream peer (map (λ one. one.0) answered ++ rest) (conduct.seen old.host).known final
  chain_logs [] rest old last final chain is later =
      let seen = ap (λ (d : Dialogue H). conduct.seen d.host) chain in
      let P : Log → Type 0 = λ log. LogRun catalogue Stream peer rest log final in
      subst P (ap (λ (s : Seen). s.known) seen) (later (ap (λ (s : Seen). s.catalogue) seen ∙ is))
  chain_logs (one ∷ answered) rest old last final chain is later =
      let first = linked conduct Stream peer catalogue one.0 old.host one.1.host chain.0.replied.link is in
      ((conduct.seen one.1.host).known, first.0, chain_logs answered rest one.1 last final chain.1 first.1 later)

  stays : (old new : H) → new ≡ old → (conduct.seen new).known ≡ (conduct.seen old).known
  stays old new e = ap (λ (h : H). (conduct.seen h).known) e

  pub ends_logs : (most count : ℕ) (end : End) (last new : Dialogue H) (ends : Ends conduct peer most count end last new)
      → (conduct.seen last.host).catalogue ≡ catalogue
      → LogRun catalogue Stream peer (unsent conduct peer most count end last new ends) (conduct.seen last.host).known (conduct.seen new.host).known
  ends_logs most count Clean last new ends is = stays last.host new.host ends.1.1.host
  ends_logs most count (Torn at) last new ends is = stays last.host new.host ends.1.1.host
  ends_logs most count (TooLong at) last new ends is = stays last.host new.host ends.1.1.host
  ends_logs most count ReadFault last new ends is = stays last.host new.host ends.1.1.host
  ends_logs most count WriteFault last new ends is =
      ((conduct.seen new.host).known, (linked conduct Stream peer catalogue ends.1.0 last.host new.host ends.1.1.replied.link is).0, refl)
  ends_logs most count Enough last new ends is = stays last.host new.host (ap (λ (d : Dialogue H). d.host) ends.1)
