-- What `once` serves is a connection on one version.
use Rattle.std.proofs.Common.{◌≡◌, ◌≢◌, ℕ, Bool, true, false, List, [], ◌∷◌, ◌++◌, Some, refl, sym, ap, ◌∙◌, subst, arith, map, cond, ◌==◌}
use Rattle.std.specs.Prelude.{IfSome}
use Rattle.yp_io.specs.declared.stream.Peer.{Peer}
use Rattle.yp_version.specs.Versions.{MapVersion}
use Rattle.std.specs.List.Sorted.{IsStrictlyIncreasing}
use Rattle.yp_board.specs.Logs.{Log}
use Rattle.yp_board.specs.Views.{Seen}
use Rattle.yp_answer.specs.declared.procedure.Path.TheVariants.{Stream}
use Rattle.yp_answer.specs.Answers.{StepsWhere}
use Rattle.yp_answer.specs.Maps.{Maps, maps_of}
use Rattle.yp_answer.specs.Reply.{Response, Silence, Bytes, Takes, Open, reply, asks}
use Rattle.yp_answer.specs.Transfer.{Taken}
use Rattle.yp_answer.specs.declared.session.session.End.{End}
use Rattle.yp_answer.specs.declared.session.session.End.TheVariants as ends
use Rattle.yp_answer.specs.declared.session.session.TheConstants.{CALLS_MAX}
use Rattle.yp_answer.specs.session.Progress.{begun}
use Rattle.yp_answer.specs.session.Hosts.{Turn, Link, Carries, CarriesWhere}
use Rattle.yp_answer.specs.session.Wires.{Wire}
use Rattle.yp_answer.specs.session.Runs.{Dialogue, dialogue_at, Chain, Ends}
use Rattle.yp_command.specs.Words.{nobody}
use Rattle.yp_command.specs.declared.office.status.Status.{Status}
use Rattle.yp_command.specs.declared.office.status.Status.TheVariants as status
use Rattle.yp_command.specs.office.Seeing.{Seeing}
use Rattle.yp_command_serve.specs.Served.{Traffic, ServesInput, Fixed, fixed, fixed_conduct, RecordsAreAnswered, IsWatched, status_of, wire, traffic_of}
use Rattle.yp_command_serve.specs.Once.{once_maps, once_board, once_version}
use Rattle.yp_headline.specs.Serving.{IsServed}
use Rattle.yp_headline.specs.inside.Files.{is_cut}
use Rattle.yp_headline.specs.inside.Worlds.{cuts_short}
use Rattle.yp_headline.specs.inside.Laws.{OnceReplies}
use Rattle.yp_headline.proofs.Runs.{front_self, run_served}

-- ---- a board that stays

stepped_known : (asks : Bool) (old mid : Fixed) → StepsWhere asks (fixed_conduct).stepped (fixed_conduct).seen old mid
    → mid.board.known ≡ old.board.known
stepped_known true old mid step = ap (λ (h : Fixed). h.board.known) step.0
stepped_known false old mid step = ap (λ (h : Fixed). h.board.known) step

where_known : (flushed : Bool) (taken : Taken) (peer : Peer) (old new : Fixed)
    → CarriesWhere flushed fixed_conduct taken peer old new → new.board.known ≡ old.board.known
where_known true taken peer old new carries = ap (λ (h : Fixed). h.board.known) carries.carried
where_known false taken peer old new carries = ap (λ (h : Fixed). h.board.known) carries

carried_known : (peer : Peer) (response : Response) (turn : Turn) (old new : Fixed)
    → Carries fixed_conduct peer response turn old new → new.board.known ≡ old.board.known
carried_known peer Silence turn old new carries = ap (λ (h : Fixed). h.board.known) carries.3
carried_known peer (Bytes bytes) turn old new carries = ap (λ (h : Fixed). h.board.known) carries.3
carried_known peer (Takes bytes taken) turn old new carries = where_known turn.flushed taken peer old new carries.3
carried_known peer (Open xid job) turn old new carries = ap (λ (h : Fixed). h.board.known) carries.4.made.1

linked_known : (turn : Turn) (old new : Fixed) → Link fixed_conduct Stream nobody turn old new
    → new.board.known ≡ old.board.known
linked_known turn old new link =
    carried_known nobody (reply Stream (maps_of link.mid.board) nobody turn.message) turn link.mid new link.carried
    ∙ stepped_known (asks Stream turn.message) old link.mid link.step

chain_known : (answered : List (Turn × Dialogue Fixed)) (old new : Dialogue Fixed)
    → Chain fixed_conduct nobody answered old new → new.host.board.known ≡ old.host.board.known
chain_known [] old new chain = ap (λ (d : Dialogue Fixed). d.host.board.known) chain
chain_known (one ∷ answered) old new chain =
    chain_known answered one.1 new chain.1 ∙ linked_known one.0 old.host one.1.host chain.0.replied.link

ends_known : (most count : ℕ) (end : End) (last new : Dialogue Fixed)
    → Ends fixed_conduct nobody most count end last new → new.host.board.known ≡ last.host.board.known
ends_known most count ends.Clean last new end = ap (λ (h : Fixed). h.board.known) end.1.1.host
ends_known most count (ends.Torn at) last new end = ap (λ (h : Fixed). h.board.known) end.1.1.host
ends_known most count (ends.TooLong at) last new end = ap (λ (h : Fixed). h.board.known) end.1.1.host
ends_known most count ends.ReadFault last new end = ap (λ (h : Fixed). h.board.known) end.1.1.host
ends_known most count ends.WriteFault last new end =
    linked_known end.1.0 last.host new.host end.1.1.replied.link
ends_known most count ends.Enough last new end = ap (λ (d : Dialogue Fixed). d.host.board.known) end.1

-- ---- what was watched

-- the status of a connection that was served
cut_is : (end : End) → is_cut end ≡ cuts_short (status_of end)
cut_is ends.Clean = refl
cut_is (ends.Torn at) = refl
cut_is (ends.TooLong at) = refl
cut_is ends.ReadFault = refl
cut_is ends.WriteFault = refl
cut_is ends.Enough = refl

watched : (maps : Maps) (stream : List ℕ) (traffic : Traffic) (board : Seen) (s : Status) (old new : Wire) (wires : List Wire)
    → s ≢ status.NoMemory → ServesInput maps s stream traffic → IsWatched board s old new wires
    → RecordsAreAnswered board s old new wires
watched maps stream traffic board status.NoMemory old new wires some serves is = absurd (some refl)
watched maps stream traffic board (status.Rows row rule) old new wires some serves is = absurd serves
watched maps stream traffic board _ old new wires some serves is = is

-- a log of one version rises
one_rises : (b : Bool) (version : MapVersion) → IsStrictlyIncreasing (map (λ (entry : ℕ × MapVersion). entry.1.order) (cond b ((0, version) ∷ []) []))
one_rises true version = λ k within. absurd (omega (arith, within))
one_rises false version = λ k within. absurd (omega (arith, within))

module _ {S K D C A I T : Type 0} (seen : Seeing S K D C A I T) where
  pub once_replies : OnceReplies seen
  once_replies store rows s old new does unrefused some came taken sent input_is output_is sent_is =
      let board = once_board store rows in
      let log = (once_maps store rows).log in
      let serves = subst (λ o. IfSome o (λ stream. ServesInput (once_maps store rows) s stream (traffic_of seen old.reached new.reached)))
      input_is (does.serves unrefused) in
      let is = watched (once_maps store rows) came (traffic_of seen old.reached new.reached) board s (wire seen old.reached) (wire seen new.reached)
      does.watched.more some serves does.watched.done in
      let start = dialogue_at (fixed board) (wire seen old.reached) begun in
      let finish = dialogue_at is.finish (wire seen new.reached) is.progress in
      let same : is.finish.board.known ≡ log = ends_known CALLS_MAX _ is.end is.runs.last finish is.runs.ends
      ∙ chain_known is.runs.answered start is.runs.last is.runs.chain in
      let served = run_served fixed_conduct nobody CALLS_MAX start finish does.watched.more came taken sent input_is output_is
      sent_is is.end is.runs log (subst (λ (l : Log). (more : Log) × (log ≡ l ++ more)) (sym same) (front_self log)) in
      record {
        published = record {
          first = Some (once_version rows) ∷ [];
          stored = (refl, tt);
          begun_is = refl;
          more = [];
          all = refl;
          new = tt;
        };
        rises = λ number. one_rises (0 == number) (once_version rows);
        connections = (
          subst (λ (c : Bool). IsServed board.catalogue log log
              (record { peer = nobody; came = came; sent = sent; cut = c }))
              (cut_is is.end ∙ ap cuts_short (sym is.told)) served,
          tt,
        );
        datagrams = tt;
      }
