-- What was fetched of a source is what it showed throughout.
use Rattle.std.proofs.Common.{◌≡◌, ℕ, ◌<◌, ◌≤◌, ◌^◌, Bool, true, false, cond, List, [], ◌∷◌, length, Some, Ok, refl, sym, ap, ◌∙◌, subst, arith}
use Rattle.yp_io.specs.declared.stream.Peer.{Peer}
use Rattle.yp_messages.specs.Numbers.{name_max}
use Rattle.yp_version.specs.Rows.{Row, listed}
use Rattle.yp_version.specs.Versions.{MapVersion, unmarked}
use Rattle.yp_version.specs.Drafts.{Draft}
use Rattle.yp_version.proofs.Unique.{rising_stays}
use Rattle.yp_map_file.specs.inside.Laws.{ReadIsBody}
use Rattle.yp_board.specs.Catalogues.{Catalogue, Name}
use Rattle.yp_board.specs.Logs.{Log}
use Rattle.yp_board.specs.Views.{IsFront}
use Rattle.yp_publisher.specs.Rising.{IsRisingLog}
use Rattle.yp_answer.specs.declared.procedure.Path.TheVariants.{Stream, Datagram as Mail}
use Rattle.yp_answer.specs.Served.{AreServed, maps_on}
use Rattle.yp_answer.specs.Maps.{map_check}
use Rattle.yp_answer.specs.Reply.{Response, Silence, Bytes, exceeds, reply, reply_at_once}
use Rattle.yp_transfer.specs.Fetching.{Wanted}
use Rattle.yp_transfer.specs.Fetched.{place_of, Fetched}
use Rattle.yp_transfer.specs.walk.Standings.{HasEnded}
use Rattle.yp_transfer.specs.walk.Schedules.{Walking, gone_on, begun, came_of}
use Rattle.yp_end_to_end.specs.inside.transfer.Replies.{GivesFetch}
use Rattle.yp_end_to_end.specs.inside.transfer.Laws.{Fronts, moments_on, FetchedIsShown}
use Rattle.yp_end_to_end.specs.inside.transfer.Shown.{ShownBetween}
use Rattle.yp_end_to_end.specs.walk.Mails.{SourceMail, last_front, GoesBy}
use Rattle.yp_end_to_end.specs.inside.walk.Laws.{WalkedIsShown}
use Rattle.yp_headline.specs.World.{Dialed}
use Rattle.yp_headline.specs.Answering.{answer, map_call}
use Rattle.yp_headline.specs.Publishing.{IsMarked}
use Rattle.yp_headline.specs.Fetching.{SayRows, Hears, Gives}
use Rattle.yp_headline.specs.Sources.{later_calls, Inquiry, Answers, Source}
use Rattle.yp_headline.specs.inside.Files.{streamed, mailed}
use Rattle.yp_headline.proofs.Runs.{front_self}
use Rattle.yp_headline.proofs.Sound.{are_served}
use Rattle.yp_headline.proofs.Walked.{Steps}

at_once : (response : Response) (bytes : List ℕ) → response ≡ Bytes bytes → reply_at_once response ≡ Some bytes
at_once response bytes is = ap reply_at_once is

-- a call that gets bytes isn't too long
in_time : (long : Bool) (response : Response) (bytes : List ℕ) → cond long Silence response ≡ Bytes bytes → response ≡ Bytes bytes
in_time true response bytes is = absurd cc
in_time false response bytes is = is

-- a version that a source showed throughout, which was stored, but for its mark
abbrev pub Throughout : {server : Dialed} {version : MapVersion} (name : Name) (gives : Gives server version) → Source name gives
    → MapVersion → Type 0
Throughout name gives source stored = (origin : MapVersion) × IsMarked origin stored
    × ((front : Log) → IsFront source.first front → IsFront front source.last
    → map_check (maps_on source.catalogue front) name.0 name.1 ≡ Ok origin)

module _ (catalogue : Catalogue) (caller : Peer) (wanted : Wanted) (log : Log) (served : AreServed (maps_on catalogue log)) where
  abbrev its_name : Name
  its_name = (wanted.domain, wanted.map)

  abbrev by_stream : Inquiry
  by_stream = record { catalogue = catalogue; path = Stream; caller = caller }

  abbrev by_mail : Inquiry
  by_mail = record { catalogue = catalogue; path = Mail; caller = caller }

  -- ---- over a stream

  -- the version that was shown
  abbrev Shown : (first last : Log) → MapVersion → Type 0
  Shown first last stored = (origin : MapVersion) × (stored ≡ record origin { secure = stored.secure })
      × ((front : Log) → IsFront first front → IsFront front last
      → map_check (maps_on catalogue front) wanted.domain wanted.map ≡ Ok origin)

  shown_stream : FetchedIsShown → ShownBetween → (rises : IsRisingLog log) → length wanted.domain ≤ name_max
      → length wanted.map ≤ name_max → (first last : Log) → IsFront last log → (came order master : List ℕ) (number : ℕ) (rows : List Row)
      (others : List (List ℕ)) → SayRows Stream 3 number rows others → Hears Stream 1 came (order ∷ master ∷ others)
      → answer Stream (maps_on catalogue first) caller (map_call 10 its_name 1) ≡ Bytes order
      → Answers by_stream (later_calls Stream its_name rows) (master ∷ others) first last
      → (version : MapVersion) → Fetched wanted (place_of 1 0 came) (Ok version) → Shown first last version
  shown_stream fetched between rises domain map first last to_log came order master number rows (all ∷ again ∷ []) says heard on_first
      others version is =
      let second = others.0 in
      let third = others.3.0 in
      let fourth = others.3.3.0 in
      let ends : last ≡ fourth = others.3.3.3 in
      let to_end : IsFront fourth log = subst (λ (l : Log). IsFront l log) ends to_log in
      let fronts : Fronts = record {
        first = first;
        second = second;
        third = third;
        fourth = fourth;
        log = log;
        begins = others.1;
        grows = others.3.1;
        goes_on = others.3.3.1;
        ends = to_end;
        rises = rises;
      } in
      let gives : GivesFetch caller wanted.domain wanted.map (moments_on catalogue fronts) 1 came = record {
        reply = order;
        bytes = heard.0;
        rest = heard.1;
        fragments = heard.3;
        whole = heard.2;
        good = (
          at_once _ order on_first,
          λ there.
              record {
                reply = master;
                bytes = heard.4.0;
                rest = heard.4.1;
                fragments = heard.4.3;
                whole = heard.4.2;
                good = (
                  at_once _ master others.2,
                  λ there.
                      record {
                        reply = all;
                        bytes = heard.4.4.0;
                        rest = heard.4.4.1;
                        fragments = heard.4.4.3;
                        whole = heard.4.4.2;
                        good = (
                          at_once _ all others.3.2,
                          λ there.
                              record {
                                reply = again;
                                bytes = heard.4.4.4.0;
                                rest = heard.4.4.4.1;
                                fragments = heard.4.4.4.3;
                                whole = heard.4.4.4.2;
                                good = (at_once _ again others.3.3.2, tt);
                              },
                        );
                      },
                );
              },
        );
      } in
      let word : 1 < 2 ^ 32 = omega arith in
      let shown = fetched catalogue fronts caller wanted 1 0 came version served word domain map gives is in (
        shown.0,
        shown.2 ∙ ap (λ (b : Bool). record shown.0 { secure = b }) (sym (ap (λ (v : MapVersion). v.secure) shown.2)),
        λ front from to.
            between catalogue first front fourth log wanted.domain wanted.map shown.0 shown.0 rises from
            (subst (λ (l : Log). IsFront front l) ends to) to_end shown.1.first shown.1.fourth refl,
      )
  shown_stream fetched between rises domain map first last to_log came order master number rows _ says heard on_first others version is =
      absurd says

  -- ---- in datagrams

  -- a walk goes by the mails of a source
  record Goes (old new : Walking) (known last : Log) : Type 0 where
    mails : List SourceMail
    goes : GoesBy catalogue caller mails known old new
    ends : last_front known mails ≡ last

  goes_by : (source : Peer) (calls replies : List (List ℕ)) (old : Walking) (known last : Log)
      → Steps source wanted old replies calls → Answers by_mail calls replies known last
      → Goes old (came_of old replies) known last
  goes_by source [] [] old known last steps answers = record { mails = []; goes = refl; ends = sym answers }
  goes_by source (call ∷ calls) (bytes ∷ replies) old known last steps answers =
      let more = goes_by source calls replies (gone_on old bytes) answers.0 last steps.2 answers.3 in
      record {
        mails = record { front = answers.0; mail = bytes } ∷ more.mails;
        goes = (
          steps.0,
          answers.1,
          subst (λ (c : List ℕ). reply Mail (maps_on catalogue answers.0) caller c ≡ Bytes bytes) (sym steps.1)
              (in_time (exceeds Mail (length call)) (reply Mail (maps_on catalogue answers.0) caller call) bytes answers.2),
          more.goes,
        );
        ends = more.ends;
      }
  goes_by source [] (bytes ∷ replies) old known last steps answers = absurd steps
  goes_by source (call ∷ calls) [] old known last steps answers = absurd steps

  first_same : (a b : SourceMail) (more others : List SourceMail) → a ∷ more ≡ b ∷ others → (a ≡ b) × (more ≡ others)
  first_same a b more others is = (cc, cc)

  shown_mails : WalkedIsShown → IsRisingLog log → length wanted.domain ≤ name_max → length wanted.map ≤ name_max
      → (source : Peer) (first last : Log) → IsFront last log → (order master : List ℕ) (rows : List Row) (others : List (List ℕ))
      → Steps source wanted (begun source wanted) (order ∷ master ∷ others) (map_call 10 its_name 1 ∷ later_calls Mail its_name rows)
      → answer Mail (maps_on catalogue first) caller (map_call 10 its_name 1) ≡ Bytes order
      → Answers by_mail (later_calls Mail its_name rows) (master ∷ others) first last
      → (draft : Draft) → (came_of (begun source wanted) (order ∷ master ∷ others)).standing ≡ HasEnded (Ok draft)
      → Shown first last (unmarked draft.order draft.master (listed draft.rows))
  shown_mails walked rises domain map source first last to_log order master rows others steps on_first answers draft ended =
      let more = goes_by source (later_calls Mail its_name rows) (master ∷ others) (gone_on (begun source wanted) order) first last
      steps.2 answers in
      let one : SourceMail = record { front = first; mail = order } in
      let shown = walked catalogue caller source wanted first log (one ∷ more.mails)
      (came_of (begun source wanted) (order ∷ master ∷ others)) draft
      (record { served = served; rises = rises; domain = domain; map = map }) (
        tt,
        front_self first,
        in_time (exceeds Mail (length (map_call 10 its_name 1))) (reply Mail (maps_on catalogue first) caller (map_call 10 its_name 1))
            order on_first,
        more.goes,
      )
      (subst (λ (l : Log). IsFront l log) (sym more.ends) to_log) ended in
      let origin = shown.0 in
      let same = first_same one shown.2.first more.mails shown.2.others shown.2.all in
      let from : shown.2.first.front ≡ first = ap (λ (m : SourceMail). m.front) (sym same.0) in
      let upto : last ≡ last_front shown.2.first.front shown.2.others =
      sym more.ends ∙ ap (λ (ms : List SourceMail). last_front first ms) same.1
      ∙ ap (λ (l : Log). last_front l shown.2.others) (sym from) in (
        origin,
        ap (λ (d : Draft). unmarked d.order d.master (listed d.rows)) shown.3
            ∙ ap (λ (rows : List Row). unmarked origin.order origin.master rows) (rising_stays origin.rows shown.1.rising),
        λ front begins goes.
            shown.2.shown front (subst (λ (l : Log). IsFront l front) (sym from) begins)
            (subst (λ (l : Log). IsFront front l) upto goes),
      )

-- ---- both

pub stream_throughout : ReadIsBody → FetchedIsShown → ShownBetween → (wanted : Wanted) (peer : Peer) (came : List ℕ) (version : MapVersion)
    (gives : Gives (streamed peer came) version) → Fetched wanted (place_of 1 0 came) (Ok version)
    → (source : Source (wanted.domain, wanted.map) gives) → Throughout (wanted.domain, wanted.map) gives source version
stream_throughout read fetched between wanted peer came version gives is source =
    shown_stream source.catalogue source.caller wanted source.log
    (are_served read source.catalogue source.log source.named source.stored) fetched between source.rises source.names.0 source.names.1
    source.first source.last source.to_log came gives.order gives.master version.order gives.rows gives.others gives.says_rows
    gives.heard source.on_first source.others version is

pub mails_throughout : ReadIsBody → WalkedIsShown → (wanted : Wanted) (peer : Peer) (came : List (List ℕ)) (draft : Draft)
    (gives : Gives (mailed peer came) (unmarked draft.order draft.master (listed draft.rows)))
    → Steps peer wanted (begun peer wanted) (gives.order ∷ gives.master ∷ gives.others)
    (map_call 10 (wanted.domain, wanted.map) 1 ∷ later_calls Mail (wanted.domain, wanted.map) gives.rows)
    → (came_of (begun peer wanted) (gives.order ∷ gives.master ∷ gives.others)).standing ≡ HasEnded (Ok draft)
    → (source : Source (wanted.domain, wanted.map) gives)
    → Throughout (wanted.domain, wanted.map) gives source (unmarked draft.order draft.master (listed draft.rows))
mails_throughout read walked wanted peer came draft gives steps ended source =
    shown_mails source.catalogue source.caller wanted source.log
    (are_served read source.catalogue source.log source.named source.stored) walked source.rises source.names.0 source.names.1
    peer source.first source.last source.to_log gives.order gives.master gives.rows gives.others steps source.on_first source.others
    draft ended

-- as it was stored, but for its mark
pub marked_throughout : {server : Dialed} {version : MapVersion} (name : Name) (gives : Gives server version) (stored : MapVersion)
    → IsMarked version stored → (source : Source name gives) → Throughout name gives source version
    → Throughout name gives source stored
marked_throughout name gives stored marked source shown = (
  shown.0,
  marked ∙ ap (λ (v : MapVersion). record v { secure = stored.secure }) shown.1,
  shown.2,
)
