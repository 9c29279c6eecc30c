-- Worlds of one MATCH: a right one, and wrong ones.
use Rattle.std.proofs.Common.{◌≡◌, ℕ, Bool, true, false, cond, List, [], ◌∷◌, ◌++◌, length, map, Option, Some, None, refl, sym, ap, ◌∙◌, subst, arith, inl, inr, ⊎_elim, append_assoc}
use Rattle.std.specs.Prelude.{slice_index, fold, ◌==◌}
use Rattle.std.specs.List.{AllZip}
use Rattle.std.specs.List.Sorted.{IsStrictlyIncreasing}
use Rattle.std.proofs.lemmas.List.{append-nil, append_cancel_left}
use Rattle.std.proofs.lemmas.List.Elements.{All-nil, All-cons}
use Rattle.std.proofs.lemmas.Bool.Decides.{eqb_tells}
use Rattle.yp_io.specs.declared.stream.Peer.{Peer}
use Rattle.yp_xdr.specs.Reading.{word_at, content_at, opaque_at}
use Rattle.yp_xdr.specs.Spelling.{fixed, opaque}
use Rattle.yp_rpc.specs.Records.{Fragments, IsShort, sent, sent_within}
use Rattle.yp_rpc.specs.inside.Laws.{CutIsOne}
use Rattle.yp_rpc.specs.Reply.{reply_head}
use Rattle.yp_rpc.specs.declared.reply.ReplyHead.TheVariants.{Success}
use Rattle.yp_version.specs.Versions.{MapVersion}
use Rattle.yp_board.specs.Catalogues.{Catalogue}
use Rattle.yp_board.specs.Logs.{Log, shown, starts}
use Rattle.yp_board.specs.Views.{IsFront}
use Rattle.yp_publisher.specs.Grown.{AreMade}
use Rattle.yp_texts.specs.After.{other_master}
use Rattle.yp_answer.specs.declared.procedure.Path.TheVariants.{Stream}
use Rattle.yp_answer.specs.Numbers.{record_max}
use Rattle.yp_answer.specs.Served.{maps_on}
use Rattle.yp_answer.specs.session.Runs.{sent_reply}
use Rattle.yp_answer.specs.Reply.{Response, Bytes, reply}
use Rattle.yp_headline.specs.inside.Tried.{somebody, IsWrong, version_with, match_call, match_reply, one_map, one_match, first_log}
use Rattle.yp_headline.specs.World.{World, Connection, Store, Given, Dialed}
use Rattle.yp_headline.specs.Publishing.{IsAmong, IsNew, StoreHas, IsPublishedLog}
use Rattle.yp_headline.specs.Serving.{Exchange, IsReply, AnswersInTurn}
use Rattle.yp_headline.specs.Headline.{Replies}
use Rattle.yp_headline.proofs.Runs.{front_self, sent_over}
use Rattle.yp_headline.proofs.Wrong.{whole_is, replied}
use Rattle.yp_headline.proofs.Torn.{no_server}

-- ---- the call

answer_on : (log : Log) (peer : Peer) → shown 0 log ≡ Some (version_with 7 118)
    → reply Stream (maps_on one_map log) peer match_call ≡ Bytes (match_reply 118)
unfolding word_at content_at opaque_at fixed opaque
answer_on log peer is = rw is refl

pub match_record : Fragments record_max match_call (sent match_call)
unfolding sent_within
match_record = record {
  pieces = [];
  last = match_call;
  whole = refl;
  spelled = refl;
  within = record { len = omega arith; empty = omega arith; short = All-cons IsShort match_call [] (omega arith) (All-nil IsShort) };
}

-- ---- a right one

one_rises : (b : Bool) → IsStrictlyIncreasing (map (λ (entry : ℕ × MapVersion). entry.1.order) (cond b first_log []))
one_rises true = λ k within. absurd (omega (arith, within))
one_rises false = λ k within. absurd (omega (arith, within))

pub first_match : Replies (one_match (sent (match_reply 118))) first_log first_log
first_match = record {
  published = record { first = Some (version_with 7 118) ∷ []; stored = (refl, tt); begun_is = refl; more = []; all = refl; new = tt };
  rises = λ number. one_rises (0 == number);
  connections = (
    record {
      exchanges = record { caller = somebody; call = match_call; reply = Some (match_reply 118) } ∷ [];
      callers = (refl, tt);
      rest = [];
      came = (sent match_call, [], match_record, sym (append-nil (sent match_call)), refl);
      answered = (
        first_log,
        first_log,
        front_self first_log,
        front_self first_log,
        subst (λ (r : Response). IsReply r (Some (match_reply 118)) first_log first_log)
            (sym (answer_on first_log somebody refl)) refl,
        front_self first_log,
      );
      unsent = [];
      sent = refl;
      whole = λ uncut. (inl refl, refl);
    },
    tt,
  );
  datagrams = tt;
}

-- ---- what such a server shows

shown_push : (log : Log) (number : ℕ) (version : MapVersion) (so_far : Option MapVersion)
    → fold (λ so_far entry. cond (entry.0 == 0) (Some entry.1) so_far) so_far (log ++ (number, version) ∷ [])
    ≡ cond (number == 0) (Some version) (fold (λ so_far entry. cond (entry.0 == 0) (Some entry.1) so_far) so_far log)
shown_push [] number version so_far = refl
shown_push (entry ∷ log) number version so_far =
    shown_push log number version (cond (entry.0 == 0) (Some entry.1) so_far)

pub never_new : (world : World) → world.catalogue ≡ one_map → world.dialed ≡ [] → (log : Log) (version : MapVersion)
    → shown 0 log ≡ Some (version_with 7 118) → IsNew world 0 log version → ⊥
never_new world catalogue dialed log version is new = ⊎_elim
    (λ built.
    let of_own : other_master (110 ∷ []) (Some (version_with 7 118)) ≡ None =
    subst (λ (o : Option MapVersion). other_master (110 ∷ []) o ≡ None) is
    (subst (λ (c : Catalogue). other_master c.own (shown 0 log) ≡ None) catalogue built.of_own) in cc)
    (λ fetched. no_server fetched.server (subst (λ (l : List Dialed). IsAmong l fetched.server) dialed fetched.among)) new

pub stays : (world : World) → world.catalogue ≡ one_map → world.dialed ≡ [] → (log more others : Log)
    → shown 0 log ≡ Some (version_with 7 118) → AreMade (IsNew world) log (more ++ others)
    → shown 0 (log ++ more) ≡ Some (version_with 7 118)
stays world catalogue dialed log [] others is made = ap (shown 0) (append-nil log) ∙ is
stays world catalogue dialed log (entry ∷ more) others is made =
    let next = log ++ entry ∷ [] in
    let shows : shown 0 next ≡ Some (version_with 7 118) =
    elim (eqb_tells entry.0 0) [
      | inl same ↦ absurd (never_new world catalogue dialed log entry.1 is
          (subst (λ (n : ℕ). IsNew world n log entry.1) same.1 made.0))
      | inr differ ↦ shown_push log entry.0 entry.1 None
          ∙ ap (λ (b : Bool). cond b (Some entry.1) (shown 0 log)) differ.0 ∙ is
    ] in
    ap (shown 0) (sym (append_assoc log (entry ∷ []) more)) ∙ stays world catalogue dialed next more others shows made.1

pub only_first : (version : MapVersion) (first : List (Option MapVersion)) → AllZip StoreHas (Given version ∷ []) first
    → first ≡ Some version ∷ []
only_first version [] stored = absurd stored
only_first version (one ∷ []) stored = ap (λ (o : Option MapVersion). o ∷ []) stored.0
only_first version (one ∷ two ∷ more) stored = absurd stored.1

-- what it shows on each front of its log
module _ (world : World) (catalogue : world.catalogue ≡ one_map) (dialed : world.dialed ≡ [])
    (stores : world.stores ≡ Given (version_with 7 118) ∷ []) (begun log : Log) (published : IsPublishedLog world begun log) where
  begun_is : begun ≡ first_log
  begun_is =
      let stored = subst (λ (l : List Store). AllZip StoreHas l published.first) stores published.stored in
      published.begun_is ∙ ap (starts 0) (only_first (version_with 7 118) published.first stored)

  pub shows_first : (front : Log) → IsFront begun front → IsFront front log → shown 0 front ≡ Some (version_with 7 118)
  shows_first front begins goes_on =
      let parts : begun ++ published.more ≡ begun ++ (begins.0 ++ goes_on.0) =
      sym published.all ∙ goes_on.1 ∙ ap (λ (l : Log). l ++ goes_on.0) begins.1 ∙ append_assoc begun begins.0 goes_on.0 in
      let more : published.more ≡ begins.0 ++ goes_on.0 = append_cancel_left begun published.more (begins.0 ++ goes_on.0) parts in
      let made = subst (λ (l : Log). AreMade (IsNew world) begun l) more published.new in
      let at : shown 0 begun ≡ Some (version_with 7 118) = ap (shown 0) begun_is in
      ap (shown 0) begins.1 ∙ stays world catalogue dialed begun begins.0 goes_on.0 at made

front_then : (a b c : Log) → IsFront a b → IsFront b c → IsFront a c
front_then a b c first second =
    (first.0 ++ second.0, second.1 ∙ ap (λ (l : Log). l ++ second.0) first.1 ∙ append_assoc a first.0 second.0)

matched : (given : List ℕ) (begun log : Log) → IsPublishedLog (one_match given) begun log → (exchanges : List Exchange)
    → map (λ one. one.call) exchanges ≡ match_call ∷ [] → AnswersInTurn one_map Stream exchanges begun log
    → sent_over exchanges ≡ sent (match_reply 118)
matched given begun log published [] calls answered = absurd cc
matched given begun log published (one ∷ two ∷ more) calls answered = absurd cc
matched given begun log published (one ∷ []) calls answered =
    let call : one.call ≡ match_call = cc in
    let front = answered.0 in
    let shows = shows_first (one_match given) refl refl refl begun log published front answered.2
    (front_then front answered.1 log answered.3 answered.5) in
    let answer : one.reply ≡ Some (match_reply 118) = replied (reply Stream (maps_on one_map front) one.caller one.call)
    (match_reply 118) one.reply front answered.1
    (ap (λ (m : List ℕ). reply Stream (maps_on one_map front) one.caller m) call ∙ answer_on front one.caller shows) answered.4 in
    ap (λ (o : Option (List ℕ)). sent_reply o ++ []) answer ∙ append-nil (sent (match_reply 118))

-- ---- wrong ones

module _ (one : CutIsOne) where
  sent_match : (given : List ℕ) (begun log : Log) → Replies (one_match given) begun log → given ≡ sent (match_reply 118)
  sent_match given begun log replies =
      let connection : Connection = record { peer = somebody; came = sent match_call; sent = given; cut = false } in
      let whole = whole_is one one_map begun log connection replies.connections.0 refl (match_call ∷ []) []
      (sent match_call, [], match_record, sym (append-nil (sent match_call)), (refl, inl refl)) in
      sym whole.sent_is ∙ matched given begun log replies.published whole.exchanges whole.calls_are whole.answered

  -- a value of a version that was never shown
  pub never_shown : IsWrong (one_match (sent (match_reply 119)))
  unfolding sent_within
  never_shown begun log replies =
      let same = sent_match (sent (match_reply 119)) begun log replies in
      let e : 119 ≡ 118 = ap (λ (l : List ℕ). slice_index l 36) same in omega (arith, e)

  -- an answer to another procedure
  pub answered_as_null : IsWrong (one_match (sent (reply_head 7 Success)))
  unfolding sent_within
  answered_as_null begun log replies =
      let same = sent_match (sent (reply_head 7 Success)) begun log replies in
      let e : 28 ≡ 40 = ap length same in omega (arith, e)
