-- Worlds of datagrams: a right one, and wrong ones.
use Rattle.std.proofs.Common.{◌≡◌, ℕ, ◌+◌, Bool, true, false, List, [], ◌∷◌, ◌++◌, length, replicate, Option, Some, None, refl, sym, ap, ◌∙◌, ◌⊎◌, subst, arith, inl, inr, append_assoc}
use Rattle.std.specs.Prelude.{slice_index, unwrap_or, nat_lt, ◌==◌, if◌then◌else◌}
use Rattle.std.proofs.lemmas.List.{append-nil, append_cancel_left, length-append, length-replicate}
use Rattle.yp_io.specs.declared.stream.Peer.{Peer}
use Rattle.yp_xdr.specs.Reading.{word_at, content_at, opaque_at}
use Rattle.yp_xdr.specs.Spelling.{fixed, opaque}
use Rattle.yp_version.specs.Rows.{Row}
use Rattle.yp_version.specs.Versions.{MapVersion}
use Rattle.yp_board.specs.Logs.{Log, shown, starts}
use Rattle.yp_board.specs.Views.{IsFront}
use Rattle.yp_publisher.specs.Grown.{Making, AreMade}
use Rattle.yp_answer.specs.declared.procedure.Path.TheVariants.{Datagram as Mail}
use Rattle.yp_answer.specs.Served.{maps_on}
use Rattle.yp_answer.specs.Reply.{Response, Silence, Bytes, exceeds, reply}
use Rattle.yp_headline.specs.inside.Tried.{null_call, null_reply, somebody, no_maps, IsWrong, lost_datagram, long_call, long_datagram, version_with, match_call, match_reply, own_map, low_caller, matched_mail, mails_world, first_log, made_log}
use Rattle.yp_headline.specs.World.{Datagram}
use Rattle.yp_headline.specs.Answering.{answer}
use Rattle.yp_headline.specs.Publishing.{IsBuilt, IsNew, IsPublishedLog}
use Rattle.yp_headline.specs.Serving.{IsReply, AreServed}
use Rattle.yp_headline.specs.Headline.{Replies}
use Rattle.yp_headline.proofs.Runs.{front_self}
use Rattle.yp_headline.proofs.Listing.{one_listed, listed_once}
use Rattle.yp_headline.proofs.Torn.{no_server}
use Rattle.yp_headline.proofs.Kept.{kept, on_front}
use Rattle.yp_headline.proofs.Matched.{only_first}
use Rattle.yp_headline.proofs.Steps.{front_then}
use Rattle.yp_headline.proofs.Wrong.{replied}
use Rattle.yp_headline.proofs.Worked.{two_rise}

-- ---- one datagram

-- a reply that is lost, and was sent
pub mail_lost_and_sent : IsWrong lost_datagram
mail_lost_and_sent begun log replies =
    let none : Some (null_reply 7) ≡ None = replies.datagrams.0.holds.holds.2 in cc

-- what is too long gets nothing
nothing_back : (b : Bool) (response : Response) (reply : Option (List ℕ)) (front next : Log) → b ≡ true
    → IsReply (if b then Silence else response) reply front next → reply ≡ None
nothing_back true response reply front next long is = is
nothing_back false response reply front next long is = absurd cc

too_long : length long_call ≡ 8193
too_long = length-append (null_call 7) (replicate 8153 0) ∙ ap (λ (n : ℕ). 40 + n) (length-replicate {A = ℕ} 8153 0)

-- an answer to a datagram of 8,193 bytes
pub mail_too_long : IsWrong long_datagram
mail_too_long begun log replies =
    let on = replies.datagrams.0 in
    let behind = on.holds in
    let gets = behind.holds in
    let long : exceeds Mail (length long_call) ≡ true = ap (λ (n : ℕ). nat_lt 8192 n) too_long in
    let none : gets.0 ≡ None = nothing_back (exceeds Mail (length long_call)) (reply Mail (maps_on no_maps on.log) somebody long_call)
    gets.0 on.log behind.log long gets.1 in
    let some : Some (null_reply 7) ≡ None = gets.2 ∙ none in cc

-- ---- two datagrams about one map

pub matched_on : (log : Log) (order value : ℕ) → shown 0 log ≡ Some (version_with order value)
    → answer Mail (maps_on own_map log) low_caller match_call ≡ Bytes (match_reply value)
unfolding word_at content_at opaque_at fixed opaque
matched_on log order value is = rw is refl

-- what a map that was made of the text shows to this caller, secure or not
matched_made : (log : Log) (order : ℕ) (master : List ℕ) (secure : Bool)
    → shown 0 log ≡ Some (record { order = order; master = master; secure = secure; rows = (107 ∷ [], 119 ∷ []) ∷ [] })
    → answer Mail (maps_on own_map log) low_caller match_call ≡ Bytes (match_reply 119)
unfolding word_at content_at opaque_at fixed opaque
matched_made log order master true is = rw is refl
matched_made log order master false is = rw is refl

abbrev of_rows : MapVersion → List Row → MapVersion
of_rows version rows = record { order = version.order; master = version.master; secure = version.secure; rows = rows }

same_version : (version : MapVersion) → version.rows ≡ (107 ∷ [], 119 ∷ []) ∷ []
    → version ≡ record { order = version.order; master = version.master; secure = version.secure; rows = (107 ∷ [], 119 ∷ []) ∷ [] }
same_version version rows = ap (of_rows version) rows

-- what was made behind the front of a log
made_behind : (Is : Making) (log front back : Log) → AreMade Is log (front ++ back) → AreMade Is (log ++ front) back
made_behind Is log [] back made = subst (λ (l : Log). AreMade Is l back) (sym (append-nil log)) made
made_behind Is log (entry ∷ front) back made =
    subst (λ (l : Log). AreMade Is l back) (append_assoc log (entry ∷ []) front)
    (made_behind Is (log ++ entry ∷ []) front back made.1)

-- it has the row of the text
abbrev OfText : Option MapVersion → Type 0
OfText shows = (version : MapVersion) × (shows ≡ Some version) × (version.rows ≡ (107 ∷ [], 119 ∷ []) ∷ [])

-- or is the first
abbrev FirstOrText : Option MapVersion → Type 0
FirstOrText shows = (shows ≡ Some (version_with 7 118)) ⊎ OfText shows

module _ (mails : List (List Datagram)) where
  new_of_text : (log : Log) (version : MapVersion) → IsNew (mails_world mails) 0 log version → OfText (Some version)
  new_of_text log version (inl built) = (
    version,
    refl,
    listed_once ((107 ∷ [], 119 ∷ []) ∷ []) version.rows ((107 ∷ [], 119 ∷ []) ∷ []) (built.rows refl)
        (one_listed (107 ∷ [], 119 ∷ [])),
  )
  new_of_text log version (inr fetched) = absurd (no_server fetched.server fetched.among)

  module _ (begun log : Log) (published : IsPublishedLog (mails_world mails) begun log) where
    begun_shows : shown 0 begun ≡ Some (version_with 7 118)
    begun_shows = ap (shown 0) (published.begun_is ∙ ap (starts 0) (only_first (version_with 7 118) published.first published.stored))

    either : (front : Log) → IsFront begun front → IsFront front log → FirstOrText (shown 0 front)
    either front begins goes_on = on_front (mails_world mails) 0 FirstOrText (λ log version is new. inr (new_of_text log version new))
        begun log published (inl begun_shows) front begins goes_on

    -- behind a front with the row of the text all have it
    later : (front next : Log) → IsFront begun front → IsFront front next → IsFront next log → OfText (shown 0 front)
        → OfText (shown 0 next)
    later front next begins on goes is =
        let parts : begun ++ published.more ≡ begun ++ (begins.0 ++ (on.0 ++ goes.0)) =
        sym published.all ∙ goes.1 ∙ ap (λ (l : Log). l ++ goes.0) on.1 ∙ append_assoc front on.0 goes.0
        ∙ ap (λ (l : Log). l ++ (on.0 ++ goes.0)) begins.1 ∙ append_assoc begun begins.0 (on.0 ++ goes.0) in
        let more : published.more ≡ begins.0 ++ (on.0 ++ goes.0) =
        append_cancel_left begun published.more (begins.0 ++ (on.0 ++ goes.0)) parts in
        let behind = made_behind (IsNew (mails_world mails)) begun begins.0 (on.0 ++ goes.0)
        (subst (λ (l : Log). AreMade (IsNew (mails_world mails)) begun l) more published.new) in
        subst (λ (l : Log). OfText (shown 0 l)) (sym on.1)
        (kept (mails_world mails) 0 OfText (λ log version is new. new_of_text log version new) front on.0 goes.0 is
        (subst (λ (l : Log). AreMade (IsNew (mails_world mails)) l (on.0 ++ goes.0)) (sym begins.1) behind))

by_text : (front : Log) → OfText (shown 0 front) → answer Mail (maps_on own_map front) low_caller match_call ≡ Bytes (match_reply 119)
by_text front is =
    matched_made front is.0.order is.0.master is.0.secure (is.1 ∙ ap (λ (v : MapVersion). Some v) (same_version is.0 is.2))

pub differ : (value other : ℕ) (reply : Option (List ℕ)) → Some (match_reply value) ≡ reply → reply ≡ Some (match_reply other) → value ≡ other
differ value other reply sent replied = ap (λ (o : Option (List ℕ)). slice_index (unwrap_or o []) 32) (sent ∙ replied)

abbrev back_world : List (List Datagram)
back_world = (matched_mail 119 ∷ matched_mail 118 ∷ []) ∷ []

going_back : (begun log : Log) → IsPublishedLog (mails_world back_world) begun log
    → AreServed own_map begun log (matched_mail 119 ∷ matched_mail 118 ∷ []) → ⊥
going_back begun log published served =
    let front = served.log in
    let next = served.holds in
    let one = next.holds in
    let behind = one.4 in
    let later_on = behind.holds in
    let two = later_on.holds in
    let on = front_then front next.log behind.log next.begins behind.begins in
    elim (either back_world begun log published front served.begins served.goes_on) [
      | inl first ↦
          let back : one.0 ≡ Some (match_reply 118) =
          replied (answer Mail (maps_on own_map front) low_caller match_call) (match_reply 118) one.0 front next.log
          (matched_on front 7 118 first) one.1 in
          let e : 119 ≡ 118 = differ 119 118 one.0 one.2 back in omega (arith, e)
      | inr text ↦
          let shows = later back_world begun log published front behind.log served.begins on behind.goes_on text in
          let back : two.0 ≡ Some (match_reply 119) =
          replied (answer Mail (maps_on own_map behind.log) low_caller match_call) (match_reply 119) two.0 behind.log later_on.log
          (by_text behind.log shows) two.1 in
          let e : 118 ≡ 119 = differ 118 119 two.0 two.2 back in omega (arith, e)
    ]

-- the second of two datagrams at one inbox is told what was shown before
pub mail_goes_back : IsWrong (mails_world back_world)
mail_goes_back begun log replies = going_back begun log replies.published replies.datagrams.0

-- ---- a right one

abbrev two_ends : List (List Datagram)
two_ends = (matched_mail 118 ∷ matched_mail 119 ∷ []) ∷ (matched_mail 118 ∷ []) ∷ []

-- a version was made of the text
pub made : (mails : List (List Datagram)) → IsPublishedLog (mails_world mails) first_log made_log
made mails = record {
  first = Some (version_with 7 118) ∷ [];
  stored = (refl, tt);
  begun_is = refl;
  more = (0, version_with 8 119) ∷ [];
  all = refl;
  new =
      let built : IsBuilt (mails_world mails) 0 first_log (version_with 8 119) =
      record { moment = 8; master = refl; of_own = refl; order = refl; rows = λ none. one_listed (107 ∷ [], 119 ∷ []) } in
      (inl built, tt);
}

pub reply_on : (log : Log) (order value : ℕ) → shown 0 log ≡ Some (version_with order value)
    → IsReply (answer Mail (maps_on own_map log) low_caller match_call) (Some (match_reply value)) log log
reply_on log order value is =
    subst (λ (r : Response). IsReply r (Some (match_reply value)) log log) (sym (matched_on log order value is)) refl

-- a MATCH that is answered in its turn on this log, before more
pub matched_before : (value : ℕ) (known front : Log) (mails : List Datagram) → IsFront known front → IsFront front made_log
    → IsReply (answer Mail (maps_on own_map front) low_caller match_call) (Some (match_reply value)) front front
    → AreServed own_map front made_log mails → AreServed own_map known made_log (matched_mail value ∷ mails)
matched_before value known front mails begins goes replied more = record {
  log = front;
  begins = begins;
  goes_on = goes;
  holds = record {
    log = front;
    begins = front_self front;
    goes_on = goes;
    holds = (Some (match_reply value), replied, refl, λ late. absurd cc, more);
  };
}

-- the first log is a front of the one with what was made
pub grown : IsFront first_log made_log
grown = ((0, version_with 8 119) ∷ [], refl)

pub two_inboxes : Replies (mails_world two_ends) first_log made_log
two_inboxes = record {
  published = made two_ends;
  rises = λ number. two_rise (0 == number);
  connections = tt;
  datagrams = (
    matched_before 118 first_log first_log (matched_mail 119 ∷ []) (front_self first_log) grown (reply_on first_log 7 118 refl)
        (matched_before 119 first_log made_log [] grown (front_self made_log) (reply_on made_log 8 119 refl) (front_self made_log)),
    (
      matched_before 118 first_log first_log [] (front_self first_log) grown (reply_on first_log 7 118 refl) grown,
      tt,
    ),
  );
}
