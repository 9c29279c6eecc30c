-- Worlds that are wrong: of each the headline is false.
use Rattle.std.proofs.Common.{◌≡◌, ℕ, false, List, [], ◌∷◌, ◌++◌, length, map, take, Option, Some, None, refl, sym, ap, ◌∙◌, subst, arith, inl}
use Rattle.std.specs.Prelude.{slice_index, unwrap_or}
use Rattle.std.proofs.lemmas.List.{append-nil}
use Rattle.std.proofs.lemmas.List.Elements.{All-nil, All-cons}
use Rattle.yp_io.specs.declared.stream.Peer.{Peer}
use Rattle.yp_xdr.specs.Reading.{word_at, content_at, opaque_at}
use Rattle.yp_rpc.specs.Records.{Fragments, Cut, IsRest, IsShort, sent, sent_within}
use Rattle.yp_rpc.specs.inside.Laws.{CutIsOne}
use Rattle.yp_board.specs.Catalogues.{Catalogue}
use Rattle.yp_board.specs.Logs.{Log}
use Rattle.yp_answer.specs.declared.procedure.Path.TheVariants.{Stream, Datagram as Mail}
use Rattle.yp_answer.specs.Numbers.{record_max}
use Rattle.yp_answer.specs.Served.{maps_on}
use Rattle.yp_answer.specs.session.Runs.{sent_reply}
use Rattle.yp_answer.specs.Reply.{Response, Bytes, reply}
use Rattle.yp_headline.specs.inside.Tried.{null_call, null_reply, somebody, no_maps, one_connection, IsWrong, one_datagram}
use Rattle.yp_headline.specs.World.{Connection}
use Rattle.yp_headline.specs.Answering.{answer}
use Rattle.yp_headline.specs.Serving.{Exchange, BeginsWith, IsReply, AnswersInTurn, IsServed}
use Rattle.yp_headline.specs.Headline.{Replies}
use Rattle.yp_headline.proofs.Runs.{sent_over}

-- ---- calls that ask for nothing

seventh : (catalogue : Catalogue) (log : Log) (peer : Peer)
    → reply Stream (maps_on catalogue log) peer (null_call 7) ≡ Bytes (null_reply 7)
unfolding word_at content_at opaque_at
seventh catalogue log peer = refl

eighth : (catalogue : Catalogue) (log : Log) (peer : Peer)
    → reply Stream (maps_on catalogue log) peer (null_call 8) ≡ Bytes (null_reply 8)
unfolding word_at content_at opaque_at
eighth catalogue log peer = refl

mailed : (catalogue : Catalogue) (log : Log) (peer : Peer)
    → answer Mail (maps_on catalogue log) peer (null_call 7) ≡ Bytes (null_reply 7)
unfolding word_at content_at opaque_at
mailed catalogue log peer = refl

seventh_record : Fragments record_max (null_call 7) (sent (null_call 7))
unfolding sent_within
seventh_record = record {
  pieces = [];
  last = null_call 7;
  whole = refl;
  spelled = refl;
  within = record { len = omega arith; empty = omega arith; short = All-cons IsShort (null_call 7) [] (omega arith) (All-nil IsShort) };
}

eighth_record : Fragments record_max (null_call 8) (sent (null_call 8))
unfolding sent_within
eighth_record = record {
  pieces = [];
  last = null_call 8;
  whole = refl;
  spelled = refl;
  within = record { len = omega arith; empty = omega arith; short = All-cons IsShort (null_call 8) [] (omega arith) (All-nil IsShort) };
}

-- ---- what a connection must be

cut_of : (exchanges : List Exchange) (came rest : List ℕ) → BeginsWith came exchanges rest → IsRest record_max rest
    → Cut record_max came (map (λ one. one.call) exchanges) rest
cut_of [] came rest begins end = (begins, end)
cut_of (one ∷ more) came rest begins end = (begins.0, begins.1, begins.2, begins.3, cut_of more begins.1 rest begins.4 end)

-- the calls of one that wasn't cut short, and what was sent of it
pub record Whole (catalogue : Catalogue) (known log : Log) (connection : Connection) (calls : List (List ℕ)) : Type 0 where
  pub exchanges : List Exchange
  pub calls_are : map (λ one. one.call) exchanges ≡ calls
  pub answered : AnswersInTurn catalogue Stream exchanges known log
  pub sent_is : sent_over exchanges ≡ connection.sent

pub whole_is : CutIsOne → (catalogue : Catalogue) (known log : Log) (connection : Connection)
    → IsServed catalogue known log connection → connection.cut ≡ false → (calls : List (List ℕ)) (rest : List ℕ)
    → Cut record_max connection.came calls rest → Whole catalogue known log connection calls
whole_is one catalogue known log connection is uncut calls rest cut =
    let whole = is.whole uncut in
    record {
      exchanges = is.exchanges;
      calls_are = (one record_max connection.came (map (λ (e : Exchange). e.call) is.exchanges) calls is.rest rest
          (cut_of is.exchanges connection.came is.rest is.came whole.0) cut).0;
      answered = is.answered;
      sent_is = is.sent ∙ ap (λ (l : List ℕ). connection.sent ++ l) whole.1 ∙ append-nil connection.sent;
    }

pub replied : (response : Response) (bytes : List ℕ) (answer : Option (List ℕ)) (front next : Log) → response ≡ Bytes bytes
    → IsReply response answer front next → answer ≡ Some bytes
replied response bytes answer front next is reply = subst (λ (r : Response). IsReply r answer front next) is reply

-- a connection of one such call gets its one reply
one_reply : (catalogue : Catalogue) (known log : Log) (exchanges : List Exchange)
    → map (λ one. one.call) exchanges ≡ null_call 7 ∷ [] → AnswersInTurn catalogue Stream exchanges known log
    → sent_over exchanges ≡ sent (null_reply 7)
one_reply catalogue known log [] calls answered = absurd cc
one_reply catalogue known log (one ∷ two ∷ more) calls answered = absurd cc
one_reply catalogue known log (one ∷ []) calls answered =
    let call : one.call ≡ null_call 7 = cc in
    let answer : one.reply ≡ Some (null_reply 7) = replied _ (null_reply 7) one.reply answered.0 answered.1
    (ap (λ (m : List ℕ). reply Stream (maps_on catalogue answered.0) one.caller m) call
    ∙ seventh catalogue answered.0 one.caller) answered.4 in
    ap (λ (o : Option (List ℕ)). sent_reply o ++ []) answer ∙ append-nil (sent (null_reply 7))

-- and one of two gets both, in their order
two_replies : (catalogue : Catalogue) (known log : Log) (exchanges : List Exchange)
    → map (λ one. one.call) exchanges ≡ null_call 7 ∷ null_call 8 ∷ [] → AnswersInTurn catalogue Stream exchanges known log
    → sent_over exchanges ≡ sent (null_reply 7) ++ sent (null_reply 8)
two_replies catalogue known log [] calls answered = absurd cc
two_replies catalogue known log (one ∷ []) calls answered = absurd cc
two_replies catalogue known log (one ∷ two ∷ three ∷ more) calls answered = absurd cc
two_replies catalogue known log (one ∷ two ∷ []) calls answered =
    let call : one.call ≡ null_call 7 = cc in
    let call' : two.call ≡ null_call 8 = cc in
    let later = answered.5 in
    let answer : one.reply ≡ Some (null_reply 7) = replied _ (null_reply 7) one.reply answered.0 answered.1
    (ap (λ (m : List ℕ). reply Stream (maps_on catalogue answered.0) one.caller m) call
    ∙ seventh catalogue answered.0 one.caller) answered.4 in
    let answer' : two.reply ≡ Some (null_reply 8) = replied _ (null_reply 8) two.reply later.0 later.1
    (ap (λ (m : List ℕ). reply Stream (maps_on catalogue later.0) two.caller m) call'
    ∙ eighth catalogue later.0 two.caller) later.4 in
    ap (λ (o : Option (List ℕ)). sent_reply o ++ (sent_reply two.reply ++ [])) answer
    ∙ ap (λ (o : Option (List ℕ)). sent (null_reply 7) ++ (sent_reply o ++ [])) answer'
    ∙ ap (λ (l : List ℕ). sent (null_reply 7) ++ l) (append-nil (sent (null_reply 8)))

no_reply : (catalogue : Catalogue) (known log : Log) (exchanges : List Exchange) → map (λ one. one.call) exchanges ≡ []
    → sent_over exchanges ≡ []
no_reply catalogue known log [] calls = refl
no_reply catalogue known log (one ∷ more) calls = absurd cc

-- ---- replies: the worlds

-- what a datagram gets is its reply
mailed_back : (back : Option (List ℕ)) (begun log : Log) → Replies (one_datagram back) begun log
    → back ≡ Some (null_reply 7)
mailed_back back begun log replies =
    let on = replies.datagrams.0 in
    let behind = on.holds in
    let gets = behind.holds in
    gets.2 ∙ replied (answer Mail (maps_on no_maps on.log) somebody (null_call 7)) (null_reply 7) gets.0 on.log behind.log
    (mailed no_maps on.log somebody) gets.1

module _ (one : CutIsOne) where
  -- what is sent for one call is its reply
  sent_one : (given : List ℕ) (begun log : Log) → Replies (one_connection (sent (null_call 7)) given false) begun log
      → given ≡ sent (null_reply 7)
  sent_one given begun log replies =
      let connection : Connection = record { peer = somebody; came = sent (null_call 7); sent = given; cut = false } in
      let whole = whole_is one no_maps begun log connection replies.connections.0 refl (null_call 7 ∷ []) []
      (sent (null_call 7), [], seventh_record, sym (append-nil (sent (null_call 7))), (refl, inl refl)) in
      sym whole.sent_is ∙ one_reply no_maps begun log whole.exchanges whole.calls_are whole.answered

  sent_two : (given : List ℕ) (begun log : Log)
      → Replies (one_connection (sent (null_call 7) ++ sent (null_call 8)) given false) begun log
      → given ≡ sent (null_reply 7) ++ sent (null_reply 8)
  sent_two given begun log replies =
      let connection : Connection = record { peer = somebody; came = sent (null_call 7) ++ sent (null_call 8); sent = given; cut = false } in
      let whole = whole_is one no_maps begun log connection replies.connections.0 refl (null_call 7 ∷ null_call 8 ∷ []) [] (
        sent (null_call 7),
        sent (null_call 8),
        seventh_record,
        refl,
        (sent (null_call 8), [], eighth_record, sym (append-nil (sent (null_call 8))), (refl, inl refl)),
      ) in
      sym whole.sent_is ∙ two_replies no_maps begun log whole.exchanges whole.calls_are whole.answered

  sent_none : (came given : List ℕ) (begun log : Log) → IsRest record_max came → Replies (one_connection came given false) begun log
      → given ≡ []
  sent_none came given begun log rest replies =
      let connection : Connection = record { peer = somebody; came = came; sent = given; cut = false } in
      let whole = whole_is one no_maps begun log connection replies.connections.0 refl [] came (refl, rest) in
      sym whole.sent_is ∙ no_reply no_maps begun log whole.exchanges whole.calls_are

  -- a call that isn't answered
  pub unanswered : IsWrong (one_connection (sent (null_call 7)) [] false)
  unfolding sent_within
  unanswered begun log replies = let same = sent_one [] begun log replies in
      let e : 0 ≡ 28 = ap length same in omega (arith, e)

  -- a reply to another call
  pub another_xid : IsWrong (one_connection (sent (null_call 7)) (sent (null_reply 8)) false)
  unfolding sent_within
  another_xid begun log replies = let same = sent_one (sent (null_reply 8)) begun log replies in
      let e : 8 ≡ 7 = ap (λ (l : List ℕ). slice_index l 7) same in omega (arith, e)

  -- a reply that is sent twice
  pub answered_twice : IsWrong (one_connection (sent (null_call 7)) (sent (null_reply 7) ++ sent (null_reply 7)) false)
  unfolding sent_within
  answered_twice begun log replies = let same = sent_one (sent (null_reply 7) ++ sent (null_reply 7)) begun log replies in
      let e : 56 ≡ 28 = ap length same in omega (arith, e)

  -- a reply without its last byte
  pub answered_short : IsWrong (one_connection (sent (null_call 7)) (take 27 (sent (null_reply 7))) false)
  unfolding sent_within
  answered_short begun log replies = let same = sent_one (take 27 (sent (null_reply 7))) begun log replies in
      let e : 27 ≡ 28 = ap length same in omega (arith, e)

  -- a reply to nothing
  pub unasked : IsWrong (one_connection [] (sent (null_reply 7)) false)
  unfolding sent_within
  unasked begun log replies = let same = sent_none [] (sent (null_reply 7)) begun log (inl refl) replies in
      let e : 28 ≡ 0 = ap length same in omega (arith, e)

  -- two replies in the wrong order
  pub out_of_order : IsWrong (one_connection (sent (null_call 7) ++ sent (null_call 8)) (sent (null_reply 8) ++ sent (null_reply 7)) false)
  unfolding sent_within
  out_of_order begun log replies =
      let same = sent_two (sent (null_reply 8) ++ sent (null_reply 7)) begun log replies in
      let e : 8 ≡ 7 = ap (λ (l : List ℕ). slice_index l 7) same in omega (arith, e)

  -- the second of two calls that isn't answered
  pub second_unanswered : IsWrong (one_connection (sent (null_call 7) ++ sent (null_call 8)) (sent (null_reply 7)) false)
  unfolding sent_within
  second_unanswered begun log replies = let same = sent_two (sent (null_reply 7)) begun log replies in
      let e : 28 ≡ 56 = ap length same in omega (arith, e)

  -- a datagram that isn't answered, though no reply was lost
  pub mail_unanswered : IsWrong (one_datagram None)
  mail_unanswered begun log replies = let same = mailed_back None begun log replies in cc

  -- one that is answered as another one
  pub mail_of_another : IsWrong (one_datagram (Some (null_reply 8)))
  mail_of_another begun log replies =
      let same = mailed_back (Some (null_reply 8)) begun log replies in
      let e : 8 ≡ 7 = ap (λ (o : Option (List ℕ)). slice_index (unwrap_or o []) 3) same in omega (arith, e)
