-- A server that answers the calls of a fetch in turn.
use Rattle.std.proofs.Common.{◌≡◌, ℕ, ◌≤◌, List, [], ◌∷◌, ◌++◌, length, Some, Result, Ok, Err, refl, sym, ap, ◌∙◌, subst, arith}
use Rattle.std.proofs.Common.{append_assoc}
use Rattle.std.specs.Prelude.{IfOk, ⊤}
use Rattle.yp_io.specs.declared.stream.Peer.{Peer}
use Rattle.yp_rpc.specs.Records.{sent}
use Rattle.yp_messages.specs.declared.stat.YpStat.{YpStat}
use Rattle.yp_version.specs.Versions.{MapVersion}
use Rattle.yp_board.specs.Views.{IsFront}
use Rattle.yp_answer.specs.Maps.{Maps, row_check}
use Rattle.yp_answer.specs.Reply.{reply_at_once}
use Rattle.yp_answer.specs.Served.{maps_on}
use Rattle.yp_client.specs.Limits.{reply_max, all_max}
use Rattle.yp_client.specs.Asked.{order_call, master_call, all_call}
use Rattle.yp_end_to_end.specs.inside.exchange.Served.{ReplyTells, RepliesWith}
use Rattle.yp_end_to_end.specs.inside.exchange.Laws.{OrderTells, MasterTells, AllTells, RoomForVersion}
use Rattle.yp_end_to_end.specs.inside.exchange.SentLaws.{SentIsWhole}
use Rattle.yp_end_to_end.specs.inside.exchange.Answered.{GivesReply}
use Rattle.yp_end_to_end.specs.exchange.Runs.{sent_all}
use Rattle.yp_version.specs.Drafts.{empty_draft}
use Rattle.yp_end_to_end.specs.transfer.Replies.{next_xid}
use Rattle.yp_end_to_end.specs.inside.transfer.Replies.{GivesSecond, GivesAll, GivesMaster}
use Rattle.yp_end_to_end.specs.inside.transfer.Laws.{Fronts, moments_on}
use Rattle.yp_end_to_end.specs.inside.transfer.Turns.{TurnsGiveFetch}
use Rattle.yp_end_to_end.proofs.transfer.Showing.{served_before, front_then}
use Rattle.yp_end_to_end.proofs.transfer.Giving.{next_is_word}

-- what the replies to the calls say, and how they are sent
pub record Sent : Type 0 where
  pub whole : SentIsWhole
  pub order : OrderTells
  pub master : MasterTells
  pub all : AllTells
  pub room : RoomForVersion

any_room : (held : Result MapVersion YpStat) → IfOk held (λ version. 0 ≤ length version.master)
any_room (Ok version) = omega arith
any_room (Err stat) = tt

module _ (laws : Sent) where
  -- a reply that was sent is given, whole
  sent_gives : {V : Type 0} (maps : Maps) (peer : Peer) (limit : ℕ) (call : List ℕ) (said : List ℕ → V) (expected : V)
      (bytes : List ℕ) (replies : List (List ℕ)) (rest : List ℕ) (P : List ℕ → Type 0)
      → ReplyTells maps peer limit call said expected → RepliesWith maps peer call bytes
      → P (sent_all replies ++ rest) → GivesReply maps peer limit call (sent_all (bytes ∷ replies) ++ rest) P
  sent_gives maps peer limit call said expected bytes replies rest P tells replied then =
      let same : tells.bytes ≡ bytes = (let e : Some tells.bytes ≡ Some bytes = sym (ap reply_at_once tells.replied) ∙ replied in cc) in
      record {
        reply = bytes;
        bytes = sent bytes;
        rest = sent_all replies ++ rest;
        fragments = laws.whole limit bytes (subst (λ (b : List ℕ). length b ≤ limit) same tells.within);
        whole = append_assoc (sent bytes) (sent_all replies) rest;
        good = (replied, then);
      }

  pub turns_give : TurnsGiveFetch
  turns_give catalogue peer domain map xid [] rest logs before after served rises word dlen mlen turns = absurd turns
  turns_give catalogue peer domain map xid (a ∷ replies) rest [] before after served rises word dlen mlen turns =
      absurd turns
  turns_give catalogue peer domain map xid (a ∷ []) rest (f ∷ logs) before after served rises word dlen mlen turns =
      absurd turns.2
  turns_give catalogue peer domain map xid (a ∷ b ∷ replies) rest (f ∷ []) before after served rises word dlen mlen
      turns =
      absurd turns.2
  turns_give catalogue peer domain map xid (a ∷ b ∷ []) rest (f ∷ g ∷ logs) before after served rises word dlen mlen
      turns =
      absurd turns.2.2
  turns_give catalogue peer domain map xid (a ∷ b ∷ c ∷ replies) rest (f ∷ g ∷ []) before after served rises word dlen
      mlen turns =
      absurd turns.2.2
  turns_give catalogue peer domain map xid (a ∷ b ∷ c ∷ []) rest (f ∷ g ∷ h ∷ logs) before after served rises word dlen
      mlen turns =
      absurd turns.2.2.2
  turns_give catalogue peer domain map xid (a ∷ b ∷ c ∷ d ∷ replies) rest (f ∷ g ∷ h ∷ []) before after served rises word
      dlen mlen turns =
      absurd turns.2.2.2
  turns_give catalogue peer domain map xid (a ∷ b ∷ c ∷ d ∷ e ∷ more) rest (f ∷ g ∷ h ∷ i ∷ logs) before after served
      rises word dlen mlen turns =
      absurd turns.2.2.2.2
  turns_give catalogue peer domain map xid (a ∷ b ∷ c ∷ d ∷ []) rest (f ∷ g ∷ h ∷ i ∷ j ∷ logs) before after served rises
      word dlen mlen turns =
      absurd turns.2.2.2.2
  turns_give catalogue peer domain map xid (a ∷ b ∷ c ∷ d ∷ []) rest (f ∷ g ∷ h ∷ i ∷ []) before after served rises word
      dlen mlen turns =
      let second = turns.2 in
      let third = second.2 in
      let fourth = third.2 in
      let fronts : Fronts = record {
        first = f;
        second = g;
        third = h;
        fourth = i;
        log = after;
        begins = second.0;
        grows = third.0;
        goes_on = fourth.0;
        ends = fourth.2;
        rises = rises;
      } in
      let third_ends : IsFront h after = front_then h i after fourth.0 fourth.2 in
      let second_ends : IsFront g after = front_then g h after third.0 third_ends in
      let first_ends : IsFront f after = front_then f g after second.0 second_ends in
      let m1 = maps_on catalogue f in
      let m2 = maps_on catalogue g in
      let m3 = maps_on catalogue h in
      let m4 = maps_on catalogue i in
      let x2 = next_xid xid in
      let x3 = next_xid x2 in
      let x4 = next_xid x3 in
      let room = laws.room m3 peer.port domain map 0 [] (served_before catalogue h after third_ends served)
      (any_room (row_check m3 peer.port domain map)) in
      let gives4 : GivesSecond peer domain map (moments_on catalogue fronts) x4 (sent_all (d ∷ []) ++ rest) =
      sent_gives m4 peer reply_max (order_call domain map x4) _ _ d [] rest (λ behind. ⊤)
      (laws.order m4 peer x4 domain (served_before catalogue i after fourth.2 served) (next_is_word x3) dlen map
      mlen) fourth.1 tt in
      let gives3 : GivesAll peer domain map (moments_on catalogue fronts) x3 (sent_all (c ∷ d ∷ []) ++ rest) =
      sent_gives m3 peer all_max (all_call domain map x3) _ _ c (d ∷ []) rest _
      (laws.all m3 peer x3 domain (served_before catalogue h after third_ends served) (next_is_word x2) dlen map
      mlen (empty_draft 0 []) room) third.1 (λ ok. gives4) in
      let gives2 : GivesMaster peer domain map (moments_on catalogue fronts) x2 (sent_all (b ∷ c ∷ d ∷ []) ++ rest) =
      sent_gives m2 peer reply_max (master_call domain map x2) _ _ b (c ∷ d ∷ []) rest _
      (laws.master m2 peer x2 domain (served_before catalogue g after second_ends served) (next_is_word xid) dlen
      map mlen) second.1 (λ ok. gives3) in (
        fronts,
        refl,
        refl,
        sent_gives m1 peer reply_max (order_call domain map xid) _ _ a (b ∷ c ∷ d ∷ []) rest _
            (laws.order m1 peer xid domain (served_before catalogue f after first_ends served) word dlen map mlen) turns.1
            (λ ok. gives2),
      )
