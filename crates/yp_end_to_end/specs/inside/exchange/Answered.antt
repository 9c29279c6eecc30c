-- Replies to the calls of a question, one by one and in turn.
use Rattle.std.specs.Prelude.{ℕ, List, Ok, Err, IsOk, ⊤}
use Rattle.yp_io.specs.declared.stream.Peer.{Peer}
use Rattle.yp_answer.specs.Maps.{Maps, map_check}
use Rattle.yp_messages.specs.declared.transfer.XfrStat.{XfrStat}
use Rattle.yp_end_to_end.specs.inside.exchange.Served.{RepliesWith, MakesReply}
use Rattle.yp_client.specs.Limits.{reply_max, all_max}
use Rattle.yp_client.specs.Asked.{all_call, match_call, master_call, order_call, maplist_call, pull_call}
use Rattle.yp_client.specs.Asked.{make_named_call}
use Rattle.yp_client.specs.declared.query.fault.QueryFault.TheVariants.{NoKey, NotMember, NotDone}
use Rattle.yp_client.specs.declared.question.Question.TheVariants.{Cat, Catk, Match, Which, Poll, Maps as MapsOf}
use Rattle.yp_client.specs.declared.question.Question.TheVariants.{Innetgr, Pull, Make}
use Rattle.yp_client.specs.Questions.{ByteQuestion}
use Rattle.yp_client.specs.query.Asked.{QueryOutcome, netgroup}
use Rattle.yp_client.specs.query.Complete.{BeginsWithReply}

-- ---- what comes in

-- Bytes begin with the reply to a call on these maps, and P holds of what is behind it.
abbrev pub GivesReply : Maps → Peer → ℕ → List ℕ → List ℕ → (List ℕ → Type 0) → Type 0
GivesReply maps peer limit call stream P =
    BeginsWithReply limit stream (λ bytes rest. RepliesWith maps peer call bytes × P rest)

-- Bytes begin with the reply to ORDER, and then with that to MASTER, where the map of the first has a version.
abbrev pub GivesStanding : Maps → Maps → Peer → List ℕ → List ℕ → List ℕ → Type 0
GivesStanding first second peer domain map stream =
    GivesReply first peer reply_max (order_call domain map 1) stream (λ rest. IsOk (map_check first domain map)
    → GivesReply second peer reply_max (master_call domain map 2) rest (λ behind. ⊤))

-- A wire gives a server's replies to the calls of a question, whose numbers begin with 1: on the maps that it knew at
-- the first call, and at the second, where there is one. A map that is made for it has this status.
abbrev pub GivesReplies : Maps → Maps → Peer → XfrStat → ByteQuestion → List ℕ → Type 0
GivesReplies first second peer made (Cat domain map) stream =
    GivesReply first peer all_max (all_call domain map 1) stream (λ rest. ⊤)
GivesReplies first second peer made (Catk domain map) stream =
    GivesReply first peer all_max (all_call domain map 1) stream (λ rest. ⊤)
GivesReplies first second peer made (Match domain map key) stream =
    GivesReply first peer reply_max (match_call domain map key 1) stream (λ rest. ⊤)
GivesReplies first second peer made (Which domain map) stream =
    GivesReply first peer reply_max (master_call domain map 1) stream (λ rest. ⊤)
GivesReplies first second peer made (Poll domain map) stream = GivesStanding first second peer domain map stream
GivesReplies first second peer made (MapsOf domain) stream =
    GivesReply first peer reply_max (maplist_call domain 1) stream (λ rest. ⊤)
GivesReplies first second peer made (Pull domain map source) stream =
    GivesReply first peer reply_max (pull_call domain map source 1) stream (λ rest. ⊤)
GivesReplies first second peer made (Make domain map) stream =
    BeginsWithReply reply_max stream (λ bytes rest. MakesReply first peer made (make_named_call domain map 1) bytes)
GivesReplies first second peer made (Innetgr domain group host user user_domain) stream =
    GivesReply first peer all_max (all_call domain netgroup 1) stream (λ rest. ⊤)

-- ---- what it comes to

-- there is a text, or no such key, or no such member, or a map that isn't fetched or made
abbrev pub HasText : QueryOutcome → Type 0
HasText (Ok text) = ⊤
HasText (Err NoKey) = ⊤
HasText (Err NotMember) = ⊤
HasText (Err (NotDone stat)) = ⊤
HasText outcome = ⊥
