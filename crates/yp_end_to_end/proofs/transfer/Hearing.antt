-- What the replies of a server say where a fetch reads them.
use Rattle.std.proofs.Common.{◌≡◌, ℕ, List, Some, Result, sym, ap, ◌∙◌, subst, inl, inr}
use Rattle.yp_io.specs.declared.stream.Peer.{Peer}
use Rattle.yp_rpc.specs.Records.{IsUnfinished, IsRest}
use Rattle.yp_rpc.specs.inside.Laws.{FirstIsOne, RestIsNotWhole}
use Rattle.yp_answer.specs.declared.procedure.Path.TheVariants.{Stream}
use Rattle.yp_answer.specs.Maps.{Maps}
use Rattle.yp_answer.specs.Reply.{Bytes, reply, reply_at_once}
use Rattle.yp_client.specs.declared.fault.ClientFault.{ClientFault}
use Rattle.yp_end_to_end.specs.inside.exchange.Served.{ReplyTells}
use Rattle.yp_end_to_end.specs.inside.exchange.Answered.{GivesReply}
use Rattle.yp_transfer.specs.Fetched.{StreamPlace, IsUnreplied, ReadsReply}
use Rattle.yp_end_to_end.specs.transfer.Replies.{next_xid}

-- what the laws of records say
pub record Records : Type 0 where
  pub first : FirstIsOne
  pub rest : RestIsNotWhole

begun_is_rest : (limit : ℕ) (bytes : List ℕ) → IsUnfinished limit bytes → IsRest limit bytes
begun_is_rest limit bytes (inl none) = inl none
begun_is_rest limit bytes (inr torn) = inr (inl torn)

unreplied_is_rest : {V : Type 0} (limit : ℕ) (answer : Result V ClientFault) (first : StreamPlace)
    → IsUnreplied limit answer first → IsRest limit first.bytes
unreplied_is_rest limit answer first (inl torn) = begun_is_rest limit first.bytes torn.0
unreplied_is_rest limit answer first (inr long) = inr (inr long.0)

-- a reply was read, and P holds of what is behind it
pub record IsHeard {V : Type 0} (said : List ℕ → Result V ClientFault) (answer : Result V ClientFault)
    (bytes : List ℕ) (P : List ℕ → Type 0) (xid : ℕ) (new : StreamPlace) : Type 0 where
  pub says : said bytes ≡ answer
  pub behind : P new.bytes
  pub xid_is : new.xid ≡ next_xid xid

module _ (laws : Records) {V : Type 0} (maps : Maps) (peer : Peer) (limit : ℕ) (call : List ℕ)
    (said : ℕ → List ℕ → Result V ClientFault) (answer : Result V ClientFault) (P : List ℕ → Type 0) (old new : StreamPlace)
    (gives : GivesReply maps peer limit call old.bytes P) where
  pub heard : ReadsReply limit said answer old new → IsHeard (said old.xid) answer gives.reply P old.xid new
  heard (inl read) =
      let same = laws.first limit read.reply gives.reply read.taken gives.bytes new.bytes gives.rest read.fragments
      gives.fragments (sym read.whole ∙ gives.whole) in
      record {
        says = ap (said old.xid) (sym same.0) ∙ read.says;
        behind = subst P (sym same.1) gives.good.1;
        xid_is = read.xid;
      }
  heard (inr none) =
      absurd (laws.rest limit gives.reply gives.bytes gives.rest gives.fragments
      (subst (IsRest limit) gives.whole (unreplied_is_rest limit answer old none.0)))

  same_reply : (bytes : List ℕ) → reply Stream maps peer call ≡ Bytes bytes → bytes ≡ gives.reply
  same_reply bytes is = let both : Some bytes ≡ Some gives.reply = sym (ap reply_at_once is) ∙ gives.good.0 in cc

  -- the answer is what is told
  pub told_answer : (expected : Result V ClientFault) → ReplyTells maps peer limit call (said old.xid) expected
      → ReadsReply limit said answer old new → answer ≡ expected
  told_answer expected tells read =
      sym (heard read).says ∙ ap (said old.xid) (sym (same_reply tells.bytes tells.replied)) ∙ tells.says
