-- A call over a wire that begins with a whole reply is answered by that reply, unless the wire fails.
use Rattle.std.proofs.Common.{◌≡◌, ℕ, true, false, List, [], ◌++◌, Option, Some, None, Result, Ok, Err, refl, sym, ap, ◌∙◌, subst, inl, inr, ◌⊎◌}
use Rattle.std.specs.Prelude.{⊤}
use Rattle.std.specs.Io.KnownBytes.{Consumes, IsAtEnd}
use Rattle.std.proofs.lemmas.List.{append-nil}
use Rattle.yp_rpc.specs.Records.{IsRest, IsLong}
use Rattle.yp_rpc.specs.inside.Laws.{FirstIsOne, RestIsNotWhole}
use Rattle.yp_client.specs.declared.fault.ClientFault.{ClientFault}
use Rattle.yp_client.specs.declared.fault.ClientFault.TheVariants.{Yp, Denied, BadReply, BadXid, Torn, TooLong, ReadFault, WriteFault, Spent, Rows, NoMemory}
use Rattle.yp_client.specs.States.{ClientState}
use Rattle.yp_client.specs.Calls.{Calls, HearsReply, NoReply}
use Rattle.yp_client.specs.query.Complete.{BeginsWithReply}

-- what the laws of records say
pub record Records : Type 0 where
  pub first : FirstIsOne
  pub rest : RestIsNotWhole

-- bytes that were consumed of told ones
taken : (b : Option (List ℕ)) (stream bytes : List ℕ) → Consumes (Some stream) b bytes → (rest : List ℕ) × (b ≡ Some rest) × (stream ≡ bytes ++ rest)
taken None stream bytes h = absurd h
taken (Some ys) stream bytes h = (ys, refl, h)

at_end : (a : Option (List ℕ)) (rest : List ℕ) → a ≡ Some rest → IsAtEnd a → rest ≡ []
at_end None rest e h = absurd cc
at_end (Some xs) rest e h = let same : xs ≡ rest = cc in sym same ∙ h

-- the wire failed
abbrev pub IsWireFault : {X : Type 0} → Result X ClientFault → Type 0
IsWireFault (Err ReadFault) = ⊤
IsWireFault (Err WriteFault) = ⊤
IsWireFault result = ⊥

-- the answer is by this reply, and what is behind it is left
pub record Heard (said : Type 0) (rest : List ℕ) (new : ClientState) : Type 0 where
  pub by_reply : said
  pub left : new.wire.input ≡ Some rest

module _ (laws : Records) {X : Type 0} (limit : ℕ) (stream : List ℕ) (P : List ℕ → List ℕ → Type 0) (good : BeginsWithReply limit stream P)
    (call : ℕ → List ℕ) (answers : ℕ → List ℕ → Result X ClientFault → Type 0) (old new : ClientState) (told : old.wire.input ≡ Some stream) where
  -- what was consumed of the stream
  consumed : (bytes : List ℕ) → Consumes old.wire.input new.wire.input bytes → (rest : List ℕ) × (new.wire.input ≡ Some rest) × (stream ≡ bytes ++ rest)
  consumed bytes h = taken new.wire.input stream bytes (subst (λ (i : Option (List ℕ)). Consumes i new.wire.input bytes) told h)

  hears_reply : (answer : Result X ClientFault) → HearsReply limit (answers old.xid) answer old new → Heard (answers old.xid good.reply answer) good.rest new
  hears_reply answer heard =
      let behind = consumed heard.taken.bytes heard.taken.taken in
      let same = laws.first limit heard.reply good.reply heard.taken.bytes good.bytes behind.0 good.rest heard.taken.fragments good.fragments (sym behind.2 ∙ good.whole) in
      record {
        by_reply = subst (λ (reply : List ℕ). answers old.xid reply answer) same.0 heard.answered;
        left = behind.1 ∙ ap (λ (rest : List ℕ). Some rest) same.1;
      }

  -- it isn't torn there
  not_torn : (at : ℕ) → NoReply limit (Torn at) old new → ⊥
  not_torn at (inl cause) =
      let rest = cause.1 in
      let behind = consumed rest cause.3 in
      let all : rest ≡ good.bytes ++ good.rest = sym (behind.2 ∙ ap (λ (l : List ℕ). rest ++ l) (at_end new.wire.input behind.0 behind.1 cause.4) ∙ append-nil rest) ∙ good.whole in
      laws.rest limit good.reply good.bytes good.rest good.fragments (subst (IsRest limit) all (inr (inl cause.2)))
  not_torn at (inr cause) =
      let behind = consumed [] cause.1.0 in
      let all : [] ≡ good.bytes ++ good.rest = sym (behind.2 ∙ at_end new.wire.input behind.0 behind.1 cause.1.1) ∙ good.whole in
      laws.rest limit good.reply good.bytes good.rest good.fragments (subst (IsRest limit) all (inl refl))

  -- nor too long
  not_long : (at : ℕ) → NoReply limit (TooLong at) old new → ⊥
  not_long at cause =
      let behind = consumed cause.1 cause.3 in
      let long : IsLong limit (good.bytes ++ good.rest) = (cause.1, behind.0, cause.2, sym good.whole ∙ behind.2) in
      laws.rest limit good.reply good.bytes good.rest good.fragments (inr (inr long))

  pub call_heard : (answer : Result X ClientFault) → Calls limit call answers answer old new → old.spent ≡ false → Heard (answers old.xid good.reply answer) good.rest new ⊎ IsWireFault answer
  call_heard (Err (Torn at)) calls fresh = absurd (not_torn at calls.answered)
  call_heard (Err (TooLong at)) calls fresh = absurd (not_long at calls.answered)
  call_heard (Err ReadFault) calls fresh = inr tt
  call_heard (Err WriteFault) calls fresh = inr tt
  call_heard (Err Spent) calls fresh = absurd (let spent : old.spent ≡ true = calls.exactly.0 refl in cc)
  call_heard (Err (Yp status)) calls fresh = inl (hears_reply (Err (Yp status)) calls.answered)
  call_heard (Err (Denied head)) calls fresh = inl (hears_reply (Err (Denied head)) calls.answered)
  call_heard (Err (BadReply at)) calls fresh = inl (hears_reply (Err (BadReply at)) calls.answered)
  call_heard (Err (BadXid want got)) calls fresh = inl (hears_reply (Err (BadXid want got)) calls.answered)
  call_heard (Err (Rows row why)) calls fresh = inl (hears_reply (Err (Rows row why)) calls.answered)
  call_heard (Err NoMemory) calls fresh = inl (hears_reply (Err NoMemory) calls.answered)
  call_heard (Ok x) calls fresh = inl (hears_reply (Ok x) calls.answered)
