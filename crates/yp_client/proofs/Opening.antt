-- A reply from its first byte on: its head, and then its rows.
use Rattle.std.proofs.Common.{◌≡◌, ℕ, ◌+◌, Bool, true, false, List, [], ◌∷◌, ◌++◌, length, take, drop, Option, Result}
use Rattle.std.proofs.Common.{Ok, Err, refl, sym, ap, ◌∙◌, subst, append_assoc, arith}
use Rattle.yp_rpc.specs.Pieces.{ReaderState, not_begun}
use Rattle.yp_version.specs.Drafts.{Draft}
use Rattle.yp_client.specs.declared.fault.ClientFault.{ClientFault}
use Rattle.yp_client.specs.declared.all.AllReply.{AllReply}
use Rattle.yp_client.specs.Results.{results_of}
use Rattle.yp_client.specs.All.{AllSaid, filled, filled_by, all_said, IsSaid}
use Rattle.yp_client.specs.inside.Windows.{waiting, ahead, RecordProgress, progress, HasReadUpTo, IsUnderway, MayCome}
use Rattle.yp_client.specs.inside.Windows.{TakesMore, answered, PushesRows, SaysSoFar}
use Rattle.yp_client.proofs.Waiting.{begun_here}
use Rattle.yp_client.proofs.Filling.{said_err}

take_none : (xs : List ℕ) → take 0 xs ≡ []
take_none [] = refl
take_none (x ∷ xs) = refl

-- a reply of which nothing was read
abbrev pub unread_reply : ℕ → AllReply
unread_reply xid = record { xid = xid; start = 0; end = 0; at = 0; whole = false; rows = 0 }

-- The first bytes of the record stand in the buffer.
pub record Opened (reply : AllReply) (buf : List ℕ) (start : Option (List ℕ)) (place : ℕ)
    (now : RecordProgress) : Type 0 where
  pub at : reply.at ≡ 0
  pub rows : reply.rows ≡ 0
  pub reached : HasReadUpTo (waiting reply buf) start place now

pub opened : (xid : ℕ) (old new : AllReply) (buf buf' : List ℕ) (input : Option (List ℕ)) (reader : ReaderState)
    (now : RecordProgress) → old ≡ unread_reply xid → reader.part ≡ not_begun
    → TakesMore old new buf buf' (progress input reader old.whole) now
    → new ≡ record old { start = new.start; end = new.end; whole = new.whole }
    → Opened new buf' input reader.place now
opened xid old new buf buf' input reader now is between h same =
    let none : waiting old buf ≡ [] = ap (λ (r : AllReply). waiting r buf) is ∙ take_none (drop 0 buf) in
    let begun : HasReadUpTo [] input reader.place (progress input reader old.whole) =
    subst (λ (r : AllReply). HasReadUpTo [] input reader.place (progress input reader r.whole)) (sym is)
    (begun_here input reader between) in
    let all : h.0 ≡ waiting new buf' = sym (h.3 ∙ ap (λ (xs : List ℕ). xs ++ h.0) none) in
    record {
      at = ap (λ (r : AllReply). r.at) same ∙ ap (λ (r : AllReply). r.at) is;
      rows = ap (λ (r : AllReply). r.rows) same ∙ ap (λ (r : AllReply). r.rows) is;
      reached = subst (λ (xs : List ℕ). HasReadUpTo xs input reader.place now) all (h.2 [] input reader.place begun);
    }

-- why the first bytes don't come
pub opened_cause : (xid : ℕ) (old : AllReply) (input : Option (List ℕ)) (reader : ReaderState) → old ≡ unread_reply xid
    → reader.part ≡ not_begun → HasReadUpTo [] input reader.place (progress input reader old.whole)
opened_cause xid old input reader is between =
    subst (λ (r : AllReply). HasReadUpTo [] input reader.place (progress input reader r.whole)) (sym is)
    (begun_here input reader between)

pub opened_reached : (mid head : AllReply) (buf : List ℕ) (start : Option (List ℕ)) (place : ℕ)
    (input : Option (List ℕ)) (reader : ReaderState) → Opened mid buf start place (progress input reader mid.whole)
    → head ≡ record mid { start = head.start; at = head.at }
    → HasReadUpTo (waiting mid buf) start place (progress input reader head.whole)
opened_reached mid head buf start place input reader h same =
    subst (λ (whole : Bool). HasReadUpTo (waiting mid buf) start place (progress input reader whole))
    (sym (ap (λ (r : AllReply). r.whole) same)) h.reached

pub opened_underway : (mid head : AllReply) (buf : List ℕ) (start : Option (List ℕ)) (place : ℕ)
    (input : Option (List ℕ)) (reader : ReaderState) → Opened mid buf start place (progress input reader mid.whole)
    → head.at + length (waiting head buf) ≡ mid.at + length (waiting mid buf)
    → head ≡ record mid { start = head.start; at = head.at }
    → IsUnderway (head.at + length (waiting head buf)) (progress input reader head.whole)
opened_underway mid head buf start place input reader h total same = record {
  front = waiting mid buf;
  start = start;
  place = place;
  reached = opened_reached mid head buf start place input reader h same;
  counted = let at = h.at in omega arith;
}

-- a head that is refused
pub head_says : (draft : Draft) (xid : ℕ) (mid head : AllReply) (buf : List ℕ) (start : Option (List ℕ)) (place : ℕ)
    (input : Option (List ℕ)) (reader : ReaderState) (fault : ClientFault)
    → Opened mid buf start place (progress input reader mid.whole)
    → ((more : List ℕ) → MayCome more mid.whole → results_of xid (waiting mid buf ++ more) ≡ Err fault)
    → head ≡ record mid { start = head.start; at = head.at }
    → SaysSoFar draft xid (answered draft head (Err fault)) start place (progress input reader head.whole)
unfolding all_said
head_says draft xid mid head buf start place input reader fault h says same = record {
  front = waiting mid buf;
  reached = opened_reached mid head buf start place input reader h same;
  said = λ rest may.
      said_err (filled_by draft (results_of xid (waiting mid buf ++ rest))) draft head.rows fault
      (ap (filled_by draft) (says rest (λ whole. may (ap (λ (r : AllReply). r.whole) same ∙ whole)))
      ∙ ap (λ (k : ℕ). record { draft = draft; rows = k; end = Err fault }) (sym (ap (λ (r : AllReply). r.rows) same ∙ h.rows)));
}

-- a head, and the rows behind it
pub rows_say : (before after : Draft) (xid : ℕ) (mid head new : AllReply) (buf : List ℕ) (start : Option (List ℕ))
    (place : ℕ) (input : Option (List ℕ)) (reader : ReaderState) (now : RecordProgress) (end : Result (Unit {0}) ClientFault)
    → Opened mid buf start place (progress input reader mid.whole)
    → ((more : List ℕ) → MayCome more mid.whole
    → results_of xid (waiting mid buf ++ more) ≡ Ok (ahead head buf more))
    → head ≡ record mid { start = head.start; at = head.at }
    → PushesRows before head buf (progress input reader head.whole) now (answered after new end)
    → SaysSoFar before xid (answered after new end) start place now
unfolding all_said
rows_say before after xid mid head new buf start place input reader now end h says same pushes = record {
  front = waiting mid buf ++ pushes.more;
  reached = pushes.given (waiting mid buf) start place (opened_reached mid head buf start place input reader h same);
  said = λ rest may.
      let more = pushes.more ++ rest in
      let none : mid.whole ≡ true → more ≡ [] = λ whole. let s =
      pushes.stays (ap (λ (r : AllReply). r.whole) same ∙ whole) in ap (λ (xs : List ℕ). xs ++ rest) s.0 ∙ may s.1 in
      let behind : results_of xid (waiting mid buf ++ pushes.more ++ rest) ≡ Ok (ahead head buf more) =
      ap (results_of xid) (append_assoc (waiting mid buf) pushes.more rest) ∙ says more none in
      let said = pushes.said rest (length (waiting head buf ++ more)) may (omega arith) in
      let at : filled_by before (results_of xid (waiting mid buf ++ pushes.more ++ rest))
      ≡ filled (length (waiting head buf ++ more)) before head.rows (ahead head buf more) =
      ap (filled_by before) behind
      ∙ ap (λ (k : ℕ). filled (length (waiting head buf ++ more)) before k (ahead head buf more))
      (sym (ap (λ (r : AllReply). r.rows) same ∙ h.rows)) in
      subst (λ (s : AllSaid). IsSaid s after new.rows end) (sym at) said;
}
