-- Transfers that are told as done, and weren't: of a server that gave too little, or another order at last.
use Rattle.std.proofs.Common.{◌≡◌, ℕ, ◌+◌, pos, List, [], ◌∷◌, ◌++◌, length, refl, sym, ap, ◌∙◌, subst, arith, length-append}
use Rattle.std.proofs.Common.{true}
use Rattle.std.proofs.lemmas.List.{append-nil}
use Rattle.std.proofs.lemmas.List.Elements.{All-nil, All-cons}
use Rattle.std.specs.Prelude.{◌==◌, if◌then◌else◌}
use Rattle.yp_xdr.specs.Kind.{Kind, Value}
use Rattle.yp_xdr.specs.Reading.{Remaining, reading, word_at, content_at, opaque_at, one_of_at}
use Rattle.yp_rpc.specs.Records.{Fragments, IsShort, fragment, begun, sent, sent_within}
use Rattle.yp_rpc.specs.inside.Laws.{FirstIsOne}
use Rattle.yp_rpc.specs.Reply.{words}
use Rattle.yp_messages.specs.Messages.{resp_order}
use Rattle.yp_version.specs.Rows.{Row}
use Rattle.yp_version.specs.Versions.{MapVersion}
use Rattle.yp_client.specs.Limits.{reply_max, all_max}
use Rattle.yp_headline.specs.World.{Dialed}
use Rattle.yp_answer.specs.declared.procedure.Path.TheVariants.{Stream}
use Rattle.yp_headline.specs.inside.Files.{streamed}
use Rattle.yp_headline.specs.Fetching.{head_kind, Reads, Says, RowsAre, SayRows, Hears, Gives}
use Rattle.yp_headline.specs.Publishing.{IsAmong}
use Rattle.yp_headline.specs.inside.TriedFiles.{skewed_bytes}
use Rattle.yp_headline.specs.inside.Tried.{somebody, whole_file, one_file, IsWrongTransfer, order_reply, master_reply, all_reply}
use Rattle.yp_headline.proofs.Heads.{same_pair}
use Rattle.yp_headline.proofs.Fetching.{first_order, order_record, master_record, rows_record, left_at}

-- ---- one server

pub one_server : (server other : Dialed) → IsAmong (server ∷ []) other → other ≡ server
one_server server other ([], back, is) = cc
one_server server other (one ∷ [], back, is) = absurd cc
one_server server other (one ∷ two ∷ front, back, is) = absurd cc

-- a record has bytes
pub never_empty : (limit : ℕ) (message bytes more : List ℕ) → Fragments limit message bytes → [] ≡ bytes ++ more → ⊥
never_empty limit message bytes more is empty =
    let four : length (fragment true is.last) ≡ 4 + length is.last = omega arith in
    let all : length bytes ≡ length (begun is.pieces) + length (fragment true is.last) =
    ap length is.spelled ∙ length-append (begun is.pieces) (fragment true is.last) in
    let none : 0 ≡ length bytes + length more = ap length empty ∙ length-append bytes more in
    omega (arith, four, all, none)

-- what a reply says is one value
pub says_one : (xid : ℕ) (kind : Kind) (a b : Value kind) (reply : List ℕ) → Says xid (Reads kind a) reply → Says xid (Reads kind b) reply → a ≡ b
says_one xid kind a b reply one other =
    let heads = same_pair _ _ (sym one.head ∙ other.head) in
    let left : one.left ≡ other.left = ap (λ (r : Value head_kind × Remaining). r.1) heads in
    let values = same_pair _ _ (sym one.results.1 ∙ ap (λ (r : Remaining). reading kind r) left ∙ other.results.1) in
    ap (λ (v : Value kind × Remaining). v.0) values

pub order_one : (xid a b : ℕ) (reply : List ℕ) → Says xid (Reads resp_order (pos 1, a)) reply → Says xid (Reads resp_order (pos 1, b)) reply
    → a ≡ b
order_one xid a b reply one other = ap (λ (v : Value resp_order). v.1) (says_one xid resp_order (pos 1, a) (pos 1, b) reply one other)

last_record : Fragments reply_max (order_reply 4 10) (sent (order_reply 4 10))
unfolding sent_within
last_record = record {
  pieces = [];
  last = order_reply 4 10;
  whole = refl;
  spelled = refl;
  within = record {
    len = omega arith;
    empty = omega arith;
    short = All-cons IsShort (order_reply 4 10) [] (omega arith) (All-nil IsShort);
  };
}

last_order : Says 4 (Reads resp_order (pos 1, 10)) (order_reply 4 10)
unfolding word_at content_at opaque_at one_of_at
last_order = record {
  left = left_at (words (1 ∷ 10 ∷ []));
  verifier = (0, []);
  head = refl;
  results = (record { at = 32; bytes = [] }, refl);
}

-- ---- what a server gave

module _ (first_one : FirstIsOne) where
  -- the first reply that came, and the others behind it
  pub behind : (xid : ℕ) (message more came reply : List ℕ) (others : List (List ℕ))
      → Fragments (if xid == 3 then all_max else reply_max) message (sent message) → came ≡ sent message ++ more
      → Hears Stream xid came (reply ∷ others) → (reply ≡ message) × Hears Stream (xid + 1) more others
  behind xid message more came reply others parts whole hears =
      let same = first_one (if xid == 3 then all_max else reply_max) reply message hears.0 (sent message) hears.1 more hears.3 parts
      (sym hears.2 ∙ whole) in
      (same.0, subst (λ (l : List ℕ). Hears Stream (xid + 1) l others) same.1 hears.4)

  none_behind : (xid : ℕ) (reply : List ℕ) (others : List (List ℕ)) → Hears Stream xid [] (reply ∷ others) → ⊥
  none_behind xid reply others hears = never_empty (if xid == 3 then all_max else reply_max) reply hears.0 hears.1 hears.3 hears.2

  no_bytes : (version : MapVersion) → Gives (streamed somebody []) version → ⊥
  no_bytes version gives = none_behind 1 gives.order (gives.master ∷ gives.others) gives.heard

  pub after_order : (more came : List ℕ) (version : MapVersion) → came ≡ sent (order_reply 1 9) ++ more
      → (gives : Gives (streamed somebody came) version) → (version.order ≡ 9) × Hears Stream 2 more (gives.master ∷ gives.others)
  after_order more came version parts gives =
      let one = behind 1 (order_reply 1 9) more came gives.order (gives.master ∷ gives.others) order_record parts gives.heard in (
        order_one 1 version.order 9 (order_reply 1 9)
            (subst (λ (l : List ℕ). Says 1 (Reads resp_order (pos 1, version.order)) l) one.0 gives.says_order) first_order,
        one.1,
      )

  pub order_alone : (version : MapVersion) → Gives (streamed somebody (sent (order_reply 1 9))) version → ⊥
  order_alone version gives =
      let one = after_order [] (sent (order_reply 1 9)) version (sym (append-nil (sent (order_reply 1 9)))) gives in
      none_behind 2 gives.master gives.others one.1

  -- of a stream two replies are behind that to MASTER
  pub record TwoMore (order : ℕ) (rows : List Row) (others : List (List ℕ)) : Type 0 where
    pub all : List ℕ
    pub again : List ℕ
    pub are : others ≡ all ∷ again ∷ []
    pub says : Says 3 (RowsAre rows) all
    pub says_again : Says 4 (Reads resp_order (pos 1, order)) again

  pub two_more : (order : ℕ) (rows : List Row) (others : List (List ℕ)) → SayRows Stream 3 order rows others → TwoMore order rows others
  two_more order rows (all ∷ again ∷ []) say =
      record { all = all; again = again; are = refl; says = say.0; says_again = say.1 }
  two_more order rows _ say = absurd say

  no_rows_came : (version : MapVersion) → Gives (streamed somebody (sent (order_reply 1 9) ++ sent (master_reply 2))) version → ⊥
  no_rows_came version gives =
      let one = after_order (sent (master_reply 2)) (sent (order_reply 1 9) ++ sent (master_reply 2)) version refl gives in
      let two = behind 2 (master_reply 2) [] (sent (master_reply 2)) gives.master gives.others master_record
      (sym (append-nil (sent (master_reply 2)))) one.1 in
      let more = two_more version.order gives.rows gives.others gives.says_rows in
      none_behind 3 more.all (more.again ∷ []) (subst (λ (l : List (List ℕ)). Hears Stream 3 [] l) more.are two.1)

  -- the last reply has another order
  pub skewed : (version : MapVersion) → Gives (streamed somebody skewed_bytes) version → ⊥
  skewed version gives =
      let one = after_order (sent (master_reply 2) ++ (sent (all_reply 3) ++ sent (order_reply 4 10))) _ version refl gives in
      let two = behind 2 (master_reply 2) (sent (all_reply 3) ++ sent (order_reply 4 10)) _ gives.master gives.others
      master_record refl one.1 in
      let more = two_more version.order gives.rows gives.others gives.says_rows in
      let three = behind 3 (all_reply 3) (sent (order_reply 4 10)) _ more.all (more.again ∷ []) rows_record refl
      (subst (λ (l : List (List ℕ)). Hears Stream 3 (sent (all_reply 3) ++ sent (order_reply 4 10)) l) more.are two.1) in
      let four = behind 4 (order_reply 4 10) [] _ more.again [] last_record (sym (append-nil (sent (order_reply 4 10)))) three.1 in
      let order : version.order ≡ 10 = order_one 4 version.order 10 (order_reply 4 10)
      (subst (λ (l : List ℕ). Says 4 (Reads resp_order (pos 1, version.order)) l) four.0 more.says_again) last_order in
      let e : 9 ≡ 10 = sym one.0 ∙ order in omega (arith, e)

  -- such a transfer isn't done
  pub undone : (came : List ℕ) → ((version : MapVersion) → Gives (streamed somebody came) version → ⊥)
      → IsWrongTransfer (one_file [] [] (whole_file 7 118) (0 ∷ []) (streamed somebody came ∷ []))
  undone came never begun log transfers =
      let done = transfers.done 0 ([], [], refl) in
      let server = one_server (streamed somebody came) done.fetched.server done.fetched.among in
      never done.fetched.fetched (subst (λ (d : Dialed). Gives d done.fetched.fetched) server done.fetched.gives)

  pub gave_nothing : IsWrongTransfer (one_file [] [] (whole_file 7 118) (0 ∷ []) (streamed somebody [] ∷ []))
  gave_nothing = undone [] no_bytes

  pub gave_order : IsWrongTransfer (one_file [] [] (whole_file 7 118) (0 ∷ [])
      (streamed somebody (sent (order_reply 1 9)) ∷ []))
  gave_order = undone (sent (order_reply 1 9)) order_alone

  pub gave_no_rows : IsWrongTransfer (one_file [] [] (whole_file 7 118) (0 ∷ [])
      (streamed somebody (sent (order_reply 1 9) ++ sent (master_reply 2)) ∷ []))
  gave_no_rows = undone (sent (order_reply 1 9) ++ sent (master_reply 2)) no_rows_came

  pub gave_skewed : IsWrongTransfer (one_file [] [] (whole_file 7 118) (0 ∷ [])
      (streamed somebody skewed_bytes ∷ []))
  gave_skewed = undone skewed_bytes skewed
