-- What is fetched by bytes is what they give.
use Rattle.std.proofs.Common.{◌≡◌, ℕ, ◌+◌, ◌%◌, ◌^◌, false, List, [], ◌∷◌, Option, Some, None, Result, Ok, Err, refl, sym, ap, ◌∙◌, subst, ⊎_elim, inl, inr, eqb}
use Rattle.std.proofs.lemmas.Bool.Decides.{eqb_tells}
use Rattle.yp_io.specs.declared.stream.Peer.{Peer}
use Rattle.yp_version.specs.Rows.{Row, listed}
use Rattle.yp_version.specs.Versions.{MapVersion, unmarked}
use Rattle.yp_version.specs.Drafts.{Draft, empty_draft, with_rows}
use Rattle.yp_client.specs.declared.fault.ClientFault.{ClientFault}
use Rattle.yp_client.specs.Limits.{reply_max, all_max}
use Rattle.yp_client.specs.Results.{order_of, master_of}
use Rattle.yp_client.specs.All.{all_said}
use Rattle.yp_transfer.specs.declared.fault.XfrFault.{XfrFault}
use Rattle.yp_transfer.specs.Faults.{of_client}
use Rattle.yp_transfer.specs.Fetching.{Wanted, wanted_of, FetchOutcome, Course, Unless, ByAnswer, AsksThen, InMemory, Gives as GivesDraft, AsksRows, AsksMaster, against_names, against_order, against_master, against_second}
use Rattle.yp_transfer.specs.Fetched.{StreamPlace, place_of, IsReplied, ReadsReply, by_bytes, rows_of, draft_of, Fetched}
use Rattle.yp_headline.specs.Fetching.{Says, RowsAre, Gives}
use Rattle.yp_headline.specs.inside.Files.{streamed}
use Rattle.yp_headline.proofs.Said.{order_said, master_said, rows_said}
use Rattle.yp_headline.proofs.Built.{rows_keep}
use Rattle.yp_headline.proofs.Listing.{listed_is}

-- ---- a fetch that gave a version

never_fault : {A : Type 0} (version : MapVersion) (fault : XfrFault) → Ok version ≡ Err fault → A
never_fault version fault e = absurd cc

went_on : (against : Option XfrFault) (follows : Course StreamPlace) (version : MapVersion) (old new : StreamPlace)
    → Unless against follows (Ok version) old new → follows (Ok version) old new
went_on None follows version old new unless = unless
went_on (Some fault) follows version old new unless = never_fault version fault unless.0

in_memory : (follows : Course StreamPlace) (version : MapVersion) (old new : StreamPlace)
    → InMemory by_bytes follows (Ok version) old new → follows (Ok version) old new
in_memory follows version old new has = ⊎_elim (λ goes. goes) (λ stops. absurd stops.0) has

-- an answer that a fetch goes on with
record Answered {V : Type 0} (limit : ℕ) (said : ℕ → List ℕ → Result V ClientFault) (follows : V → Course StreamPlace)
    (version : MapVersion) (old new : StreamPlace) : Type 0 where
  value : V
  middle : StreamPlace
  replied : IsReplied limit said (Ok value) old middle
  goes_on : follows value (Ok version) middle new

answered_by : {V : Type 0} (limit : ℕ) (said : ℕ → List ℕ → Result V ClientFault) (follows : V → Course StreamPlace)
    (version : MapVersion) (old middle new : StreamPlace) (answer : Result V ClientFault)
    → ReadsReply limit said answer old middle → ByAnswer follows answer (Ok version) middle new
    → Answered limit said follows version old new
answered_by limit said follows version old middle new (Err fault) reads goes = never_fault version (of_client fault) goes.0
answered_by limit said follows version old middle new (Ok value) reads goes = ⊎_elim
    (λ replied. record { value = value; middle = middle; replied = replied; goes_on = goes })
    (λ not. ⊎_elim (λ torn. absurd (let e = torn.1 in cc)) (λ long. absurd (let e = long.1 in cc)) not.0) reads

answered : {V : Type 0} (limit : ℕ) (said : ℕ → List ℕ → Result V ClientFault) (follows : V → Course StreamPlace)
    (version : MapVersion) (old new : StreamPlace) → AsksThen (ReadsReply limit said) follows (Ok version) old new
    → Answered limit said follows version old new
answered limit said follows version old new asks =
    answered_by limit said follows version old asks.middle new asks.answer asks.answered asks.goes_on

said_at : {V : Type 0} (limit : ℕ) (said : ℕ → List ℕ → Result V ClientFault) (value : V) (xid : ℕ)
    (old new : StreamPlace) (is : IsReplied limit said (Ok value) old new) → old.xid ≡ xid → said xid is.reply ≡ Ok value
said_at limit said value xid old new is at = subst (λ n. said n is.reply ≡ Ok value) at is.says

-- ---- rows

draft_is : (draft after : Draft) (end : Result (Unit {0}) ClientFault) → draft_of draft end ≡ Ok after
    → (draft ≡ after) × (end ≡ Ok tt)
draft_is draft after (Ok done) e = (cc, refl)
draft_is draft after (Err fault) e = absurd cc

-- the rows of a reply, and the draft that they make
record Made (order : ℕ) (master : List ℕ) (draft : Draft) (reply : List ℕ) : Type 0 where
  rows : List Row
  says : Says 3 (RowsAre rows) reply
  draft_is_of : draft ≡ with_rows (empty_draft order master) rows

rows_say : (order : ℕ) (master : List ℕ) (draft : Draft) (reply : List ℕ) → rows_of (empty_draft order master) 3 reply ≡ Ok draft
    → Made order master draft reply
rows_say order master draft reply is =
    let said = all_said (empty_draft order master) 3 reply in
    let both = draft_is said.draft draft said.end is in
    let rows = rows_said (empty_draft order master) 3 reply both.1 in
    record { rows = rows.0; says = rows.1; draft_is_of = sym both.0 ∙ rows.2 }

none_of : (against : Option XfrFault) (follows : Course StreamPlace) (version : MapVersion) (old new : StreamPlace)
    → Unless against follows (Ok version) old new → against ≡ None
none_of None follows version old new unless = refl
none_of (Some fault) follows version old new unless = never_fault version fault unless.0

no_skew : (first second : ℕ) → against_second first second ≡ None → first ≡ second
no_skew first second none =
    elim (eqb_tells first second) [
      | inl same ↦ same.1
      | inr differ ↦ absurd (let e : eqb first second ≡ false = differ.0 in cc)
    ]

same_given : (a b : MapVersion) → (let one : FetchOutcome = Ok a in one) ≡ Ok b → a ≡ b
same_given a b is = cc

-- ---- another name

goes_again : (wanted : Wanted) (domain map : List ℕ) (version : MapVersion) (old new : StreamPlace)
    (answer : Result ℕ ClientFault)
    → ByAnswer (λ order. Unless (against_order wanted order) (AsksMaster by_bytes order)) answer (Ok version) old new
    → ByAnswer (λ order. Unless (against_order (wanted_of domain map None false) order) (AsksMaster by_bytes order)) answer
    (Ok version) old new
goes_again wanted domain map version old new (Err fault) goes = goes
goes_again wanted domain map version old new (Ok order) goes =
    went_on (against_order wanted order) (AsksMaster by_bytes order) version old new goes

-- what bytes give doesn't depend on the name of what was wanted, nor on what was shown
pub refetched : (wanted : Wanted) (domain map : List ℕ) (first : StreamPlace) (version : MapVersion)
    → against_names (wanted_of domain map None false) ≡ None → Fetched wanted first (Ok version)
    → Fetched (wanted_of domain map None false) first (Ok version)
refetched wanted domain map first version none fetched =
    let asks = went_on (against_names wanted) _ version first fetched.0 fetched.1 in (
      fetched.0,
      subst (λ (o : Option XfrFault). Unless o (AsksThen by_bytes.order
          (λ order. Unless (against_order (wanted_of domain map None false) order) (AsksMaster by_bytes order))) (Ok version) first
          fetched.0) (sym none)
          (record {
            answer = asks.answer;
            middle = asks.middle;
            answered = asks.answered;
            goes_on = goes_again wanted domain map version asks.middle fetched.0 asks.answer asks.goes_on;
          }),
    )

-- ---- the whole

pub fetched_gives : (wanted : Wanted) (peer : Peer) (stream : List ℕ) (version : MapVersion)
    → Fetched wanted (place_of 1 0 stream) (Ok version) → Gives (streamed peer stream) version
fetched_gives wanted peer stream version fetched =
    let first = place_of 1 0 stream in
    let asks = went_on (against_names wanted) _ version first fetched.0 fetched.1 in
    let one = answered reply_max order_of _ version first fetched.0 asks in
    let two = answered reply_max master_of _ version one.middle fetched.0
    (went_on (against_order wanted one.value) _ version one.middle fetched.0 one.goes_on) in
    let three = answered all_max (rows_of (empty_draft one.value two.value)) _ version two.middle fetched.0
    (in_memory (AsksRows by_bytes (empty_draft one.value two.value)) version two.middle fetched.0
    (went_on (against_master two.value) _ version two.middle fetched.0 two.goes_on)) in
    let four = answered reply_max order_of _ version three.middle fetched.0 three.goes_on in
    let last = in_memory (GivesDraft by_bytes three.value) version four.middle fetched.0
    (went_on (against_second three.value.order four.value) (InMemory by_bytes (GivesDraft by_bytes three.value)) version four.middle
    fetched.0 four.goes_on) in
    let second_xid : one.middle.xid ≡ 2 = one.replied.xid in
    let third_xid : two.middle.xid ≡ 3 = two.replied.xid ∙ ap (λ n. (n + 1) % 2 ^ 32) second_xid in
    let fourth_xid : three.middle.xid ≡ 4 = three.replied.xid ∙ ap (λ n. (n + 1) % 2 ^ 32) third_xid in
    let rows = rows_say one.value two.value three.value three.replied.reply
    (said_at all_max (rows_of (empty_draft one.value two.value)) three.value 3 two.middle three.middle three.replied
    third_xid) in
    let kept = rows_keep rows.rows (empty_draft one.value two.value) in
    let order : three.value.order ≡ one.value = ap (λ (d : Draft). d.order) rows.draft_is_of ∙ kept.0 in
    let again : one.value ≡ four.value = sym order ∙ no_skew three.value.order four.value
    (none_of (against_second three.value.order four.value) (InMemory by_bytes (GivesDraft by_bytes three.value)) version
    four.middle fetched.0 four.goes_on) in
    let version_is : version ≡ unmarked three.value.order three.value.master (listed three.value.rows) =
    same_given version (unmarked three.value.order three.value.master (listed three.value.rows)) last.0 in
    let order_is : version.order ≡ one.value = ap (λ (v : MapVersion). v.order) version_is ∙ order in
    let master_is : version.master ≡ two.value =
    ap (λ (v : MapVersion). v.master) version_is ∙ ap (λ (d : Draft). d.master) rows.draft_is_of ∙ kept.1 in
    record {
      rows = rows.rows;
      order = one.replied.reply;
      master = two.replied.reply;
      others = three.replied.reply ∷ four.replied.reply ∷ [];
      heard = (
        one.replied.taken,
        one.middle.bytes,
        one.replied.whole,
        one.replied.fragments,
        (
          two.replied.taken,
          two.middle.bytes,
          two.replied.whole,
          two.replied.fragments,
          (
            three.replied.taken,
            three.middle.bytes,
            three.replied.whole,
            three.replied.fragments,
            (four.replied.taken, four.middle.bytes, four.replied.whole, four.replied.fragments, tt),
          ),
        ),
      );
      says_order = order_said 1 one.replied.reply version.order
          (one.replied.says ∙ ap (λ (n : ℕ). Ok n) (sym order_is));
      says_master = master_said 2 two.replied.reply version.master
          (said_at reply_max master_of two.value 2 one.middle two.middle two.replied second_xid
          ∙ ap (λ (m : List ℕ). Ok m) (sym master_is));
      says_rows = (
        rows.says,
        order_said 4 four.replied.reply version.order
            (said_at reply_max order_of four.value 4 three.middle four.middle four.replied fourth_xid
            ∙ ap (λ (n : ℕ). Ok n) (sym (order_is ∙ again))),
      );
      not_secure = ap (λ (v : MapVersion). v.secure) version_is;
      listed = listed_is one.value two.value rows.rows version.rows
          (ap (λ (v : MapVersion). v.rows) version_is ∙ ap (λ (d : Draft). listed d.rows) rows.draft_is_of);
    }
