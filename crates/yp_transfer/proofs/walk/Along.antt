-- A walk over one version.
use Rattle.std.proofs.Common.{◌≡◌, ℕ, suc, ◌+◌, ◌≤◌, Bool, true, false, cond, List, [], ◌∷◌, ◌++◌, length, Option}
use Rattle.std.proofs.Common.{Some, None, Result, Ok, Err, refl, sym, ap, ◌∙◌, subst, append_assoc, inl, inr, bytes_eq}
use Rattle.std.proofs.Common.{eqb, eq-eqb, arith, All, nat_le}
use Rattle.std.proofs.lemmas.Bool.{le-ltb, ltb-true}
use Rattle.std.proofs.lemmas.List.{length-append}
use Rattle.std.proofs.lemmas.List.Elements.{All-head, All-tail}
use Rattle.std.proofs.lemmas.List.Sums.{sum_by-append, sum_by-cons}
use Rattle.std.specs.Prelude.{is_some, nat_lt}
use Rattle.std.specs.List.{AllByRecursion, IsDistinct}
use Rattle.std.specs.Map.{keys_of}
use Rattle.yp_rpc.specs.Turns.{datagram_max}
use Rattle.yp_version.specs.declared.builder.VersionFault.{VersionFault}
use Rattle.yp_version.specs.declared.builder.VersionFault.TheVariants.{KeyLong, ValueLong, TooManyRows, TooBig}
use Rattle.yp_version.specs.Limits.{key_max, value_max, rows_max, body_max}
use Rattle.yp_version.specs.Rows.{Row, value_of, first_of, following, row_len, rows_len}
use Rattle.yp_version.specs.inside.Rows.{HasDistinctKeys}
use Rattle.yp_version.specs.Versions.{MapVersion, IsVersion}
use Rattle.yp_version.specs.Drafts.{Draft, draft_len, refused, with_row, with_new}
use Rattle.yp_version.specs.inside.Laws.{RisingIsDistinct}
use Rattle.yp_client.specs.declared.fault.ClientFault.{ClientFault}
use Rattle.yp_client.specs.Results.{row_of}
use Rattle.yp_transfer.specs.declared.fault.XfrFault.{XfrFault}
use Rattle.yp_transfer.specs.declared.fault.XfrFault.TheVariants.{Xfrerr, Dbm, Skew}
use Rattle.yp_transfer.specs.Fetching.{Wanted, against_order, against_master}
use Rattle.yp_transfer.specs.walk.Standings.{WalkState, AsksOrder, AsksMaster, AsksFirst, AsksNext, AsksAgain, HasEnded}
use Rattle.yp_transfer.specs.walk.Standings.{refusal, unless, by_order, by_master, by_first, by_next, by_row, by_behind_key}
use Rattle.yp_transfer.specs.walk.Standings.{by_again, state_after, next_len}
use Rattle.yp_transfer.specs.walk.Schedules.{Walking, gone_on, begun, came_of}
use Rattle.yp_transfer.specs.inside.walk.Told.{row_said, next_said, SaysOfVersion, AllTell, draft_with, HasRowsTo}
use Rattle.yp_transfer.specs.inside.walk.Told.{IsOwn, IsAlong}
use Rattle.yp_transfer.specs.inside.walk.Told.{ToldIsWalked, left, Suits, ToldIsWhole}

-- ---- distinct keys

at_row : (P : List ℕ → Type 0) (front : List Row) (row : Row) (rest : List Row)
    → AllByRecursion P (keys_of (front ++ row ∷ rest)) → P row.0
at_row P [] row rest all = all.0
at_row P (first ∷ front) row rest all = at_row P front row rest all.1

pub key_itself : (key : List ℕ) → bytes_eq key key ≡ true
key_itself [] = refl
key_itself (byte ∷ key) = rw (eq-eqb byte byte refl) (key_itself key)

pub following_is : (front : List Row) (row : Row) (rest : List Row)
    → IsDistinct bytes_eq (keys_of (front ++ row ∷ rest)) → following row.0 (front ++ row ∷ rest) ≡ Some (first_of rest)
unfolding IsDistinct
following_is [] row rest distinct =
    ap (λ (b : Bool). cond b (Some (first_of rest)) (following row.0 rest)) (key_itself row.0)
following_is (first ∷ front) row rest distinct =
    ap (λ (b : Bool). cond b (Some (first_of (front ++ row ∷ rest))) (following row.0 (front ++ row ∷ rest)))
    (at_row (λ key. bytes_eq first.0 key ≡ false) front row rest distinct.0)
    ∙ following_is front row rest distinct.1

pub absent_before : (front : List Row) (row : Row) (rest : List Row)
    → IsDistinct bytes_eq (keys_of (front ++ row ∷ rest)) → value_of row.0 front ≡ None
unfolding IsDistinct
absent_before [] row rest distinct = refl
absent_before (first ∷ front) row rest distinct =
    ap (λ (b : Bool). cond b (Some first.1) (value_of row.0 front))
    (at_row (λ key. bytes_eq first.0 key ≡ false) front row rest distinct.0)
    ∙ absent_before front row rest distinct.1

-- ---- a row that a builder takes

middle : (P : Row → Type 0) (front : List Row) (row : Row) (rest : List Row) → All P (front ++ row ∷ rest) → P row
middle P [] row rest all = All-head P row rest all
middle P (first ∷ front) row rest all = middle P front row rest (All-tail P first (front ++ row ∷ rest) all)

-- why a row isn't taken, by the four tests
refused_by : (a b c d : Bool) (found : Option (List ℕ)) (row : Row) → a ≡ false → b ≡ false → c ≡ false → d ≡ false
    → cond a (Some (KeyLong (length row.0))) (cond b (Some (ValueLong (length row.1))) (cond (is_some found) None
    (cond c (Some TooManyRows) (cond d (Some TooBig) None)))) ≡ None
refused_by false false false false None row ka kb kc kd = refl
refused_by false false false false (Some value) row ka kb kc kd = refl
refused_by true b c d found row ka kb kc kd = absurd cc
refused_by false true c d found row ka kb kc kd = absurd cc
refused_by false false true d found row ka kb kc kd = absurd cc
refused_by false false false true found row ka kb kc kd = absurd cc

takes_row : (version : MapVersion) (front : List Row) (row : Row) (rest : List Row) → IsVersion version
    → version.rows ≡ front ++ row ∷ rest → refused (draft_with version front) row ≡ None
takes_row version front row rest is whole =
    let rows : List Row = front ++ row ∷ rest in
    let keys = subst (λ (rows : List Row). All (λ row. length row.0 ≤ key_max) rows) whole is.keys in
    let values = subst (λ (rows : List Row). All (λ row. length row.1 ≤ value_max) rows) whole is.values in
    let key : length row.0 ≤ key_max = middle (λ row. length row.0 ≤ key_max) front row rest keys in
    let value : length row.1 ≤ value_max = middle (λ row. length row.1 ≤ value_max) front row rest values in
    let count : length front + (1 + length rest) ≤ rows_max =
    omega (arith, is.count, ap (λ (rows : List Row). length rows) whole, length-append front (row ∷ rest)) in
    let bytes : rows_len version.rows ≡ rows_len front + (row_len row + rows_len rest) =
    ap (λ (rows : List Row). rows_len rows) whole ∙ sum_by-append row_len front (row ∷ rest)
    ∙ ap (λ (n : ℕ). rows_len front + n) (sum_by-cons row_len row rest) in
    let fits : draft_len (draft_with version front) + row_len row ≤ body_max = omega (arith, is.body, bytes) in
    refused_by (nat_lt key_max (length row.0)) (nat_lt value_max (length row.1)) (nat_le rows_max (length front))
    (nat_lt body_max (draft_len (draft_with version front) + row_len row)) (value_of row.0 front) row
    (le-ltb key_max (length row.0) key) (le-ltb value_max (length row.1) value) (grind (arith, count))
    (le-ltb body_max (draft_len (draft_with version front) + row_len row) fits)

-- ---- one reply

-- a walk is on its way, and takes at most so many mails more
pub record Along (wanted : Wanted) (version : MapVersion) (n : ℕ) (standing : WalkState) : Type 0 where
  pub along : IsAlong wanted version standing
  pub count : left version standing ≤ n

module _ (wanted : Wanted) (version : MapVersion) (is_version : IsVersion version) (distinct : HasDistinctKeys version.rows) where
  Goes : ℕ → WalkState → Type 0
  Goes n standing = Along wanted version n standing

  refuses : (n : ℕ) (fault : XfrFault) → IsOwn wanted version fault → Goes n (refusal fault)
  unfolding Goes
  refuses n fault own = record { along = own; count = omega arith }

  order_by : (n : ℕ) (cause : Option XfrFault) → against_order wanted version.order ≡ cause
      → length version.rows + 3 ≤ n → Goes n (unless cause (AsksMaster version.order))
  unfolding Goes
  order_by n None is enough = record { along = refl; count = enough }
  order_by n (Some fault) is enough = refuses n fault (inl is)

  master_by : (n : ℕ) (cause : Option XfrFault) → against_master version.master ≡ cause
      → length version.rows + 2 ≤ n → Goes n (unless cause (AsksFirst (draft_with version [])))
  unfolding Goes
  master_by n None is enough = record { along = refl; count = enough }
  master_by n (Some fault) is enough = refuses n fault (inr (inl is))

  -- the row behind a front of the rows
  behind_row : (n : ℕ) (front : List Row) (row : Row) (rest : List Row) (draft : Draft) (long : Bool)
      → version.rows ≡ front ++ row ∷ rest → draft ≡ draft_with version (front ++ row ∷ [])
      → nat_lt datagram_max (next_len wanted row.0) ≡ long → length rest + 2 ≤ n
      → Goes n (cond long (refusal Dbm) (AsksNext draft row.0))
  unfolding Goes
  behind_row n front row rest draft true is same long enough =
      refuses n Dbm (inr (inr (refl, record { front = front; row = row; rest = rest; whole = is; long = ltb-true datagram_max (next_len wanted row.0) long })))
  behind_row n front row rest draft false is same long enough = record {
    along = record { front = front; row = row; rest = rest; whole = is; last = refl; so_far = same };
    count = omega (
      arith,
      ap (λ (rows : List Row). length rows) is,
      length-append front (row ∷ rest),
      ap (λ (d : Draft). length d.rows) same,
      length-append front (row ∷ []),
      enough,
    );
  }

  fresh : (front : List Row) (row : Row) (rest : List Row) → version.rows ≡ front ++ row ∷ rest
      → value_of row.0 front ≡ None
  fresh front row rest is =
      absent_before front row rest (subst (λ (rows : List Row). HasDistinctKeys rows) is distinct)

  taken : (front : List Row) (row : Row) (found : Option (List ℕ)) → found ≡ None
      → cond (is_some found) (draft_with version front) (with_new (draft_with version front) row)
      ≡ draft_with version (front ++ row ∷ [])
  taken front row None none = refl
  taken front row (Some value) none = absurd cc

  row_by : (n : ℕ) (front : List Row) (row : Row) (rest : List Row) (why : Option VersionFault) (found : Option (List ℕ))
      → version.rows ≡ front ++ row ∷ rest → why ≡ None → found ≡ None
      → with_row (draft_with version front) row ≡ draft_with version (front ++ row ∷ []) → length rest + 2 ≤ n
      → Goes n (cond (is_some why) (refusal Dbm) (cond (is_some found) (AsksAgain (draft_with version front) (Some (Xfrerr 0)))
      (by_behind_key wanted (with_row (draft_with version front) row) row.0)))
  row_by n front row rest (Some fault) found is fits none grown enough = absurd cc
  row_by n front row rest None (Some value) is fits none grown enough = absurd cc
  row_by n front row rest None None is fits none grown enough =
      behind_row n front row rest (with_row (draft_with version front) row) (nat_lt datagram_max (next_len wanted row.0)) is
      grown refl enough

  next_row : (n : ℕ) (front : List Row) (row : Row) (rest : List Row) → version.rows ≡ front ++ row ∷ rest
      → length rest + 2 ≤ n → Goes n (by_row wanted (draft_with version front) row)
  next_row n front row rest is enough =
      let none = fresh front row rest is in
      row_by n front row rest (refused (draft_with version front) row) (value_of row.0 front) is
      (takes_row version front row rest is_version is) none (taken front row (value_of row.0 front) none) enough

  appended : (xs : List Row) → xs ++ [] ≡ xs
  appended [] = refl
  appended (x ∷ xs) = ap (λ (ys : List Row). x ∷ ys) (appended xs)

  -- the rows that are left
  rows_by : (n : ℕ) (front rest : List Row) → version.rows ≡ front ++ rest → length rest + 1 ≤ n
      → Goes n (by_first wanted (draft_with version front) (row_said (first_of rest)))
  unfolding Goes
  rows_by n front [] is enough = record {
    along = (ap (λ (rows : List Row). draft_with version rows) (sym (is ∙ appended front)), refl);
    count = omega (arith, enough);
  }
  rows_by n front (row ∷ rest) is enough = next_row n front row rest is (omega (arith, enough))

  -- the reply to NEXT is that to FIRST, where the key is there
  next_by : (draft : Draft) (found : Option Row)
      → by_next wanted draft (row_said found) ≡ by_first wanted draft (row_said found)
  next_by draft None = refl
  next_by draft (Some row) = refl

  second_by : (n order : ℕ) (draft : Draft) (same : Bool) → same ≡ true → draft ≡ draft_with version version.rows
      → Goes n (unless (cond same None (Some (Skew order order))) (HasEnded (Ok draft)))
  unfolding Goes
  second_by n order draft true is whole = record { along = whole; count = omega arith }
  second_by n order draft false is whole = absurd cc

  step : (n xid : ℕ) (standing : WalkState) (reply : List ℕ) → Goes (suc n) standing
      → SaysOfVersion version xid standing reply → Goes n (state_after wanted xid standing reply)
  unfolding Goes
  step n xid AsksOrder reply goes tells =
      subst (λ (said : Result ℕ ClientFault). Goes n (by_order wanted said)) (sym tells)
      (order_by n (against_order wanted version.order) refl (omega (arith, goes.count)))
  step n xid (AsksMaster order) reply goes tells =
      subst (λ (said : Result (List ℕ) ClientFault). Goes n (by_master order said)) (sym tells)
      (subst (λ (m : ℕ). Goes n (by_master m (Ok version.master))) (sym goes.along)
      (master_by n (against_master version.master) refl (omega (arith, goes.count))))
  step n xid (AsksFirst draft) reply goes tells =
      subst (λ (said : Result (List ℕ × List ℕ) ClientFault). Goes n (by_first wanted draft said)) (sym tells)
      (subst (λ (d : Draft). Goes n (by_first wanted d (row_said (first_of version.rows)))) (sym goes.along)
      (rows_by n [] version.rows refl (omega (arith, goes.count))))
  step n xid (AsksNext draft key) reply goes tells =
      let along : HasRowsTo version draft key = goes.along in
      let keys = subst (λ (rows : List Row). HasDistinctKeys rows) along.whole distinct in
      let found : following key version.rows ≡ Some (first_of along.rest) =
      ap (λ (k : List ℕ). following k version.rows) along.last
      ∙ ap (λ (rows : List Row). following along.row.0 rows) along.whole
      ∙ following_is along.front along.row along.rest keys in
      let said : row_of xid reply ≡ row_said (first_of along.rest) =
      tells ∙ ap (λ (next : Option (Option Row)). next_said next) found in
      let here = along.front ++ along.row ∷ [] in
      let whole : version.rows ≡ here ++ along.rest =
      along.whole ∙ sym (append_assoc along.front (along.row ∷ []) along.rest) in
      let count : length along.rest + 1 ≤ n =
      omega (
        arith,
        goes.count,
        ap (λ (rows : List Row). length rows) whole,
        length-append here along.rest,
        ap (λ (d : Draft). length d.rows) along.so_far,
      ) in
      subst (λ (s : Result (List ℕ × List ℕ) ClientFault). Goes n (by_next wanted draft s)) (sym said)
      (subst (λ (s : WalkState). Goes n s) (sym (next_by draft (first_of along.rest)))
      (subst (λ (d : Draft). Goes n (by_first wanted d (row_said (first_of along.rest)))) (sym along.so_far)
      (rows_by n here along.rest whole count)))
  step n xid (AsksAgain draft why) reply goes tells =
      subst (λ (said : Result ℕ ClientFault). Goes n (by_again draft why said)) (sym tells)
      (subst (λ (w : Option XfrFault). Goes n (by_again draft w (Ok version.order))) (sym goes.along.1)
      (subst (λ (d : Draft). Goes n (by_again d None (Ok version.order))) (sym goes.along.0)
      (second_by n version.order (draft_with version version.rows) (eqb version.order version.order)
      (eq-eqb version.order version.order refl) refl)))
  step n xid (HasEnded outcome) reply goes tells = absurd tells

  weaken : (m n : ℕ) (standing : WalkState) → m ≤ n → Goes m standing → Goes n standing
  unfolding Goes
  weaken m n standing within goes = record { along = goes.along; count = omega (arith, goes.count, within) }

  walks : (n : ℕ) (walking : Walking) (replies : List (List ℕ)) → walking.wanted ≡ wanted
      → Goes (length replies + n) walking.standing → AllTell version walking replies
      → Goes n (came_of walking replies).standing
  walks n walking [] same goes tell =
      let none : List (List ℕ) = [] in
      weaken (length none + n) n walking.standing (omega arith) goes
  walks n walking (reply ∷ replies) same goes tell =
      let more : Goes (suc (length replies + n)) walking.standing =
      weaken (length (reply ∷ replies) + n) (suc (length replies + n)) walking.standing (omega arith) goes in
      walks n (gone_on walking reply) replies same
      (subst (λ (w : Wanted). Goes (length replies + n) (state_after w walking.xid walking.standing reply)) (sym same)
      (step (length replies + n) walking.xid walking.standing reply more tell.0)) tell.1

  -- where no mail more is taken and nothing stands against it, it is whole
  whole_by : (standing : WalkState) → Suits wanted version → Goes 0 standing
      → standing ≡ HasEnded (Ok (draft_with version version.rows))
  unfolding Goes
  whole_by AsksOrder suits goes = absurd (omega (arith, goes.count))
  whole_by (AsksMaster order) suits goes = absurd (omega (arith, goes.count))
  whole_by (AsksFirst draft) suits goes = absurd (omega (arith, goes.count))
  whole_by (AsksNext draft key) suits goes =
      let along : HasRowsTo version draft key = goes.along in
      absurd (omega (
        arith,
        goes.count,
        ap (λ (rows : List Row). length rows) along.whole,
        length-append along.front (along.row ∷ along.rest),
        ap (λ (d : Draft). length d.rows) along.so_far,
        length-append along.front (along.row ∷ []),
      ))
  whole_by (AsksAgain draft why) suits goes = absurd (omega (arith, goes.count))
  whole_by (HasEnded (Ok draft)) suits goes = ap (λ (d : Draft). HasEnded (Ok d)) goes.along
  whole_by (HasEnded (Err fault)) suits goes = absurd (not_own fault goes.along)
    where
      not_own : (fault : XfrFault) → IsOwn wanted version fault → ⊥
      not_own fault (inl order) = let e : (let n : Option XfrFault = None in n) ≡ Some fault = sym suits.order ∙ order in cc
      not_own fault (inr (inl master)) = let e : (let n : Option XfrFault = None in n) ≡ Some fault = sym suits.master ∙ master in cc
      not_own fault (inr (inr long)) = suits.calls long.1

pub told_is_walked : RisingIsDistinct → ToldIsWalked
unfolding Goes
told_is_walked law source wanted version replies is tell =
    (walks wanted version is (law version.rows is.rising) (length version.rows + 4) (begun source wanted) replies refl
    (record { along = tt; count = omega arith }) tell).along

pub told_is_whole : RisingIsDistinct → ToldIsWhole
unfolding Goes
told_is_whole law source wanted version replies is suits tell count =
    let distinct = law version.rows is.rising in
    whole_by wanted version is distinct (came_of (begun source wanted) replies).standing suits
    (walks wanted version is distinct 0 (begun source wanted) replies refl
    (record { along = tt; count = omega (arith, count) }) tell)
