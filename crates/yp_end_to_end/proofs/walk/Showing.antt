-- What a walk gives is what its source shows.
use Rattle.std.proofs.Common.{◌≡◌, ℕ, ◌+◌, ◌<◌, ◌≤◌, ◌⊎◌, Bool, true, false, cond, List, [], ◌∷◌, ◌++◌, length, map, Option}
use Rattle.std.proofs.Common.{Some, None, Result, Ok, Err, refl, sym, ap, subst, ◌∙◌, inl, inr, arith, All, bytes_eq}
use Rattle.std.specs.Prelude.{nat_lt}
use Rattle.std.proofs.lemmas.List.Elements.{All-head, All-tail}
use Rattle.yp_io.specs.declared.stream.Peer.{Peer}
use Rattle.yp_rpc.specs.Turns.{datagram_max}
use Rattle.yp_messages.specs.declared.stat.YpStat.{YpStat}
use Rattle.yp_messages.specs.declared.stat.YpStat.TheVariants as stats
use Rattle.yp_version.specs.Rows.{Row, row_len, first_of, following}
use Rattle.yp_version.specs.Versions.{MapVersion}
use Rattle.yp_board.specs.Catalogues.{Catalogue, is_name}
use Rattle.yp_board.specs.Logs.{Log}
use Rattle.yp_board.specs.Views.{IsFront}
use Rattle.yp_answer.specs.Maps.{Maps, row_check}
use Rattle.yp_answer.specs.Served.{maps_on}
use Rattle.yp_client.specs.declared.fault.ClientFault.{ClientFault}
use Rattle.yp_client.specs.declared.fault.ClientFault.TheVariants.{Yp}
use Rattle.yp_end_to_end.specs.exchange.Told.{told, of_version, order_in, master_in}
use Rattle.yp_end_to_end.specs.inside.exchange.Mail.{row_mailed, row_behind_mailed, first_mailed, next_mailed}
use Rattle.yp_transfer.specs.declared.fault.XfrFault.{XfrFault}
use Rattle.yp_transfer.specs.declared.fault.XfrFault.TheVariants.{Skew, Dbm}
use Rattle.yp_transfer.specs.Faults.{of_client}
use Rattle.yp_transfer.specs.Fetching.{Wanted, against_master}
use Rattle.yp_end_to_end.specs.transfer.Replies.{IsShown}
use Rattle.yp_end_to_end.specs.inside.transfer.Shown.{FrontIsServed, ShownBetween, ShowsRows, ShownIsSound}
use Rattle.yp_transfer.specs.walk.Standings.{WalkState, AsksOrder, AsksMaster, AsksFirst, AsksNext, AsksAgain, HasEnded}
use Rattle.yp_transfer.specs.walk.Standings.{refusal, state_after, by_first, by_next, next_len}
use Rattle.yp_transfer.specs.walk.Schedules.{Walking, gone_on, begun, came_of}
use Rattle.yp_transfer.specs.inside.walk.Told.{row_said, next_said, SaysOfVersion, AllTell, IsAlong, ToldIsWalked}
use Rattle.yp_transfer.specs.inside.walk.Told.{ToldIsWhole, HasLongCall}
use Rattle.yp_end_to_end.specs.walk.Mails.{SourceMail, last_front, GoesBy}
use Rattle.yp_end_to_end.specs.walk.Laws.{IsSource, IsWalkable}
use Rattle.yp_end_to_end.specs.inside.walk.Laws.{WalkedIsShown, SkewIsShown, ShownIsWalked}
use Rattle.yp_end_to_end.proofs.walk.Telling.{Mails, Says, IsNumbered}
use Rattle.yp_end_to_end.proofs.walk.Counting.{next_is_numbered}
use Rattle.yp_end_to_end.proofs.walk.Turning.{front_itself, front_then}
use Rattle.yp_end_to_end.proofs.walk.Leading.{IsOther, rest_is_none, front_of_last, says_first, last_ends, first_order}

-- ---- a row that a datagram carries, or doesn't

abbrev IsLong : Option Row → Type 0
IsLong (Some row) = datagram_max < 28 + row_len row
IsLong None = ⊥

abbrev IsLongNext : Option (Option Row) → Type 0
IsLongNext (Some next) = IsLong next
IsLongNext None = ⊥

abbrev yperr : Result (List ℕ × List ℕ) ClientFault
yperr = Err (Yp stats.Yperr)

row_carried : (found : Option Row) → (told (row_mailed found) ≡ row_said found) ⊎ ((told (row_mailed found) ≡ yperr) × IsLong found)
row_carried None = inl refl
row_carried (Some row) = by (nat_lt datagram_max (28 + row_len row)) refl
  where
    by : (long : Bool) → nat_lt datagram_max (28 + row_len row) ≡ long
        → (told (cond long (Err stats.Yperr) (Ok (row.1, row.0))) ≡ row_said (Some row))
        ⊎ ((told (cond long (Err stats.Yperr) (Ok (row.1, row.0))) ≡ yperr) × IsLong (Some row))
    by true is = inr (refl, grind (arith, is))
    by false is = inl refl

next_carried : (found : Option (Option Row))
    → (told (row_behind_mailed found) ≡ next_said found) ⊎ ((told (row_behind_mailed found) ≡ yperr) × IsLongNext found)
next_carried None = inl refl
next_carried (Some next) = row_carried next

-- ---- what stands between a version and a walk over it

abbrev IsSecret : ℕ → MapVersion → Type 0
IsSecret port version = (version.secure ≡ true) × (1024 ≤ port)

abbrev Bars : ℕ → MapVersion → WalkState → Type 0
Bars port version (AsksFirst draft) = IsSecret port version ⊎ IsLong (first_of version.rows)
Bars port version (AsksNext draft key) = IsSecret port version ⊎ IsLongNext (following key version.rows)
Bars port version standing = ⊥

-- ---- one reply

module _ (maps : Maps) (caller : Peer) (wanted : Wanted) (xid : ℕ) (version : MapVersion)
    (shown : IsShown wanted version maps) (rows : ShowsRows caller.port version (row_check maps caller.port wanted.domain wanted.map))
    (mail : List ℕ) where
  -- what the rows of the version tell, or YPERR
  held_rows : (answer : MapVersion → Result (List ℕ × List ℕ) YpStat)
      → (told (of_version answer (row_check maps caller.port wanted.domain wanted.map)) ≡ told (answer version))
      ⊎ ((told (of_version answer (row_check maps caller.port wanted.domain wanted.map)) ≡ yperr) × IsSecret caller.port version)
  held_rows answer = elim rows [
    | inl is ↦ inl (ap (λ (r : Result MapVersion YpStat). told (of_version answer r)) is)
    | inr secret ↦ inr (ap (λ (r : Result MapVersion YpStat). told (of_version answer r)) secret.0, (secret.1, secret.2))
  ]

  Told : WalkState → Type 0
  Told standing =
      SaysOfVersion version xid standing mail
      ⊎ ((state_after wanted xid standing mail ≡ refusal (of_client (Yp stats.Yperr))) × Bars caller.port version standing)

  tells : (standing : WalkState) → Says maps caller wanted xid standing mail → Told standing
  unfolding Told
  tells AsksOrder says = inl (says ∙ ap (λ (r : Result MapVersion YpStat). told (of_version order_in r)) shown)
  tells (AsksMaster order) says = inl (says ∙ ap (λ (r : Result MapVersion YpStat). told (of_version master_in r)) shown)
  tells (AsksFirst draft) says =
      elim (held_rows first_mailed) [
        | inl is ↦
            elim (row_carried (first_of version.rows)) [
              | inl said ↦ inl (says ∙ is ∙ said)
              | inr long ↦ inr (
                ap (λ (r : Result (List ℕ × List ℕ) ClientFault). by_first wanted draft r) (says ∙ is ∙ long.0),
                inr long.1,
              )
            ]
        | inr secret ↦ inr (
          ap (λ (r : Result (List ℕ × List ℕ) ClientFault). by_first wanted draft r) (says ∙ secret.0),
          inl secret.1,
        )
      ]
  tells (AsksNext draft key) says =
      elim (held_rows (next_mailed key)) [
        | inl is ↦
            elim (next_carried (following key version.rows)) [
              | inl said ↦ inl (says ∙ is ∙ said)
              | inr long ↦ inr (
                ap (λ (r : Result (List ℕ × List ℕ) ClientFault). by_next wanted draft r) (says ∙ is ∙ long.0),
                inr long.1,
              )
            ]
        | inr secret ↦ inr (
          ap (λ (r : Result (List ℕ × List ℕ) ClientFault). by_next wanted draft r) (says ∙ secret.0),
          inl secret.1,
        )
      ]
  tells (AsksAgain draft why) says = inl (says ∙ ap (λ (r : Result MapVersion YpStat). told (of_version order_in r)) shown)
  tells (HasEnded outcome) says = absurd says

-- ---- in turn

mails_of : List SourceMail → List (List ℕ)
mails_of mails = map (λ made. made.mail) mails

module _ (laws : Mails) (serves : FrontIsServed) (sound : ShownIsSound) (catalogue : Catalogue) (caller : Peer) (log : Log) where
  came : (mails : List SourceMail) (before : Log) (old new : Walking) → GoesBy catalogue caller mails before old new
      → came_of old (mails_of mails) ≡ new
  unfolding mails_of
  came [] before old new goes = sym goes
  came (made ∷ mails) before old new goes = came mails made.front (gone_on old made.mail) new goes.3

  all_tell : (version : MapVersion) (mails : List SourceMail) (before : Log) (old new : Walking)
      → IsSource catalogue old.wanted log → GoesBy catalogue caller mails before old new
      → IsFront (last_front before mails) log → IsNumbered old.xid old.standing
      → ((at : Log) → IsFront before at → IsFront at (last_front before mails) → IsShown old.wanted version (maps_on catalogue at))
      → ((standing : WalkState) → Bars caller.port version standing → new.standing ≡ refusal (of_client (Yp stats.Yperr)) → ⊥)
      → AllTell version old (mails_of mails)
  unfolding mails_of Told
  all_tell version [] before old new source goes ends numbered shown never = tt
  all_tell version (made ∷ mails) before old new source goes ends numbered shown never =
      let to_last = front_of_last catalogue caller mails made.front (gone_on old made.mail) new goes.3 in
      let here = shown made.front goes.1 to_last in
      let served = serves catalogue made.front log (front_then made.front (last_front made.front mails) log to_last ends) source.served in
      let rows = (sound (maps_on catalogue made.front) caller.port old.wanted.domain old.wanted.map version served here).1 in
      let says = says_first catalogue caller laws serves log made mails before old new source goes ends numbered in
      elim (tells (maps_on catalogue made.front) caller old.wanted old.xid version here rows made.mail old.standing says) [
        | inl is ↦ (
          is,
          all_tell version mails made.front (gone_on old made.mail) new source goes.3 ends
              (next_is_numbered old.wanted old.xid old.standing made.mail goes.0 numbered)
              (λ at begins later. shown at (front_then before made.front at goes.1 begins) later) never,
        )
        | inr bars ↦
            let none = rest_is_none catalogue caller mails made.front (gone_on old made.mail) new _ bars.0 goes.3 in
            absurd (never old.standing bars.1 (ap (λ (w : Walking). w.standing) none.1 ∙ bars.0))
      ]

-- ---- done

pub walked_is_shown : Mails → FrontIsServed → ShownIsSound → ShownBetween → ToldIsWalked → WalkedIsShown
unfolding mails_of
walked_is_shown laws serves sound between walked catalogue caller source wanted before log [] walk draft is_source goes ends done =
    absurd (let is : (let asks : WalkState = AsksOrder in asks) ≡ HasEnded (Ok draft) =
    ap (λ (w : Walking). w.standing) (sym goes) ∙ done in cc)
walked_is_shown laws serves sound between walked catalogue caller source wanted before log (made ∷ others) walk draft is_source goes ends done =
    let says = says_first catalogue caller laws serves log made others before (begun source wanted) walk is_source goes ends refl in
    let next = gone_on (begun source wanted) made.mail in
    elim (first_order (maps_on catalogue made.front) caller source wanted made.mail says) [
      | inl begins ↦
          let last = last_ends catalogue caller laws serves log begins.version.order others made.front next walk (Ok draft)
          is_source goes.3 ends (next_is_numbered wanted 1 AsksOrder made.mail tt refl) begins.kept done in
          let version = begins.version in
          let shown : (at : Log) → IsFront made.front at → IsFront at (last_front made.front others)
          → IsShown wanted version (maps_on catalogue at) =
          λ at starts stops. between catalogue made.front at (last_front made.front others) log wanted.domain wanted.map
          version last.0 is_source.rises starts stops ends begins.shown last.1 (sym last.2) in
          let never : (standing : WalkState) → Bars caller.port version standing
          → walk.standing ≡ refusal (of_client (Yp stats.Yperr)) → ⊥ =
          λ standing bars is. (let both : HasEnded (Ok draft) ≡ refusal (of_client (Yp stats.Yperr)) = sym done ∙ is in cc) in
          let again : GoesBy catalogue caller (made ∷ others) made.front (begun source wanted) walk =
          (goes.0, front_itself made.front, goes.2, goes.3) in
          let tell = all_tell laws serves sound catalogue caller log version (made ∷ others) made.front (begun source wanted)
          walk is_source again ends refl shown never in
          let to_last = front_of_last catalogue caller others made.front next walk goes.3 in
          let served = serves catalogue made.front log (front_then made.front (last_front made.front others) log to_last ends)
          is_source.served in
          let is = (sound (maps_on catalogue made.front) caller.port wanted.domain wanted.map version served begins.shown).0 in
          let along = walked source wanted version (mails_of (made ∷ others)) is tell in
          let at_end : (came_of (begun source wanted) (mails_of (made ∷ others))).standing ≡ HasEnded (Ok draft) =
          ap (λ (w : Walking). w.standing)
          (came laws serves sound catalogue caller log (made ∷ others) made.front (begun source wanted) walk again) ∙ done in (
            version,
            is,
            record { first = made; others = others; all = refl; shown = shown },
            subst (λ (s : WalkState). IsAlong wanted version s) at_end along,
          )
      | inr over ↦
          let none = rest_is_none catalogue caller others made.front next walk _ over.1 goes.3 in
          absurd (let both : refusal over.0 ≡ HasEnded (Ok draft) =
          sym over.1 ∙ ap (λ (w : Walking). w.standing) (sym none.1) ∙ done in cc)
    ]

-- ---- two orders

skew_or : (fault : XfrFault) (first second : ℕ) → fault ≡ Skew first second → IsOther fault → ⊥
skew_or fault first second is other = subst IsOther is other

pub skew_is_shown : Mails → FrontIsServed → SkewIsShown
skew_is_shown laws serves catalogue caller source wanted before log [] walk first second is_source goes ends skew =
    absurd (let is : (let asks : WalkState = AsksOrder in asks) ≡ HasEnded (Err (Skew first second)) =
    ap (λ (w : Walking). w.standing) (sym goes) ∙ skew in cc)
skew_is_shown laws serves catalogue caller source wanted before log (made ∷ others) walk first second is_source goes ends skew =
    let says = says_first catalogue caller laws serves log made others before (begun source wanted) walk is_source goes ends refl in
    let next = gone_on (begun source wanted) made.mail in
    elim (first_order (maps_on catalogue made.front) caller source wanted made.mail says) [
      | inl begins ↦
          let last = last_ends catalogue caller laws serves log begins.version.order others made.front next walk
          (Err (Skew first second)) is_source goes.3 ends (next_is_numbered wanted 1 AsksOrder made.mail tt refl)
          begins.kept skew in
          record {
            made = made;
            others = others;
            all = refl;
            one = begins.version;
            other = last.0;
            before = begins.shown;
            after = last.1;
            is_first = sym last.3;
            is_second = last.2;
            differ = last.4;
          }
      | inr over ↦
          let none = rest_is_none catalogue caller others made.front next walk _ over.1 goes.3 in
          let both : refusal over.0 ≡ refusal (Skew first second) =
          sym over.1 ∙ ap (λ (w : Walking). w.standing) (sym none.1) ∙ skew in
          absurd (skew_or over.0 first second (let same : over.0 ≡ Skew first second = cc in same) over.2)
    ]

-- ---- whole

abbrev IsCarried : Row → Type 0
IsCarried row = 28 + row_len row ≤ datagram_max

first_fits : (rows : List Row) → All IsCarried rows → IsLong (first_of rows) → ⊥
first_fits [] all long = long
first_fits (row ∷ rows) all long = omega (arith, All-head IsCarried row rows all, long)

one_fits : (b : Bool) (one other : Option (Option Row)) → (IsLongNext one → ⊥) → (IsLongNext other → ⊥)
    → IsLongNext (cond b one other) → ⊥
one_fits true one other first second = first
one_fits false one other first second = second

next_fits : (key : List ℕ) (rows : List Row) → All IsCarried rows → IsLongNext (following key rows) → ⊥
next_fits key [] all long = long
next_fits key (row ∷ rows) all long =
    let rest = All-tail IsCarried row rows all in
    one_fits (bytes_eq row.0 key) (Some (first_of rows)) (following key rows) (first_fits rows rest)
    (next_fits key rows rest) long

not_secret : (port : ℕ) (version : MapVersion) → (version.secure ≡ false) ⊎ (port < 1024) → IsSecret port version → ⊥
not_secret port version (inl plain) secret = let both : true ≡ false = sym secret.0 ∙ plain in cc
not_secret port version (inr low) secret = omega (arith, low, secret.1)

no_bar : (caller : Peer) (wanted : Wanted) (version : MapVersion) → IsWalkable caller wanted version
    → (standing : WalkState) → Bars caller.port version standing → ⊥
no_bar caller wanted version may (AsksFirst draft) (inl secret) = not_secret caller.port version may.rows secret
no_bar caller wanted version may (AsksFirst draft) (inr long) = first_fits version.rows may.replies long
no_bar caller wanted version may (AsksNext draft key) (inl secret) = not_secret caller.port version may.rows secret
no_bar caller wanted version may (AsksNext draft key) (inr long) = next_fits key version.rows may.replies long
no_bar caller wanted version may AsksOrder bars = bars
no_bar caller wanted version may (AsksMaster order) bars = bars
no_bar caller wanted version may (AsksAgain draft why) bars = bars
no_bar caller wanted version may (HasEnded outcome) bars = bars

some_bytes : (bytes : List ℕ) → (bytes ≡ [] → ⊥) → 0 < length bytes
some_bytes [] some = absurd (some refl)
some_bytes (byte ∷ bytes) some = omega arith

has_name : (master : List ℕ) → (master ≡ [] → ⊥) → length master ≤ 64 → against_master master ≡ None
has_name master some few =
    let is : is_name master ≡ true = grind (arith, some_bytes master some, few) in
    ap (λ (b : Bool). cond b None (Some Dbm)) is

of_middle : (P : Row → Type 0) (front : List Row) (row : Row) (rest : List Row) → All P (front ++ row ∷ rest) → P row
of_middle P [] row rest all = All-head P row rest all
of_middle P (first ∷ front) row rest all = of_middle P front row rest (All-tail P first (front ++ row ∷ rest) all)

no_long_call : (wanted : Wanted) (version : MapVersion) → All (λ row. next_len wanted row.0 ≤ datagram_max) version.rows
    → HasLongCall wanted version → ⊥
no_long_call wanted version fit long =
    omega (
      arith,
      long.long,
      of_middle (λ row. next_len wanted row.0 ≤ datagram_max) long.front long.row long.rest
          (subst (λ (rows : List Row). All (λ row. next_len wanted row.0 ≤ datagram_max) rows) long.whole fit),
    )

mails_len : (mails : List SourceMail) → length (mails_of mails) ≡ length mails
unfolding mails_of
mails_len [] = refl
mails_len (made ∷ mails) = omega (arith, mails_len mails)

pub shown_is_walked : Mails → FrontIsServed → ShownIsSound → ToldIsWhole → ShownIsWalked
unfolding mails_of
shown_is_walked laws serves sound whole catalogue caller source wanted before log mails walk version is_source goes ends may shown count =
    let last = last_front before mails in
    let begins = front_of_last catalogue caller mails before (begun source wanted) walk goes in
    let served = serves catalogue last log ends is_source.served in
    let is = (sound (maps_on catalogue last) caller.port wanted.domain wanted.map version served (shown last begins ends)).0 in
    let tell = all_tell laws serves sound catalogue caller log version mails before (begun source wanted) walk is_source goes
    ends refl (λ at starts stops. shown at starts (front_then at last log stops ends))
    (λ standing bars refused. no_bar caller wanted version may standing bars) in
    let ended = whole source wanted version (mails_of mails) is
    (record {
      order = may.order;
      master = has_name version.master may.master is.master;
      calls = no_long_call wanted version may.calls;
    }) tell (omega (arith, mails_len mails, count)) in
    ap (λ (w : Walking). w.standing)
    (sym (came laws serves sound catalogue caller log mails before (begun source wanted) walk goes)) ∙ ended
