-- Laws of walks over any schedule, each the statement of one function of laws.
use Rattle.std.specs.Prelude.{◌≡◌, ℕ, ◌+◌, List, length, map, Ok, Err}
use Rattle.yp_io.specs.declared.stream.Peer.{Peer}
use Rattle.yp_version.specs.Versions.{MapVersion, IsVersion, unmarked}
use Rattle.yp_version.specs.Rows.{listed}
use Rattle.yp_version.specs.Drafts.{Draft}
use Rattle.yp_board.specs.Catalogues.{Catalogue}
use Rattle.yp_board.specs.Logs.{Log}
use Rattle.yp_board.specs.Views.{IsFront}
use Rattle.yp_answer.specs.Served.{maps_on}
use Rattle.yp_transfer.specs.declared.fault.XfrFault.TheVariants.{Skew}
use Rattle.yp_transfer.specs.Fetching.{Wanted}
use Rattle.yp_end_to_end.specs.transfer.Replies.{IsShown}
use Rattle.yp_transfer.specs.walk.Standings.{HasEnded}
use Rattle.yp_transfer.specs.walk.Schedules.{Walking, begun, awaited, walk_by}
use Rattle.yp_transfer.specs.inside.walk.Told.{draft_with}
use Rattle.yp_end_to_end.specs.walk.Sources.{Event, WalkExchange, first_scene, AllHappen, deliveries_of}
use Rattle.yp_end_to_end.specs.walk.Mails.{SourceMail, last_front, GoesBy}
use Rattle.yp_end_to_end.specs.walk.Laws.{IsSource, ShowsThroughout, ShowsTwo, IsWalkable, DeliveredWalk, AnswersWalk}
use Rattle.yp_end_to_end.specs.walk.Laws.{IsWalkedOf, IsSkewOf}

-- What was heard of a source, whatever its network did, is a reply to each call in turn, on fronts of its log that
-- never go back: these are exactly the awaited mails among those that were delivered.
abbrev pub HeardIsInTurn : Type 0
HeardIsInTurn =
    (catalogue : Catalogue) (caller source : Peer) (wanted : Wanted) (log : Log) (events : List Event)
    (last : WalkExchange)
    → IsSource catalogue wanted last.front
    → AllHappen catalogue caller events (first_scene source wanted log) last
    → (mails : List SourceMail) × GoesBy catalogue caller mails log (begun source wanted) last.walk
    × IsFront (last_front log mails) last.front
    × (map (λ made. made.mail) mails ≡ awaited source 1 (deliveries_of events))

-- Where a walk is done, it has the order, the master and the rows of the one version that its source showed at each
-- moment from the first awaited reply to the last.
abbrev pub WalkedIsShown : Type 0
WalkedIsShown =
    (catalogue : Catalogue) (caller source : Peer) (wanted : Wanted) (before log : Log) (mails : List SourceMail)
    (walk : Walking) (draft : Draft)
    → IsSource catalogue wanted log
    → GoesBy catalogue caller mails before (begun source wanted) walk
    → IsFront (last_front before mails) log
    → walk.standing ≡ HasEnded (Ok draft)
    → (version : MapVersion) × IsVersion version × ShowsThroughout catalogue wanted version mails
    × (draft ≡ draft_with version version.rows)

-- A walk is refused for its order alone where its source showed another version meanwhile.
abbrev pub SkewIsShown : Type 0
SkewIsShown =
    (catalogue : Catalogue) (caller source : Peer) (wanted : Wanted) (before log : Log) (mails : List SourceMail)
    (walk : Walking) (first second : ℕ)
    → IsSource catalogue wanted log
    → GoesBy catalogue caller mails before (begun source wanted) walk
    → IsFront (last_front before mails) log
    → walk.standing ≡ HasEnded (Err (Skew first second))
    → ShowsTwo catalogue wanted first second mails

-- A walk over such a version, which is shown throughout, is done behind one mail for each row and four more.
abbrev pub ShownIsWalked : Type 0
ShownIsWalked =
    (catalogue : Catalogue) (caller source : Peer) (wanted : Wanted) (before log : Log) (mails : List SourceMail)
    (walk : Walking) (version : MapVersion)
    → IsSource catalogue wanted log
    → GoesBy catalogue caller mails before (begun source wanted) walk
    → IsFront (last_front before mails) log
    → IsWalkable caller wanted version
    → ((front : Log) → IsFront before front → IsFront front log → IsShown wanted version (maps_on catalogue front))
    → length mails ≡ length version.rows + 4
    → walk.standing ≡ HasEnded (Ok (draft_with version version.rows))

-- A walk behind all that happened is the one by what was delivered.
abbrev pub HappenedIsDelivered : Type 0
HappenedIsDelivered =
    (catalogue : Catalogue) (caller source : Peer) (wanted : Wanted) (log : Log) (events : List Event)
    (last : WalkExchange)
    → AllHappen catalogue caller events (first_scene source wanted log) last
    → last.walk ≡ walk_by source wanted (deliveries_of events)

-- A version that a walk over delivered mails gives is a version that its source showed throughout.
abbrev pub DeliveredIsOfSource : Type 0
DeliveredIsOfSource =
    (catalogue : Catalogue) (walk : DeliveredWalk) (draft : Draft)
    → (answers : AnswersWalk catalogue walk)
    → (walk_by walk.source walk.wanted walk.deliveries).standing ≡ HasEnded (Ok draft)
    → IsWalkedOf catalogue walk answers.log answers.last.front
    (unmarked draft.order draft.master (listed draft.rows))

-- Where that source shows one version throughout, against which nothing stands, and a mail for each of its rows and
-- four more are awaited among those that were delivered, the walk by these is done with that version.
abbrev pub DeliveredIsWhole : Type 0
DeliveredIsWhole =
    (catalogue : Catalogue) (walk : DeliveredWalk) (version : MapVersion)
    → (answers : AnswersWalk catalogue walk)
    → IsWalkable walk.caller walk.wanted version
    → ((front : Log) → IsFront answers.log front → IsFront front answers.last.front
    → IsShown walk.wanted version (maps_on catalogue front))
    → length (awaited walk.source 1 walk.deliveries) ≡ length version.rows + 4
    → (walk_by walk.source walk.wanted walk.deliveries).standing ≡ HasEnded (Ok (draft_with version version.rows))

-- A walk by these mails is refused for two orders only where that source showed both.
abbrev pub DeliveredSkews : Type 0
DeliveredSkews =
    (catalogue : Catalogue) (walk : DeliveredWalk) (first second : ℕ)
    → (answers : AnswersWalk catalogue walk)
    → (walk_by walk.source walk.wanted walk.deliveries).standing ≡ HasEnded (Err (Skew first second))
    → IsSkewOf catalogue walk answers.log answers.last.front first second
