-- What a walk gives is what its source showed, under any schedule.
use Rattle.std.specs.Prelude.{◌≡◌, ◌≢◌, ◌⊎◌, ℕ, ◌+◌, ◌<◌, ◌≤◌, false, List, [], ◌∷◌, length, map, None, All}
use Rattle.yp_io.specs.declared.stream.Peer.{Peer}
use Rattle.yp_messages.specs.Numbers.{name_max}
use Rattle.yp_version.specs.Versions.{MapVersion}
use Rattle.yp_version.specs.Rows.{row_len}
use Rattle.yp_board.specs.Catalogues.{Catalogue}
use Rattle.yp_board.specs.Logs.{Log}
use Rattle.yp_board.specs.Views.{IsFront}
use Rattle.yp_publisher.specs.Rising.{IsRisingLog}
use Rattle.yp_answer.specs.Served.{AreServed, maps_on}
use Rattle.yp_transfer.specs.Fetching.{Wanted, against_order}
use Rattle.yp_end_to_end.specs.transfer.Replies.{IsShown, unsecured}
use Rattle.yp_rpc.specs.Turns.{datagram_max}
use Rattle.yp_transfer.specs.walk.Standings.{next_len}
use Rattle.yp_transfer.specs.walk.Schedules.{Delivery, begun, awaited, walk_by}
use Rattle.yp_end_to_end.specs.walk.Sources.{Event, WalkExchange, first_scene, AllHappen, deliveries_of}
use Rattle.yp_end_to_end.specs.walk.Mails.{SourceMail, last_front, GoesBy}

-- A source whose log rises up to this one answered a walk.
pub record IsSource (catalogue : Catalogue) (wanted : Wanted) (log : Log) : Type 0 where
  pub served : AreServed (maps_on catalogue log)
  pub rises : IsRisingLog log
  pub domain : length wanted.domain ≤ name_max
  pub map : length wanted.map ≤ name_max

-- A source shows a version at each moment from the first of some mails to the last.
pub record ShowsThroughout (catalogue : Catalogue) (wanted : Wanted) (version : MapVersion) (mails : List SourceMail)
    : Type 0 where
  pub first : SourceMail
  pub others : List SourceMail
  pub all : mails ≡ first ∷ others
  pub shown : (log : Log) → IsFront first.front log → IsFront log (last_front first.front others)
      → IsShown wanted version (maps_on catalogue log)

-- Versions of two orders were shown at the first awaited reply and at the last.
pub record ShowsTwo (catalogue : Catalogue) (wanted : Wanted) (first second : ℕ)
    (mails : List SourceMail) : Type 0 where
  pub made : SourceMail
  pub others : List SourceMail
  pub all : mails ≡ made ∷ others
  pub one : MapVersion
  pub other : MapVersion
  pub before : IsShown wanted one (maps_on catalogue made.front)
  pub after : IsShown wanted other (maps_on catalogue (last_front made.front others))
  pub is_first : one.order ≡ first
  pub is_second : other.order ≡ second
  pub differ : first ≢ second

-- Nothing of a version stands against a walk by this caller: its rows are shown to it, its master has a name, its order
-- is wanted, and each call and each reply fits into a datagram.
pub record IsWalkable (caller : Peer) (wanted : Wanted) (version : MapVersion) : Type 0 where
  pub rows : (version.secure ≡ false) ⊎ (caller.port < 1024)
  pub master : version.master ≢ []
  pub order : against_order wanted version.order ≡ None
  pub calls : All (λ row. next_len wanted row.0 ≤ datagram_max) version.rows
  pub replies : All (λ row. 28 + row_len row ≤ datagram_max) version.rows

-- a walk by a caller over a map of a source, and the mails that were delivered to it
pub record DeliveredWalk : Type 0 where
  pub caller : Peer
  pub source : Peer
  pub wanted : Wanted
  pub deliveries : List Delivery

-- These mails were delivered while a source whose log rises answered a walk.
pub record AnswersWalk (catalogue : Catalogue) (walk : DeliveredWalk) : Type 0 where
  pub log : Log
  pub events : List Event
  pub last : WalkExchange
  pub is_source : IsSource catalogue walk.wanted last.front
  pub happen : AllHappen catalogue walk.caller events (first_scene walk.source walk.wanted log) last
  pub delivered : deliveries_of events ≡ walk.deliveries

-- The awaited mails among the delivered ones are the replies of a source to the calls of a walk in turn, made while its
-- log grew from one to another. From the first of these mails to the last the source showed one version, and this
-- version has the same order, master and rows. What was delivered fixes the mails, but for the moments at which they
-- were made. What was shown at the first of them fixes the version.
pub record IsWalkedOf (catalogue : Catalogue) (walk : DeliveredWalk) (before last : Log)
    (version : MapVersion) : Type 0 where
  pub mails : List SourceMail
  pub heard : map (λ made. made.mail) mails ≡ awaited walk.source 1 walk.deliveries
  pub goes : GoesBy catalogue walk.caller mails before (begun walk.source walk.wanted)
      (walk_by walk.source walk.wanted walk.deliveries)
  pub ends : IsFront (last_front before mails) last
  pub origin : MapVersion
  pub throughout : ShowsThroughout catalogue walk.wanted origin mails
  pub same : version ≡ unsecured origin

-- The awaited mails among those that were delivered are the replies of a source, as above, which showed versions of
-- these two orders at the first of them and at the last.
pub record IsSkewOf (catalogue : Catalogue) (walk : DeliveredWalk) (before last : Log)
    (first second : ℕ) : Type 0 where
  pub mails : List SourceMail
  pub heard : map (λ made. made.mail) mails ≡ awaited walk.source 1 walk.deliveries
  pub goes : GoesBy catalogue walk.caller mails before (begun walk.source walk.wanted)
      (walk_by walk.source walk.wanted walk.deliveries)
  pub ends : IsFront (last_front before mails) last
  pub two : ShowsTwo catalogue walk.wanted first second mails
