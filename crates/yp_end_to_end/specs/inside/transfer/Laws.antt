-- What is fetched from a server, and what that shows.
use Rattle.std.specs.Prelude.{◌≡◌, ◌≢◌, ◌⊎◌, ℕ, ◌<◌, ◌≤◌, false, List, [], ◌∷◌, length, None, Ok}
use Rattle.yp_io.specs.declared.stream.Peer.{Peer}
use Rattle.yp_rpc.specs.inside.Laws.{IsWord}
use Rattle.yp_messages.specs.Numbers.{name_max}
use Rattle.yp_version.specs.Versions.{MapVersion}
use Rattle.yp_board.specs.Catalogues.{Catalogue}
use Rattle.yp_board.specs.Logs.{Log}
use Rattle.yp_board.specs.Views.{IsFront}
use Rattle.yp_publisher.specs.Rising.{IsRisingLog}
use Rattle.yp_transfer.specs.Fetching.{Wanted, FetchOutcome, against_order}
use Rattle.yp_transfer.specs.Fetched.{place_of, Fetched}
use Rattle.yp_end_to_end.specs.transfer.Replies.{unsecured, IsShown}
use Rattle.yp_end_to_end.specs.inside.transfer.Replies.{Moments, AtEach, GivesFetch}
use Rattle.yp_answer.specs.Served.{AreServed, maps_on}

-- four fronts of one log that rises, each of which begins the next
pub record Fronts : Type 0 where
  pub first : Log
  pub second : Log
  pub third : Log
  pub fourth : Log
  pub log : Log
  pub begins : IsFront first second
  pub grows : IsFront second third
  pub goes_on : IsFront third fourth
  pub ends : IsFront fourth log
  pub rises : IsRisingLog log

-- the four
abbrev pub all_fronts : Fronts → List Log
all_fronts fronts = fronts.first ∷ fronts.second ∷ fronts.third ∷ fronts.fourth ∷ []

-- what a server with this catalogue knows then
abbrev pub moments_on : Catalogue → Fronts → Moments
moments_on catalogue fronts = record {
  first = maps_on catalogue fronts.first;
  second = maps_on catalogue fronts.second;
  third = maps_on catalogue fronts.third;
  fourth = maps_on catalogue fronts.fourth;
}

-- What is fetched from a source whose log rises is what it showed at all four replies, but for its mark.
abbrev pub FetchedIsShown : Type 0
FetchedIsShown =
    (catalogue : Catalogue) (fronts : Fronts) (peer : Peer) (wanted : Wanted) (xid at : ℕ) (stream : List ℕ)
    (version : MapVersion)
    → AreServed (maps_on catalogue fronts.log)
    → IsWord xid
    → length wanted.domain ≤ name_max
    → length wanted.map ≤ name_max
    → GivesFetch peer wanted.domain wanted.map (moments_on catalogue fronts) xid stream
    → Fetched wanted (place_of xid at stream) (Ok version)
    → (source : MapVersion) × AtEach (IsShown wanted source) (moments_on catalogue fronts)
    × (version ≡ unsecured source)

-- Where the source shows one version at all four replies, its rows to this caller, too, whose master has a name and
-- whose order is over the one that is shown, or it is forced, that is fetched.
abbrev pub ShownIsFetched : Type 0
ShownIsFetched =
    (moments : Moments) (peer : Peer) (wanted : Wanted) (xid at : ℕ) (stream : List ℕ) (source : MapVersion)
    (outcome : FetchOutcome)
    → AtEach AreServed moments
    → IsWord xid
    → length wanted.domain ≤ name_max
    → length wanted.map ≤ name_max
    → AtEach (IsShown wanted source) moments
    → (source.secure ≡ false) ⊎ (peer.port < 1024)
    → source.master ≢ []
    → against_order wanted source.order ≡ None
    → GivesFetch peer wanted.domain wanted.map moments xid stream
    → Fetched wanted (place_of xid at stream) outcome
    → outcome ≡ Ok (unsecured source)
