-- The wires that a dial gained, and how many of them begin with an order, give a version, or give none.
use Rattle.std.specs.Prelude.{◌≡◌, ◌⊎◌, ℕ, suc, ◌+◌, ◌<◌, ◌≤◌, List, [], ◌∷◌, ◌++◌, length, Option, None, Some, Contains}
use Rattle.std.specs.Prelude.{IfSome, Ok, ⊤}
use Rattle.yp_io.specs.Counts.{last_count}
use Rattle.yp_io.specs.Dials.{Connected, Wires}
use Rattle.yp_version.specs.Versions.{MapVersion}
use Rattle.yp_publisher.specs.sharing.Tracing.{FetchLog}
use Rattle.yp_client.specs.Limits.{reply_max}
use Rattle.yp_client.specs.Results.{order_of}
use Rattle.yp_transfer.specs.Fetching.{Wanted}
use Rattle.yp_transfer.specs.Fetched.{StreamPlace, place_of, IsReplied, Fetched}

-- At least so many of a list have P.
abbrev pub AtLeast : {X : Type 0} → (X → Type 0) → ℕ → List X → Type 0
AtLeast P count [] = count ≡ 0
AtLeast P count (x ∷ xs) = AtLeast P count xs ⊎ (P x × ((fewer : ℕ) × (count ≡ suc fewer) × AtLeast P fewer xs))

-- ---- what came by a wire

-- Bytes begin with a whole reply to the first call, which has an order.
pub record BytesHaveOrder (stream : List ℕ) : Type 0 where
  pub order : ℕ
  pub next : StreamPlace
  pub replied : IsReplied reply_max order_of (Ok order) (place_of 1 0 stream) next

-- The input of a wire, where it is told, begins with a whole reply to the first call, which has an order.
abbrev pub BeginsWithOrder : Connected → Type 0
BeginsWithOrder wire = IfSome wire.input BytesHaveOrder

-- Bytes give a version, where none is shown. They fix it, whatever else is wanted.
pub record BytesGiveVersion (stream : List ℕ) : Type 0 where
  pub wanted : Wanted
  pub unshown : wanted.shown ≡ None
  pub version : MapVersion
  pub fetched : Fetched wanted (place_of 1 0 stream) (Ok version)

-- Bytes give this version, where none is shown.
pub record BytesGive (version : MapVersion) (stream : List ℕ) : Type 0 where
  pub wanted : Wanted
  pub unshown : wanted.shown ≡ None
  pub fetched : Fetched wanted (place_of 1 0 stream) (Ok version)

-- What came by a wire gives this version, where it is told.
abbrev pub GivesVersion : MapVersion → Connected → Type 0
GivesVersion version wire = IfSome wire.input (BytesGive version)

-- What came by a wire gives a version, where it is told.
abbrev pub IsGood : Connected → Type 0
IsGood wire = IfSome wire.input BytesGiveVersion

-- The input of a wire, where it is told, gives no version.
abbrev pub IsBad : Connected → Type 0
IsBad wire = IfSome wire.input (λ stream. BytesGiveVersion stream → ⊥)

-- ---- what covers that

-- A dial gained wires, of which at least so many have P, and no more went back to it than came.
pub record GainsAtLeast (P : Connected → Type 0) (old new : Wires) (count : ℕ) : Type 0 where
  pub gained : List Connected
  pub came : new.came ≡ old.came ++ gained
  pub fair : length new.back ≤ length new.came
  pub enough : AtLeast P count gained

-- Since then at least this many wires with the property P came of the dial, where the dial told its wires, and no more
-- wires had gone back than had come.
abbrev pub CoversBy : (Connected → Type 0) → Option Wires → Option Wires → ℕ → Type 0
CoversBy P None now count = ⊤
CoversBy P (Some old) None count = length old.back ≤ length old.came → ⊥
CoversBy P (Some old) (Some now) count = length old.back ≤ length old.came → GainsAtLeast P old now count

-- Since then a wire came of the dial that gives this version, where the dial told its wires.
abbrev pub CameByWire : Option Wires → Option Wires → MapVersion → Type 0
CameByWire old new version = CoversBy (GivesVersion version) old new 1

-- Since then such a wire came for each of these versions.
abbrev pub AllCameByWire : Option Wires → Option Wires → FetchLog → Type 0
AllCameByWire old new fetches = (version : MapVersion) → Contains fetches version → CameByWire old new version

-- At least as many wires that begin with an order came of the dial as orders were reached.
abbrev pub CoversOrders : Option Wires → Option Wires → ℕ → Type 0
CoversOrders = CoversBy BeginsWithOrder

-- The failed sources are at most as many as the faults of the dial and the wires that came and give no version, unless
-- the count of the dial's faults stands at its last value.
pub record CoversSources (old new : Option Wires) (faults faults' sources : ℕ) : Type 0 where
  pub bad : ℕ
  pub wires : CoversBy IsBad old new bad
  pub counted : faults' < last_count → faults + sources ≤ faults' + bad
