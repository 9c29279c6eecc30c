-- The status of a transfer that a worker carries out.
use Rattle.std.specs.Prelude.{◌≡◌, ◌≢◌, ◌⊎◌, ℕ, false, List, None, option_map, slice_get, IfSome, Ok, Err}
use Rattle.yp_io.specs.Dials.{Dialing}
use Rattle.yp_messages.specs.declared.transfer.XfrStat.{XfrStat}
use Rattle.yp_messages.specs.declared.transfer.XfrStat.TheVariants.{Succ, Maddr}
use Rattle.yp_version.specs.Versions.{MapVersion}
use Rattle.yp_board.specs.Catalogues.{Catalogue, Name}
use Rattle.yp_board.specs.Logs.{Log, shown}
use Rattle.yp_answer.specs.Transfer.{Taken}
use Rattle.yp_publisher.specs.declared.install.Origin.TheVariants.{Fetched}
use Rattle.yp_publisher.specs.declared.sharing.locked.ShareFault.{ShareFault}
use Rattle.yp_publisher.specs.Stats.{share_stat}
use Rattle.yp_publisher.specs.sharing.Shares.{IsShownBehind}
use Rattle.yp_publisher.specs.sharing.Shares.{IsReason}
use Rattle.yp_transfer.specs.Dialing.{FetchesFrom}
use Rattle.yp_transfer.specs.Faults.{stat_of}
use Rattle.yp_transfer.specs.Fetching.{Wanted, wanted_of, FetchOutcome}
use Rattle.yp_transfer.specs.HostTable.{HostList, find}

-- A fetched version was shown, and the status is SUCC; or it wasn't, for a fault whose reason is known, and the status
-- is that of the fault.
abbrev pub IsInstalledAs : List ℕ → ℕ → MapVersion → XfrStat → Log → Log → Type 0
IsInstalledAs own number version stat old new =
    ((stat ≡ Succ) × IsShownBehind own number version Fetched old new)
    ⊎ ((fault : ShareFault) × (stat ≡ share_stat fault) × IsReason own number version Fetched fault new)

-- What was fetched is installed. Where nothing was, the status is that of the fault.
abbrev pub InstallsAs : List ℕ → ℕ → FetchOutcome → XfrStat → Log → Log → Type 0
InstallsAs own number (Ok version) stat old new = IsInstalledAs own number version stat old new
InstallsAs own number (Err fault) stat old new = (stat ≡ stat_of fault) × (new ≡ old)

-- what is wanted of a map: an order over the one that is shown of it
abbrev pub wanted_behind : ℕ → Name → Log → Wanted
wanted_behind number name log =
    wanted_of name.0 name.1 (option_map (λ version. version.order) (shown number log)) false

-- A map was fetched from a source that has an address, what came of it was installed, and that has this status.
pub record FetchesAs (served : Catalogue) (hosts : HostList) (taken : Taken) (stat : XfrStat) (old new : Log)
    : Type 0 where
  pub outcome : FetchOutcome
  pub before : Dialing
  pub after : Dialing
  pub fetches : IfSome (slice_get served.maps taken.map)
      (λ name. FetchesFrom hosts taken.source (wanted_behind taken.map name old) outcome before after)
  pub installs : InstallsAs served.own taken.map outcome stat old new

-- A transfer has this status: its source has no address, or the map was fetched.
abbrev pub HasStatus : Catalogue → HostList → Taken → XfrStat → Log → Log → Type 0
HasStatus served hosts taken stat old new =
    ((find taken.source hosts ≡ None) × (stat ≡ Maddr) × (new ≡ old))
    ⊎ ((find taken.source hosts ≢ None) × FetchesAs served hosts taken stat old new)
