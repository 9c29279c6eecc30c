-- The status of a map that was fetched.
use Rattle.std.proofs.Common.{◌≡◌, ◌≢◌, ℕ, false, List, Option, None, Some, option_map, inr, refl, subst}
use Rattle.std.specs.Prelude.{slice_get}
use Rattle.yp_io.specs.Dials.{Dialing}
use Rattle.yp_messages.specs.declared.transfer.XfrStat.{XfrStat}
use Rattle.yp_messages.specs.declared.transfer.XfrStat.TheVariants.{Rsrc}
use Rattle.yp_board.specs.Catalogues.{Catalogue, Name}
use Rattle.yp_board.specs.Logs.{Log, shown}
use Rattle.yp_answer.specs.Transfer.{Taken}
use Rattle.yp_version.specs.Versions.{MapVersion}
use Rattle.yp_publisher.specs.declared.install.InstallFault.TheVariants as fault
use Rattle.yp_publisher.specs.declared.sharing.locked.ShareFault.TheVariants.{Unfit}
use Rattle.yp_transfer.specs.Dialing.{FetchesFrom}
use Rattle.yp_transfer.specs.Fetching.{wanted_of, FetchOutcome}
use Rattle.yp_transfer.specs.HostTable.{HostList, find}
use Rattle.yp_host.specs.workers.Statuses.{IsInstalledAs, InstallsAs, HasStatus}

-- a map by this name was fetched behind the order that is shown of it, and what came of it was installed
pub fetched_as : (served : Catalogue) (hosts : HostList) (taken : Taken) (name : Name) (behind : Option ℕ)
    (outcome : FetchOutcome) (stat : XfrStat) (old new : Log) (before after : Dialing)
    → slice_get served.maps taken.map ≡ Some name
    → behind ≡ option_map (λ version. version.order) (shown taken.map old)
    → find taken.source hosts ≢ None
    → FetchesFrom hosts taken.source (wanted_of name.0 name.1 behind false) outcome before after
    → InstallsAs served.own taken.map outcome stat old new
    → HasStatus served hosts taken stat old new
fetched_as served hosts taken name behind outcome stat old new before after named is_behind found fetches installs =
    inr (
      found,
      record {
        outcome = outcome;
        before = before;
        after = after;
        fetches = rw named
            (subst (λ (order : Option ℕ). FetchesFrom hosts taken.source (wanted_of name.0 name.1 order false) outcome before after)
            is_behind fetches);
        installs = installs;
      },
    )

-- a version that isn't known to be fetched is as one for which memory ran out
pub not_known : (own : List ℕ) (number : ℕ) (version : MapVersion) (old new : Log)
    → IsInstalledAs own number version Rsrc old new
not_known own number version old new = inr (Unfit fault.NoMemory, refl, tt)
