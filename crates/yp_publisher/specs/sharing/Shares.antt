-- How a version is installed under the lock of a publisher, and what a reader then knows of it.
use Rattle.std.specs.Prelude.{◌≡◌, ℕ, false, List, None, Some, ⊤}
use Rattle.std.specs.Option.{option_map_or}
use Rattle.yp_version.specs.Versions.{MapVersion}
use Rattle.yp_board.specs.Logs.{Log, shown}
use Rattle.yp_board.specs.Views.{Seen, IsFront}
use Rattle.yp_publisher.specs.declared.install.Origin.{Origin}
use Rattle.yp_publisher.specs.declared.install.InstallFault.TheVariants as fault
use Rattle.yp_publisher.specs.declared.sharing.locked.ShareFault.{ShareFault}
use Rattle.yp_publisher.specs.declared.sharing.locked.ShareFault.TheVariants.{Unfit}
use Rattle.yp_publisher.specs.Installs.{OfferedVersion, HasMaster, IsNotNewer, offer, not_following}
use Rattle.yp_publisher.specs.Rising.{with_shown}

-- a version as it is offered of a map behind a log: marked as the one that is shown of it, and not forced
abbrev pub offer_behind : ℕ → MapVersion → Origin → Log → OfferedVersion
offer_behind number version origin log =
    offer (record version { secure = option_map_or (λ last. last.secure) (shown number log) false }) origin false

-- ---- what that is to a log, and to what a reader knows

-- A version was shown of a map, last of all, and behind a log that begins with the old one. It followed what was shown
-- of the map: it comes from where its versions come from, and its order is higher.
pub record IsShownBehind (own : List ℕ) (number : ℕ) (version : MapVersion) (origin : Origin) (old new : Log)
    : Type 0 where
  pub before : Log
  pub begins : IsFront old before
  pub follows : not_following own (offer_behind number version origin before) (shown number before) ≡ None
  pub entry : new ≡ with_shown number (offer_behind number version origin before).version before

-- A reader knows all that it knew, and maybe more. Nothing else of it has changed.
pub record Learns (old new : Seen) : Type 0 where
  pub same : new ≡ record old { known = new.known }
  pub grown : IsFront old.known new.known

-- Why a version doesn't follow what a log shows of the map: it has another master, or no lower order. A file that fails
-- and want of memory are no matter of the log.
abbrev pub IsReason : List ℕ → ℕ → MapVersion → Origin → ShareFault → Log → Type 0
IsReason own number version origin (Unfit (fault.Refused master)) log =
    not_following own (offer_behind number version origin log) (shown number log) ≡ Some (HasMaster master.items)
IsReason own number version origin (Unfit (fault.Age last offered)) log =
    not_following own (offer_behind number version origin log) (shown number log) ≡ Some (IsNotNewer last offered)
IsReason own number version origin (Unfit fault.Behind) log = ⊥
IsReason own number version origin _ log = ⊤
