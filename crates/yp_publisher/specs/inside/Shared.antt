-- What the code keeps of a stored map.
use Rattle.std.specs.Prelude.{◌≡◌, ℕ, List, true, Option, None, Some, Result, Ok, Err, option_map}
use Rattle.std.specs.Arc.{arc_value}
use Rattle.std.specs.declared.alloc.Global.{Global}
use Rattle.std.specs.declared.sync.Arc.{Arc}
use Rattle.yp_io.specs.Disk.{History, MayLeave}
use Rattle.yp_version.specs.Versions.{MapVersion}
use Rattle.yp_map_file.specs.declared.known.Stage.{Stage}
use Rattle.yp_map_file.specs.declared.fault.SlotFault.{SlotFault}
use Rattle.yp_map_file.specs.Loads.{Loads}
use Rattle.yp_map_file.specs.Slots.{HasGeneration}
use Rattle.yp_map_file.specs.inside.Slots.{is_ready}
use Rattle.yp_map_file.specs.Stands.{Stands}
use Rattle.yp_publisher.specs.Standing.{MapStanding, Level, Behind, StandsAs, stands_for}

-- the standing of a map with this failed version, or none
abbrev pub standing_of : Option (Arc MapVersion Global) → MapStanding
standing_of None = Level
standing_of (Some failed) = Behind (arc_value failed)

-- The file of a level map is known, and its generation. Whatever a crash may leave stands as it should.
pub record IsKept (history : Option History) (stage : Stage) (generation : ℕ) (version : Option MapVersion)
    (standing : MapStanding) : Type 0 where
  pub ready : standing ≡ Level → is_ready stage ≡ true
  pub numbered : standing ≡ Level → HasGeneration history generation
  pub images : (image : List ℕ) → MayLeave history image → StandsAs standing version image

-- a file that stands for this was loaded, unless the disk failed or memory ran out
abbrev pub LoadsShared : Stands → Result (Option (Arc MapVersion Global)) SlotFault → Type 0
LoadsShared stood (Ok version) = stood ≡ stands_for (option_map arc_value version)
LoadsShared stood (Err fault) = Loads stood (Err fault)
