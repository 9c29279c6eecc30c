-- A version that is built behind the last one of its map.
use Rattle.std.specs.Prelude.{◌<◌, ℕ, Bool, false, List, Option, Some, None, IfSome, Result}
use Rattle.std.specs.Prelude.{Ok, Err, option_map, unwrap_or, bytes_eq, if◌then◌else◌}
use Rattle.std.specs.Option.{option_map_or}
use Rattle.yp_version.specs.Versions.{MapVersion}
use Rattle.yp_texts.specs.declared.reading.Reading.{Reading}
use Rattle.yp_texts.specs.declared.fault.BuildFault.{BuildFault}
use Rattle.yp_texts.specs.Builds.{built}

-- what a version is built for: how its text is read, the own name, whether it is to be secure, where that is said, and
-- the last version of the map, or none
pub record Basis : Type 0 where
  pub reading : Reading
  pub own : List ℕ
  pub flag : Option Bool
  pub last : Option MapVersion

abbrev pub basis_of : Reading → List ℕ → Option Bool → Option MapVersion → Basis
basis_of reading own flag last = record { reading = reading; own = own; flag = flag; last = last }

-- what it is built of: the bytes of a text, and a moment
pub record Material : Type 0 where
  pub text : List ℕ
  pub moment : ℕ

abbrev pub material_of : List ℕ → ℕ → Material
material_of text moment = record { text = text; moment = moment }

-- why none is built: the last version has this other master, or the text makes none
pub data Hindrance : Type 0 where
  HasOther : List ℕ → Hindrance
  HasFault : BuildFault → Hindrance

-- the master of the last version, where it isn't the own name
abbrev pub other_master : List ℕ → Option MapVersion → Option (List ℕ)
other_master own None = None
other_master own (Some last) = if bytes_eq last.master own then None else Some last.master

-- the order of the last version
abbrev pub last_order : Option MapVersion → Option ℕ
last_order last = option_map (λ version. version.order) last

-- whether the last version is secure
abbrev pub was_secure : Option MapVersion → Bool
was_secure last = option_map_or (λ version. version.secure) last false

-- a version that is secure as the flag says, or where it says nothing as the last one
abbrev pub secured : Option Bool → Option MapVersion → MapVersion → MapVersion
secured flag last version =
    record version { secure = unwrap_or flag (was_secure last) }

-- what is built, marked
abbrev pub secured_build : Option Bool → Option MapVersion → Result MapVersion BuildFault → Result MapVersion Hindrance
secured_build flag last (Ok version) = Ok (secured flag last version)
secured_build flag last (Err fault) = Err (HasFault fault)

-- the version that a text makes at a moment behind the last one, or the first reason why none is
abbrev pub built_after : Basis → Material → Result MapVersion Hindrance
built_after basis material =
    option_map_or (λ master. Err (HasOther master)) (other_master basis.own basis.last)
    (secured_build basis.flag basis.last
    (built basis.reading material.text (last_order basis.last) material.moment basis.own))

-- the order of a version is over that of the last one
abbrev pub HasLaterOrder : Option MapVersion → MapVersion → Type 0
HasLaterOrder last version = IfSome last (λ before. before.order < version.order)
