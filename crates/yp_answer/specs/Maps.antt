-- What is answered from: a catalogue of maps, and the versions that were shown of them.
use Rattle.std.specs.Prelude.{ℕ, not, ◌&&◌, ◌||◌, ◌==◌, nat_le, if◌then◌else◌, List, length, Option}
use Rattle.std.specs.Prelude.{Result, Ok, Err}
use Rattle.std.specs.Option.{option_and_then, ok_or}
use Rattle.yp_messages.specs.declared.stat.YpStat.{YpStat}
use Rattle.yp_messages.specs.declared.stat.YpStat.TheVariants.{Badargs, Nodom, Nomap, Yperr}
use Rattle.yp_version.specs.Versions.{MapVersion}
use Rattle.yp_board.specs.Catalogues.{Catalogue, find, serves}
use Rattle.yp_board.specs.Logs.{Log, shown}
use Rattle.yp_board.specs.Views.{Seen}

-- a catalogue and a log
pub record Maps : Type 0 where
  pub catalogue : Catalogue
  pub log : Log

-- the maps that a view knows
abbrev pub maps_of : Seen → Maps
maps_of seen = record { catalogue = seen.catalogue; log = seen.known }

-- the version that is shown of a map in a domain
abbrev pub version_of : Maps → List ℕ → List ℕ → Option MapVersion
version_of maps domain map = option_and_then (λ number. shown number maps.log) (find domain map maps.catalogue)

-- the version of a map, or the status (ypstat of yp.x) that refuses a question about it, the first that applies
abbrev pub map_check : Maps → List ℕ → List ℕ → Result MapVersion YpStat
map_check maps domain map =
    if length domain == 0 || length map == 0 then Err Badargs
    else (if not (serves domain maps.catalogue) then Err Nodom
    else ok_or (version_of maps domain map) Nomap)

-- a secure version shows its rows to callers on ports below 1024 alone
abbrev pub guarded : ℕ → Result MapVersion YpStat → Result MapVersion YpStat
guarded port (Ok version) = if version.secure && nat_le 1024 port then Err Yperr else Ok version
guarded port (Err stat) = Err stat

-- the version of a map whose rows are asked for by a caller on this port, or the status that refuses it
abbrev pub row_check : Maps → ℕ → List ℕ → List ℕ → Result MapVersion YpStat
row_check maps port domain map = guarded port (map_check maps domain map)
