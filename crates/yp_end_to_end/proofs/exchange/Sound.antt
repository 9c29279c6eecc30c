-- What is held of a map is a version within its limits, or a status that refuses.
use Rattle.std.proofs.Common.{ℕ, Bool, true, false, cond, eqb, List, [], ◌∷◌, Option, Some, None, Result, Ok, Err, ◌&&◌, not, nat_le}
use Rattle.std.specs.Prelude.{All, IfSome, ⊤, length, ◌||◌, ◌==◌, fold}
use Rattle.std.specs.Option.{ok_or, option_and_then}
use Rattle.std.proofs.lemmas.List.Elements.{All-head, All-tail}
use Rattle.yp_messages.specs.declared.stat.YpStat.{YpStat}
use Rattle.yp_messages.specs.declared.stat.YpStat.TheVariants.{Badargs, Nodom, Nomap, Yperr}
use Rattle.yp_version.specs.Versions.{MapVersion, IsVersion}
use Rattle.yp_board.specs.Logs.{Log, shown}
use Rattle.yp_board.specs.Catalogues.{find, serves}
use Rattle.yp_answer.specs.Maps.{Maps, version_of, map_check, guarded, row_check}
use Rattle.yp_answer.specs.Served.{AreServed}

-- a status that refuses a question about a map
abbrev pub IsRefusal : YpStat → Type 0
IsRefusal Badargs = ⊤
IsRefusal Nodom = ⊤
IsRefusal Nomap = ⊤
IsRefusal Yperr = ⊤
IsRefusal stat = ⊥

abbrev pub IsSound : Result MapVersion YpStat → Type 0
IsSound (Ok version) = IsVersion version
IsSound (Err stat) = IsRefusal stat

-- the version that is shown is one of the log
shown_from : (map : ℕ) (so_far : Option MapVersion) (log : Log) → IfSome so_far IsVersion → All (λ entry. IsVersion entry.1) log
    → IfSome (fold (λ so_far entry. cond (eqb entry.0 map) (Some entry.1) so_far) so_far log) IsVersion
shown_from map so_far [] is all = is
shown_from map so_far (entry ∷ log) is all =
    shown_from map (cond (eqb entry.0 map) (Some entry.1) so_far) log (chosen (eqb entry.0 map)) (All-tail (λ entry. IsVersion entry.1) entry log all)
  where
    chosen : (b : Bool) → IfSome (cond b (Some entry.1) so_far) IsVersion
    chosen true = All-head (λ entry. IsVersion entry.1) entry log all
    chosen false = is

version_held : (maps : Maps) (number : Option ℕ) → AreServed maps → IfSome (option_and_then (λ n. shown n maps.log) number) IsVersion
version_held maps None served = tt
version_held maps (Some number) served = shown_from number None maps.log tt served.versions

held_or : (version : Option MapVersion) → IfSome version IsVersion → IsSound (ok_or version Nomap)
held_or None is = tt
held_or (Some version) is = is

pub map_sound : (maps : Maps) (domain map : List ℕ) → AreServed maps → IsSound (map_check maps domain map)
map_sound maps domain map served = by (length domain == 0 || length map == 0) (not (serves domain maps.catalogue))
  where
    by : (a b : Bool) → IsSound (cond a (Err Badargs) (cond b (Err Nodom) (ok_or (version_of maps domain map) Nomap)))
    by true b = tt
    by false true = tt
    by false false = held_or (version_of maps domain map) (version_held maps (find domain map maps.catalogue) served)

guarded_sound : (port : ℕ) (held : Result MapVersion YpStat) → IsSound held → IsSound (guarded port held)
guarded_sound port (Err stat) is = is
guarded_sound port (Ok version) is = by (version.secure && nat_le 1024 port)
  where
    by : (b : Bool) → IsSound (cond b (Err Yperr) (Ok version))
    by true = tt
    by false = is

pub row_sound : (maps : Maps) (port : ℕ) (domain map : List ℕ) → AreServed maps → IsSound (row_check maps port domain map)
row_sound maps port domain map served = guarded_sound port (map_check maps domain map) (map_sound maps domain map served)
