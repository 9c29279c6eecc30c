-- What each procedure of YP version 2 gives (yp.x), from a version or the status that refuses it.
use Rattle.std.specs.Prelude.{ℕ, Bool, not, ◌&&◌, ◌==◌, if◌then◌else◌, List, [], ◌∷◌, length, map, filter, Option, Some}
use Rattle.std.specs.Prelude.{None, is_some, Result, Ok, Err, bytes_eq}
use Rattle.yp_xdr.specs.Kind.{Value}
use Rattle.yp_messages.specs.declared.stat.YpStat.{YpStat}
use Rattle.yp_messages.specs.declared.stat.YpStat.TheVariants.{True, Nomore, Nokey, Badargs, Nodom}
use Rattle.yp_messages.specs.Statuses.{stat_number}
use Rattle.yp_messages.specs.Messages.{resp_val, key_val, resp_master, resp_order}
use Rattle.yp_messages.specs.MapLists.{map_list}
use Rattle.yp_version.specs.Rows.{Row, value_of, first_of, following}
use Rattle.yp_version.specs.Versions.{MapVersion}
use Rattle.yp_board.specs.Catalogues.{Name, serves, listed}
use Rattle.yp_answer.specs.Maps.{Maps, version_of}

-- a status without a value, and without a row
abbrev pub no_value : YpStat → Value resp_val
no_value stat = (stat_number stat, [])

abbrev pub no_row : YpStat → Value key_val
no_row stat = (stat_number stat, ([], []))

-- a row, whose value stands before its key
abbrev pub row_item : Row → Value key_val
row_item row = (stat_number True, (row.1, row.0))

-- MATCH: the value of the key
abbrev pub value_found : Option (List ℕ) → Value resp_val
value_found (Some value) = (stat_number True, value)
value_found None = no_value Nokey

abbrev pub matched : List ℕ → Result MapVersion YpStat → Value resp_val
matched key (Ok version) = value_found (value_of key version.rows)
matched key (Err stat) = no_value stat

-- FIRST: the first row, where there is one
abbrev pub row_found : Option Row → Value key_val
row_found (Some row) = row_item row
row_found None = no_row Nomore

abbrev pub first_row : Result MapVersion YpStat → Value key_val
first_row (Ok version) = row_found (first_of version.rows)
first_row (Err stat) = no_row stat

-- NEXT: the row behind the one with the key
abbrev pub next_found : Option (Option Row) → Value key_val
next_found (Some next) = row_found next
next_found None = no_row Nokey

abbrev pub next_row : List ℕ → Result MapVersion YpStat → Value key_val
next_row key (Ok version) = next_found (following key version.rows)
next_row key (Err stat) = no_row stat

-- ALL: each row, or one item with the status that refuses
abbrev pub all_items : Result MapVersion YpStat → List (Value key_val)
all_items (Ok version) = map row_item version.rows
all_items (Err stat) = no_row stat ∷ []

-- MASTER and ORDER
abbrev pub mastered : Result MapVersion YpStat → Value resp_master
mastered (Ok version) = (stat_number True, version.master)
mastered (Err stat) = (stat_number stat, [])

abbrev pub ordered : Result MapVersion YpStat → Value resp_order
ordered (Ok version) = (stat_number True, version.order)
ordered (Err stat) = (stat_number stat, 0)

-- MAPLIST: the maps of a domain that have a version, in rising order of their names
abbrev pub is_listed : Maps → List ℕ → Name → Bool
is_listed maps domain name = bytes_eq name.0 domain && is_some (version_of maps name.0 name.1)

abbrev pub maps_in : Maps → List ℕ → List (List ℕ)
maps_in maps domain = map (λ name. name.1) (filter (is_listed maps domain) (listed maps.catalogue.maps))

abbrev pub maps_listed : Maps → List ℕ → Value map_list
maps_listed maps domain =
    if length domain == 0 then (stat_number Badargs, [])
    else (if not (serves domain maps.catalogue) then (stat_number Nodom, [])
    else (stat_number True, maps_in maps domain))
