-- What the maps of a server tell a client that asks (yp.x): the value, or the status that refuses it.
use Rattle.std.specs.Prelude.{ℕ, ◌==◌, not, if◌then◌else◌, List, length, Result, Ok, Err}
use Rattle.std.specs.Option.{ok_or}
use Rattle.yp_io.specs.declared.stream.Peer.{Peer}
use Rattle.yp_messages.specs.declared.stat.YpStat.{YpStat}
use Rattle.yp_messages.specs.declared.stat.YpStat.TheVariants.{Nokey, Badargs, Nodom}
use Rattle.yp_messages.specs.declared.transfer.XfrStat.{XfrStat}
use Rattle.yp_messages.specs.declared.transfer.XfrStat.TheVariants.{Succ}
use Rattle.yp_version.specs.Rows.{Row, value_of}
use Rattle.yp_version.specs.Versions.{MapVersion}
use Rattle.yp_board.specs.Catalogues.{serves}
use Rattle.yp_answer.specs.Maps.{Maps, map_check, row_check}
use Rattle.yp_answer.specs.Results.{maps_in}
use Rattle.yp_answer.specs.declared.make.MakeJob.{MakeJob}
use Rattle.yp_client.specs.declared.fault.ClientFault.{ClientFault}
use Rattle.yp_client.specs.declared.fault.ClientFault.TheVariants.{Yp}

-- a value, or the refusal with a status
abbrev pub told : {V : Type 0} → Result V YpStat → Result V ClientFault
told (Ok value) = Ok value
told (Err stat) = Err (Yp stat)

-- what a version tells, or the status that refuses its map
abbrev pub of_version : {V : Type 0} → (MapVersion → Result V YpStat) → Result MapVersion YpStat → Result V YpStat
of_version answer (Ok version) = answer version
of_version answer (Err stat) = Err stat

-- what the version of a map tells a caller who asks for rows, and what it tells every caller
abbrev pub rows_tell : {V : Type 0} → (MapVersion → Result V YpStat) → Maps → Peer → List ℕ → List ℕ
    → Result V ClientFault
rows_tell answer maps peer domain map = told (of_version answer (row_check maps peer.port domain map))

abbrev pub map_tells : {V : Type 0} → (MapVersion → Result V YpStat) → Maps → List ℕ → List ℕ → Result V ClientFault
map_tells answer maps domain map = told (of_version answer (map_check maps domain map))

-- ---- what a version tells

-- the value of a key
abbrev pub value_in : List ℕ → MapVersion → Result (List ℕ) YpStat
value_in key version = ok_or (value_of key version.rows) Nokey

-- the name of its master, and its order
abbrev pub master_in : MapVersion → Result (List ℕ) YpStat
master_in version = Ok version.master

abbrev pub order_in : MapVersion → Result ℕ YpStat
order_in version = Ok version.order

-- all its rows, in their order
abbrev pub all_in : MapVersion → Result (List Row) YpStat
all_in version = Ok version.rows

-- ---- what the catalogue tells

-- the names of the maps of a domain that have a version
abbrev pub names_in : Maps → List ℕ → Result (List (List ℕ)) YpStat
names_in maps domain =
    if length domain == 0 then Err Badargs
    else (if not (serves domain maps.catalogue) then Err Nodom
    else Ok (maps_in maps domain))

-- the status that XFR has by what is made of it: the one that refuses it, or SUCC, and then the transfer is taken
abbrev pub stat_told : Result ℕ XfrStat → XfrStat
stat_told (Ok map) = Succ
stat_told (Err stat) = stat

-- the status that a call of the make program has by what is made of it: the one that refuses it, or that of the map
abbrev pub made_told : XfrStat → Result MakeJob XfrStat → XfrStat
made_told made (Ok job) = made
made_told made (Err stat) = stat
