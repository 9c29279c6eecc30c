-- Which calls of the make program are refused, and which map the others ask for. The make program is this project's
-- own.
use Rattle.std.specs.Prelude.{ℕ, Bool, not, ◌||◌, ◌==◌, false, if◌then◌else◌, List, [], length, slice_get}
use Rattle.std.specs.Prelude.{Option, Some, None, option_map, Result, Err, bytes_eq, codes}
use Rattle.std.specs.List as lists
use Rattle.std.specs.Option.{option_and_then, option_map_or, ok_or}
use Rattle.yp_io.specs.declared.stream.Peer.{Peer}
use Rattle.yp_io.specs.Peers.{own_host}
use Rattle.yp_messages.specs.declared.transfer.XfrStat.{XfrStat}
use Rattle.yp_messages.specs.declared.transfer.XfrStat.TheVariants.{Refused, Badargs, Nodom, Nomap}
use Rattle.yp_board.specs.Catalogues.{Catalogue, find, serves}
use Rattle.yp_version.specs.Versions.{MapVersion}
use Rattle.yp_board.specs.Logs.{Log, shown}
use Rattle.yp_texts.specs.declared.kind.Kind.{Kind}
use Rattle.yp_texts.specs.declared.kind.Kind.TheVariants.{Netgroup}
use Rattle.yp_texts.specs.Kinds.{kinds, number_of, name_of}
use Rattle.yp_texts.specs.Readings.{reading_of}
use Rattle.yp_netgroup.specs.declared.reverse.field.Field.{Field}
use Rattle.yp_netgroup.specs.declared.reverse.field.Field.TheVariants.{User, Host}
use Rattle.yp_answer.specs.declared.make.Making.{Making}
use Rattle.yp_answer.specs.declared.make.Making.TheVariants.{Text, Netgroups}
use Rattle.yp_answer.specs.declared.make.MakeJob.{MakeJob}

-- the kind with a number
abbrev pub kind_numbered : ℕ → Option Kind
kind_numbered number = lists.find (λ kind. number_of kind == number) kinds

-- the map of the kind with a number, by its name
abbrev pub map_numbered : ℕ → Option (List ℕ)
map_numbered number = option_map name_of (kind_numbered number)

-- the name of the map with a number, without its domain
abbrev pub map_name : ℕ → Catalogue → List ℕ
map_name number catalogue = option_map_or (λ name. name.1) (slice_get catalogue.maps number) []

-- the domain of the map with a number
abbrev pub domain_name : ℕ → Catalogue → List ℕ
domain_name number catalogue = option_map_or (λ name. name.0) (slice_get catalogue.maps number) []

-- the part of a triple by which the map with this name has the netgroups, where it has them
abbrev pub field_named : List ℕ → Option Field
field_named map =
    if bytes_eq map (codes "netgroup.byuser") then Some User
    else (if bytes_eq map (codes "netgroup.byhost") then Some Host else None)

-- what the map with this name is made of: the netgroups, or else a text
abbrev pub making_of : List ℕ → Making
making_of map = option_map_or (λ field. Netgroups field) (field_named map) (Text (reading_of map))

-- the making of the map with a number, as its name says
abbrev pub job_of : Catalogue → ℕ → MakeJob
job_of catalogue number = record { map = number; making = making_of (map_name number catalogue) }

-- the number of the netgroups in the domain of a map that is made, where they are served
abbrev pub netgroups_for : Catalogue → MakeJob → Option ℕ
netgroups_for catalogue job = find (domain_name job.map catalogue) (name_of Netgroup) catalogue

-- what a log shows of them
abbrev pub netgroups_at : Catalogue → MakeJob → Log → Option MapVersion
netgroups_at catalogue job log = option_and_then (λ number. shown number log) (netgroups_for catalogue job)

-- the map that is made: the one in the domain that has the name, where there is a name
abbrev pub made_map : Catalogue → List ℕ → Option (List ℕ) → Option MakeJob
made_map catalogue domain map =
    option_map (job_of catalogue) (option_and_then (λ name. find domain name catalogue) map)

-- a name without a byte
abbrev pub is_nameless : Option (List ℕ) → Bool
is_nameless None = false
is_nameless (Some name) = length name == 0

-- the map of a domain that is made for a caller, or the status that refuses to, the first that applies
abbrev pub make_check : Catalogue → Peer → List ℕ → Option (List ℕ) → Result MakeJob XfrStat
make_check catalogue peer domain map =
    if not (bytes_eq peer.addr own_host) then Err Refused
    else (if length domain == 0 || is_nameless map then Err Badargs
    else (if not (serves domain catalogue) then Err Nodom
    else ok_or (made_map catalogue domain map) Nomap))
