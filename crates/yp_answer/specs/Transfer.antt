-- Which calls of XFR are refused, and which transfer the others ask for (yp.x).
use Rattle.std.specs.Prelude.{ℕ, Bool, false, not, ◌||◌, ◌==◌, if◌then◌else◌, List, length, Option, Some, None, Result}
use Rattle.std.specs.Prelude.{Ok, Err, bytes_eq}
use Rattle.yp_xdr.specs.Kind.{Value}
use Rattle.yp_messages.specs.declared.transfer.XfrStat.{XfrStat}
use Rattle.yp_messages.specs.declared.transfer.XfrStat.TheVariants.{Refused, Badargs, Nodom, Nomap}
use Rattle.yp_messages.specs.Transfers.{req_xfr}
use Rattle.yp_version.specs.Versions.{MapVersion}
use Rattle.yp_board.specs.Catalogues.{find, serves}
use Rattle.yp_board.specs.Logs.{shown}
use Rattle.yp_answer.specs.Maps.{Maps}

-- what XFR asks for: a domain, a map, its order, the host that has it, and how to call back: transaction, program, port
abbrev pub XfrRequest : Type 0
XfrRequest = Value req_xfr

abbrev pub asked_source : XfrRequest → List ℕ
asked_source asked = asked.1.1.1.0

abbrev pub asked_transid : XfrRequest → ℕ
asked_transid asked = asked.1.1.1.1.0

-- a transfer that is taken: the number of its map, the host that has it, and how to call back
pub record Taken : Type 0 where
  pub map : ℕ
  pub source : List ℕ
  pub transid : ℕ
  pub prog : ℕ
  pub port : ℕ

-- the transfer of this map that a request asks for
abbrev pub taken_for : XfrRequest → ℕ → Taken
taken_for asked map = record {
  map = map;
  source = asked_source asked;
  transid = asked_transid asked;
  prog = asked.1.1.1.1.1.0;
  port = asked.1.1.1.1.1.1;
}

-- the version that is shown has this master
abbrev pub is_mastered_by : List ℕ → Option MapVersion → Bool
is_mastered_by own (Some version) = bytes_eq version.master own
is_mastered_by own None = false

-- a map of the catalogue is fetched, unless this server is the master of what is shown of it
abbrev pub entry_check : Maps → Option ℕ → Result ℕ XfrStat
entry_check maps (Some map) =
    if is_mastered_by maps.catalogue.own (shown map maps.log) then Err Refused else Ok map
entry_check maps None = Err Nomap

-- the number of the map that is fetched, or the status that refuses to, the first that applies
abbrev pub xfr_check : Maps → XfrRequest → Result ℕ XfrStat
xfr_check maps asked =
    if length asked.0 == 0 || length asked.1.0 == 0 || length (asked_source asked) == 0 then Err Badargs
    else (if not (serves asked.0 maps.catalogue) then Err Nodom
    else entry_check maps (find asked.0 asked.1.0 maps.catalogue))
