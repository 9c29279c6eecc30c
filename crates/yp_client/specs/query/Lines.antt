-- The text of each answer.
use Rattle.std.specs.Prelude.{ℕ, List, [], ◌∷◌, ◌++◌, codes, decimal, flat_map, Bool, if◌then◌else◌}
use Rattle.std.specs.Fmt.{signed_decimal}
use Rattle.yp_messages.specs.declared.transfer.XfrStat.{XfrStat}
use Rattle.yp_messages.specs.declared.transfer.XfrStat.TheVariants.{Succ, Age, Nomap, Nodom, Rsrc, Rpc, Maddr, Yperr}
use Rattle.yp_messages.specs.declared.transfer.XfrStat.TheVariants.{Badargs, Dbm, File, Skew, Clear, Force, Xfrerr}
use Rattle.yp_messages.specs.declared.transfer.XfrStat.TheVariants.{Refused}
use Rattle.yp_messages.specs.Transfers.{xfr_number}
use Rattle.yp_version.specs.Rows.{Row}

-- a line: bytes as they are, and a line feed
abbrev pub line : List ℕ → List ℕ
line text = text ++ 10 ∷ []

-- a line each, in their order
abbrev pub lines : List (List ℕ) → List ℕ
lines texts = flat_map line texts

-- the value of a row, with its key and a space before it where keys are wanted
abbrev pub row_line : Bool → Row → List ℕ
row_line keyed row = if keyed then line (row.0 ++ 32 ∷ row.1) else line row.1

abbrev pub rows_text : Bool → List Row → List ℕ
rows_text keyed rows = flat_map (row_line keyed) rows

-- an order number, and the name of a master
abbrev pub standing_text : ℕ → List ℕ → List ℕ
standing_text order master = line (codes "order " ++ decimal order) ++ line (codes "master " ++ master)

-- whether somebody is a member of a group
abbrev pub membership_text : Bool → List ℕ
membership_text is_member = if is_member then line (codes "yes") else line (codes "no")

-- the name of a status of a map that is fetched or made (ypxfrstat)
abbrev pub stat_name : XfrStat → List ℕ
stat_name Succ = codes "SUCC"
stat_name Age = codes "AGE"
stat_name Nomap = codes "NOMAP"
stat_name Nodom = codes "NODOM"
stat_name Rsrc = codes "RSRC"
stat_name Rpc = codes "RPC"
stat_name Maddr = codes "MADDR"
stat_name Yperr = codes "YPERR"
stat_name Badargs = codes "BADARGS"
stat_name Dbm = codes "DBM"
stat_name File = codes "FILE"
stat_name Skew = codes "SKEW"
stat_name Clear = codes "CLEAR"
stat_name Force = codes "FORCE"
stat_name Xfrerr = codes "XFRERR"
stat_name Refused = codes "REFUSED"

-- a map, and the number and the name of the status that a server replied with when it was asked to fetch or make it
abbrev pub status_text : List ℕ → List ℕ → XfrStat → List ℕ
status_text domain map status =
    domain ++ codes "/" ++ map ++ codes " " ++ signed_decimal (xfr_number status) ++ codes " " ++ stat_name status

-- a map that a server has made anew
abbrev pub made_text : List ℕ → List ℕ → List ℕ
made_text domain map = domain ++ codes "/" ++ map ++ codes " made"
