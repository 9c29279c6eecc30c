-- The messages that have a map fetched or made anew. XFR and its answers are those of the protocol file yp.x, with this
-- project's numbers for the status. The messages of the make program are this project's own.
use Rattle.std.specs.Prelude.{ℤ, pos, negsuc, List, [], ◌∷◌}
use Rattle.yp_xdr.specs.Kind.{Kind, U32, Enum, Sequence}
use Rattle.yp_messages.specs.declared.transfer.XfrStat.{XfrStat}
use Rattle.yp_messages.specs.declared.transfer.XfrStat.TheVariants.{Succ, Age, Nomap, Nodom, Rsrc, Rpc, Maddr, Yperr}
use Rattle.yp_messages.specs.declared.transfer.XfrStat.TheVariants.{Badargs, Dbm, File, Skew, Clear, Force, Xfrerr}
use Rattle.yp_messages.specs.declared.transfer.XfrStat.TheVariants.{Refused}
use Rattle.yp_messages.specs.Messages.{name}

-- the number of a status of type ypxfrstat
abbrev pub xfr_number : XfrStat → ℤ
xfr_number Succ = pos 1
xfr_number Age = pos 2
xfr_number Nomap = negsuc 0
xfr_number Nodom = negsuc 1
xfr_number Rsrc = negsuc 2
xfr_number Rpc = negsuc 3
xfr_number Maddr = negsuc 4
xfr_number Yperr = negsuc 5
xfr_number Badargs = negsuc 6
xfr_number Dbm = negsuc 7
xfr_number File = negsuc 8
xfr_number Skew = negsuc 9
xfr_number Clear = negsuc 10
xfr_number Force = negsuc 11
xfr_number Xfrerr = negsuc 12
xfr_number Refused = negsuc 13

-- the numbers that it may have: 2, 1, and -1 down to -14
abbrev pub xfr_numbers : List ℤ
xfr_numbers = pos 2 ∷ pos 1 ∷ negsuc 0 ∷ negsuc 1 ∷ negsuc 2 ∷ negsuc 3 ∷ negsuc 4 ∷ negsuc 5 ∷ negsuc 6 ∷ negsuc 7
    ∷ negsuc 8 ∷ negsuc 9 ∷ negsuc 10 ∷ negsuc 11 ∷ negsuc 12 ∷ negsuc 13 ∷ []

-- the status as one of these numbers
abbrev pub xfr_stat : Kind
xfr_stat = Enum xfr_numbers

-- a map of a domain, its order number, the host that has it, and how to call back: transaction, program and port
abbrev pub req_xfr : Kind
req_xfr = Sequence name (Sequence name (Sequence U32 (Sequence name (Sequence U32 (Sequence U32 U32)))))

-- a transaction and its status
abbrev pub resp_xfr : Kind
resp_xfr = Sequence U32 xfr_stat

-- a domain and the number of a kind of map
abbrev pub req_make : Kind
req_make = Sequence name U32

-- a status
abbrev pub resp_make : Kind
resp_make = xfr_stat
