-- The numbers of the statuses, as the protocol file yp.x has them.
use Rattle.std.specs.Prelude.{ℤ, pos, negsuc, List, [], ◌∷◌}
use Rattle.yp_xdr.specs.Kind.{Kind, Enum}
use Rattle.yp_messages.specs.declared.stat.YpStat.{YpStat}
use Rattle.yp_messages.specs.declared.stat.YpStat.TheVariants.{True, Nomore, False, Nomap, Nodom, Nokey, Badop, Baddb}
use Rattle.yp_messages.specs.declared.stat.YpStat.TheVariants.{Yperr, Badargs, Vers}

-- the number of a status of type ypstat
abbrev pub stat_number : YpStat → ℤ
stat_number True = pos 1
stat_number Nomore = pos 2
stat_number False = pos 0
stat_number Nomap = negsuc 0
stat_number Nodom = negsuc 1
stat_number Nokey = negsuc 2
stat_number Badop = negsuc 3
stat_number Baddb = negsuc 4
stat_number Yperr = negsuc 5
stat_number Badargs = negsuc 6
stat_number Vers = negsuc 7

-- the numbers that a status may have, from 2 down to -8
abbrev pub stat_numbers : List ℤ
stat_numbers = pos 2 ∷ pos 1 ∷ pos 0 ∷ negsuc 0 ∷ negsuc 1 ∷ negsuc 2 ∷ negsuc 3 ∷ negsuc 4 ∷ negsuc 5 ∷ negsuc 6
    ∷ negsuc 7 ∷ []

-- the status as one of these numbers
abbrev pub stat : Kind
stat = Enum stat_numbers
