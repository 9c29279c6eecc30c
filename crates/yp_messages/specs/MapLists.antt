-- The result of MAPLIST, ypresp_maplist: a status and the names of maps, as the protocol file yp.x has it.
use Rattle.yp_xdr.specs.Kind.{Kind, Sequence, ListOf}
use Rattle.yp_messages.specs.Statuses.{stat}
use Rattle.yp_messages.specs.Messages.{name}

-- a status, and names, each behind TRUE, and then FALSE
abbrev pub map_list : Kind
map_list = Sequence stat (ListOf name)
