use Rattle.std.proofs.Common.{Result, Ok, Err}
use Rattle.yp_xdr.specs.Reading.{Remaining}
use Rattle.yp_xdr.specs.inside.Cursor.{unread}
use Rattle.yp_xdr.specs.inside.Laws.{RefusedIsNotSpelled}
use Rattle.yp_messages.specs.declared.maplist.MapList.{MapList}
use Rattle.yp_messages.specs.declared.maplist.MapListFault.{MapListFault}
use Rattle.yp_messages.specs.declared.maplist.MapListFault.TheVariants.{Xdr, NoMemory}
use Rattle.yp_messages.specs.MapLists.{map_list}
use Rattle.yp_messages.specs.inside.MapLists.{map_list_view, ReadsInMemory, RefusesInMemory}
use Rattle.yp_messages.proofs.maplist.MapList.read.Goals as goal

refused : RefusedIsNotSpelled → (result : Result MapList MapListFault) (old new : Remaining)
    → ReadsInMemory map_list map_list_view result old new → RefusesInMemory map_list result old
refused law (Ok answer) old new reads = tt
refused law (Err (Xdr fault)) old new reads = law map_list old fault reads.0
refused law (Err NoMemory) old new reads = tt

pub returns-clause-refused : goal.returns-clause-refused
returns-clause-refused c =
    refused c.refused_is_not_spelled.ensures _ (unread c.args.cursor.now) _ c.read_map_list.ensures
