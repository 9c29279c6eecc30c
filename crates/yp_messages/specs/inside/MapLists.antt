-- A list of maps as a value of its kind, its limits, and how it is read into memory.
use Rattle.std.specs.Prelude.{◌≡◌, ◌≤◌, length, Some, None, Result, Ok, Err}
use Rattle.yp_xdr.specs.Kind.{Kind, Optional, Value}
use Rattle.yp_xdr.specs.Reading.{Remaining, reading}
use Rattle.yp_xdr.specs.inside.Reading.{BeginsWithNone}
use Rattle.yp_messages.specs.declared.maplist.MapItem.{MapItem}
use Rattle.yp_messages.specs.declared.maplist.MapItem.TheVariants.{More, End}
use Rattle.yp_messages.specs.declared.maplist.MapList.{MapList}
use Rattle.yp_messages.specs.declared.maplist.MapListFault.{MapListFault}
use Rattle.yp_messages.specs.declared.maplist.MapListFault.TheVariants.{Xdr, NoMemory}
use Rattle.yp_messages.specs.Numbers.{name_max}
use Rattle.yp_messages.specs.Statuses.{stat_number}
use Rattle.yp_messages.specs.Messages.{name}
use Rattle.yp_messages.specs.MapLists.{map_list}

-- one more name, or none
abbrev pub map_item : Kind
map_item = Optional name

abbrev pub map_item_view : MapItem → Value map_item
map_item_view (More map) = Some map.now
map_item_view End = None

abbrev pub MapItemIsWithin : MapItem → Type 0
MapItemIsWithin (More map) = length map.now ≤ name_max
MapItemIsWithin End = Unit {0}

abbrev pub map_list_view : MapList → Value map_list
map_list_view answer = (stat_number answer.stat, answer.maps)

-- A reader answers what reading the kind gives, unless memory runs out. After a refusal it hasn't moved.
abbrev pub ReadsInMemory : {X : Type 0} (kind : Kind) → (X → Value kind) → Result X MapListFault → Remaining → Remaining
    → Type 0
ReadsInMemory kind view (Ok x) old new = reading kind old ≡ Ok (view x, new)
ReadsInMemory kind view (Err (Xdr fault)) old new = (reading kind old ≡ Err fault) × (new ≡ old)
ReadsInMemory kind view (Err NoMemory) old new = new ≡ old

-- Where bytes are refused, they begin with no spelling of the kind.
abbrev pub RefusesInMemory : {X : Type 0} (kind : Kind) → Result X MapListFault → Remaining → Type 0
RefusesInMemory kind (Ok x) old = Unit {0}
RefusesInMemory kind (Err (Xdr fault)) old = BeginsWithNone kind old.bytes
RefusesInMemory kind (Err NoMemory) old = Unit {0}
