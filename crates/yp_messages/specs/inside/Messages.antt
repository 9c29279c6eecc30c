-- Each struct of a message as a value of its kind, and its limits.
use Rattle.std.specs.Prelude.{◌≤◌, length, Some, None}
use Rattle.yp_xdr.specs.Kind.{Kind, Optional, Value}
use Rattle.yp_messages.specs.declared.requests.ReqDomain.{ReqDomain}
use Rattle.yp_messages.specs.declared.requests.ReqKey.{ReqKey}
use Rattle.yp_messages.specs.declared.requests.ReqNokey.{ReqNokey}
use Rattle.yp_messages.specs.declared.results.RespVal.{RespVal}
use Rattle.yp_messages.specs.declared.results.KeyVal.{KeyVal}
use Rattle.yp_messages.specs.declared.results.AllItem.{AllItem}
use Rattle.yp_messages.specs.declared.results.AllItem.TheVariants.{More, End}
use Rattle.yp_messages.specs.declared.results.RespMaster.{RespMaster}
use Rattle.yp_messages.specs.declared.results.RespOrder.{RespOrder}
use Rattle.yp_messages.specs.Numbers.{name_max, key_max, value_max}
use Rattle.yp_messages.specs.Statuses.{stat_number}
use Rattle.yp_messages.specs.Messages.{req_domain, req_key, req_nokey, resp_val, key_val, resp_master, resp_order}

-- ---- arguments

abbrev pub req_domain_view : ReqDomain → Value req_domain
req_domain_view asked = asked.domain.now

abbrev pub ReqDomainIsWithin : ReqDomain → Type 0
ReqDomainIsWithin asked = length asked.domain.now ≤ name_max

abbrev pub req_key_view : ReqKey → Value req_key
req_key_view asked = (asked.domain.now, (asked.map.now, asked.key.now))

pub record ReqKeyIsWithin (asked : ReqKey) : Type 0 where
  pub domain : length asked.domain.now ≤ name_max
  pub map : length asked.map.now ≤ name_max
  pub key : length asked.key.now ≤ key_max

abbrev pub req_nokey_view : ReqNokey → Value req_nokey
req_nokey_view asked = (asked.domain.now, asked.map.now)

pub record ReqNokeyIsWithin (asked : ReqNokey) : Type 0 where
  pub domain : length asked.domain.now ≤ name_max
  pub map : length asked.map.now ≤ name_max

-- ---- results

abbrev pub resp_val_view : RespVal → Value resp_val
resp_val_view answer = (stat_number answer.stat, answer.val.now)

abbrev pub RespValIsWithin : RespVal → Type 0
RespValIsWithin answer = length answer.val.now ≤ value_max

abbrev pub key_val_view : KeyVal → Value key_val
key_val_view answer = (stat_number answer.stat, (answer.val.now, answer.key.now))

pub record KeyValIsWithin (answer : KeyVal) : Type 0 where
  pub val : length answer.val.now ≤ value_max
  pub key : length answer.key.now ≤ key_max

-- one more row of ALL, or none
abbrev pub all_item : Kind
all_item = Optional key_val

abbrev pub all_item_view : AllItem → Value all_item
all_item_view (More row) = Some (key_val_view row)
all_item_view End = None

abbrev pub AllItemIsWithin : AllItem → Type 0
AllItemIsWithin (More row) = KeyValIsWithin row
AllItemIsWithin End = Unit {0}

abbrev pub resp_master_view : RespMaster → Value resp_master
resp_master_view answer = (stat_number answer.stat, answer.peer.now)

abbrev pub RespMasterIsWithin : RespMaster → Type 0
RespMasterIsWithin answer = length answer.peer.now ≤ name_max

abbrev pub resp_order_view : RespOrder → Value resp_order
resp_order_view answer = (stat_number answer.stat, answer.ordernum)
