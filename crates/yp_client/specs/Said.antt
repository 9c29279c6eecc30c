-- What each call answers, as the code has it.
use Rattle.std.specs.Prelude.{ℕ, ℤ, List, Result}
use Rattle.std.specs.Borrow.{Bor}
use Rattle.yp_messages.specs.declared.maplist.MapList.{MapList}
use Rattle.yp_messages.specs.declared.transfer.XfrStat.{XfrStat}
use Rattle.yp_messages.specs.Transfers.{xfr_number}
use Rattle.yp_client.specs.declared.fault.ClientFault.{ClientFault}
use Rattle.yp_client.specs.Results.{Says, SaysInMemory}

-- what a reply says to the call with a number
abbrev pub Saying : Type 0 → Type 0
Saying V = ℕ → List ℕ → Result V ClientFault

abbrev pub SaysNumber : Saying ℕ → ℕ → List ℕ → Result ℕ ClientFault → Type 0
SaysNumber said xid message result = Says (λ n. n) (said xid message) result

abbrev pub SaysBytes : Saying (List ℕ) → ℕ → List ℕ → Result (Bor (List ℕ)) ClientFault → Type 0
SaysBytes said xid message result = Says (λ bytes. bytes.now) (said xid message) result

abbrev pub SaysNames : Saying (List (List ℕ)) → ℕ → List ℕ → Result MapList ClientFault → Type 0
SaysNames said xid message result = SaysInMemory (λ list. list.maps) (said xid message) result

abbrev pub SaysStat : Saying ℤ → ℕ → List ℕ → Result XfrStat ClientFault → Type 0
SaysStat said xid message result = Says xfr_number (said xid message) result
