-- What calls answer that no command of the program makes.
use Rattle.std.specs.Prelude.{ℕ, Bool, List, Result}
use Rattle.yp_client.specs.declared.fault.ClientFault.{ClientFault}
use Rattle.yp_client.specs.declared.answers.Row.{Row}
use Rattle.yp_client.specs.Results.{Says}
use Rattle.yp_client.specs.Said.{Saying}

abbrev pub SaysNothing : {X : Type 0} → Saying (Unit {0}) → ℕ → List ℕ → Result X ClientFault → Type 0
SaysNothing said xid message result = Says (λ _. tt) (said xid message) result

abbrev pub SaysBool : Saying Bool → ℕ → List ℕ → Result Bool ClientFault → Type 0
SaysBool said xid message result = Says (λ b. b) (said xid message) result

abbrev pub SaysRow : Saying (List ℕ × List ℕ) → ℕ → List ℕ → Result Row ClientFault → Type 0
SaysRow said xid message result = Says (λ row. (row.value.now, row.key.now)) (said xid message) result
