-- What the code of `orders` has, as what its calls come to.
use Rattle.std.specs.Prelude.{ℕ, ◌≤◌, List, length, map, All, Option, Vec, Result, Ok, Err}
use Rattle.std.specs.declared.alloc.Global.{Global}
use Rattle.yp_messages.specs.Numbers.{name_max}
use Rattle.yp_client.specs.declared.dialed.Unconnected.{Unconnected}
use Rattle.yp_client.specs.declared.dialed.Unconnected.TheVariants as unconnected
use Rattle.yp_client.specs.declared.query.fault.QueryFault.{QueryFault}
use Rattle.yp_client.specs.declared.query.fault.QueryFault.TheVariants.{Dial, NoMemory}
use Rattle.yp_client.specs.declared.orders.asked.Mastered.{Mastered as MasteredMap}
use Rattle.yp_client.specs.declared.orders.asked.Survey.{Survey as MapSurvey}
use Rattle.yp_client.specs.declared.orders.dialed.Comparison.{Comparison as ServerComparison}
use Rattle.yp_client.specs.query.Asked.{Outcome}
use Rattle.yp_client.specs.orders.Asked.{Mastered, Orders, Survey, Comparison, survey_of, comparison_of}

-- what a result of the code tells, where its value is seen by `view`
abbrev pub told : {X V : Type 0} → (X → V) → Result X QueryFault → Outcome V
told view (Ok value) = Ok (view value)
told view (Err fault) = Err fault

-- no wire came, or no client
abbrev pub of_unconnected : Unconnected → QueryFault
of_unconnected unconnected.Dial = Dial
of_unconnected unconnected.NoMemory = NoMemory

abbrev pub mastered_view : MasteredMap → Mastered
mastered_view map = (map.name.items, map.master.items)

abbrev pub masters_view : Vec MasteredMap Global → List Mastered
masters_view maps = map mastered_view maps.items

abbrev pub survey_view : MapSurvey → Survey
survey_view survey = survey_of (masters_view survey.maps) survey.orders.items

-- the orders of each server
abbrev pub orders_list : List (Vec (Option ℕ) Global) → List Orders
orders_list servers = map (λ orders. orders.items) servers

abbrev pub orders_view : Vec (Vec (Option ℕ) Global) Global → List Orders
orders_view servers = orders_list servers.items

abbrev pub comparison_view : ServerComparison → Comparison
comparison_view comparison = comparison_of (survey_view comparison.survey) (orders_view comparison.others)

-- the name of each map fits into a call
abbrev pub HasShortNames : List Mastered → Type 0
HasShortNames maps = All (λ map. length map.0 ≤ name_max) maps
