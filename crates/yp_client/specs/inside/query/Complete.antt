-- A question that has an answer.
use Rattle.std.specs.Prelude.{Result, Ok, Err, ⊤}
use Rattle.yp_client.specs.declared.query.fault.QueryFault.{QueryFault}
use Rattle.yp_client.specs.declared.query.fault.QueryFault.TheVariants.{NoKey, NotMember, NotDone, NoMemory}

-- an answer, that there is no such key or no such member, or that no map is fetched or made, or want of memory
abbrev pub QueryIsAnswered : Result (Unit {0}) QueryFault → Type 0
QueryIsAnswered (Ok done) = ⊤
QueryIsAnswered (Err NoKey) = ⊤
QueryIsAnswered (Err NotMember) = ⊤
QueryIsAnswered (Err (NotDone status)) = ⊤
QueryIsAnswered (Err NoMemory) = ⊤
QueryIsAnswered result = ⊥
