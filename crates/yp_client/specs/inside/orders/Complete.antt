-- Servers that all have answered.
use Rattle.std.specs.Prelude.{Bool, Result, Ok, Err, ⊤}
use Rattle.yp_client.specs.declared.query.fault.QueryFault.{QueryFault}
use Rattle.yp_client.specs.declared.query.fault.QueryFault.TheVariants.{NoMemory}

-- the lines were printed, but for want of memory
abbrev pub IsCompared : Result Bool QueryFault → Type 0
IsCompared (Ok level) = ⊤
IsCompared (Err NoMemory) = ⊤
IsCompared result = ⊥
