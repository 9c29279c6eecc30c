-- What a reply says to calls that no command of the program makes, and where a fault of it lies.
use Rattle.std.specs.Prelude.{ℕ, ◌+◌, ◌≤◌, Bool, List, Result, Ok, ⊤}
use Rattle.yp_xdr.specs.Kind.{Boolean}
use Rattle.yp_client.specs.declared.fault.ClientFault.{ClientFault}
use Rattle.yp_client.specs.declared.fault.ClientFault.TheVariants.{BadReply}
use Rattle.yp_client.specs.Results.{◌>>=◌, item, results_of}

-- a fault that was found behind so many bytes of a reply
abbrev pub further : ℕ → ClientFault → ClientFault
further n (BadReply at) = BadReply (n + at)
further n fault = fault

-- a fault has its place among so many bytes
abbrev pub IsIn : ℕ → ClientFault → Type 0
IsIn end (BadReply at) = at ≤ end
IsIn end fault = ⊤

-- ---- the values

-- of calls without results
abbrev pub nothing_of : ℕ → List ℕ → Result (Unit {0}) ClientFault
nothing_of xid message = do
  left ← results_of xid message
  Ok tt

-- of DOMAIN: whether it is served
abbrev pub served_of : ℕ → List ℕ → Result Bool ClientFault
served_of xid message = do
  left ← results_of xid message
  served ← item Boolean left
  Ok served.0
