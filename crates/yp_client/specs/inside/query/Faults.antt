-- Which faults of a call a question may tell.
use Rattle.std.specs.Prelude.{⊤}
use Rattle.yp_version.specs.declared.builder.VersionFault.TheVariants as version_faults
use Rattle.yp_client.specs.declared.fault.ClientFault.TheVariants as client_faults
use Rattle.yp_client.specs.declared.query.fault.QueryFault.{QueryFault}
use Rattle.yp_client.specs.declared.query.fault.QueryFault.TheVariants.{Client}

-- What may be told: no client was spent before, and want of memory has a word of its own.
abbrev pub FaultIsTellable : QueryFault → Type 0
FaultIsTellable (Client client_faults.Spent) = ⊥
FaultIsTellable (Client client_faults.NoMemory) = ⊥
FaultIsTellable (Client (client_faults.Rows row version_faults.NoMemory)) = ⊥
FaultIsTellable fault = ⊤
