-- What the fault of a call is to who asks a question.
use Rattle.yp_messages.specs.declared.stat.YpStat.TheVariants as stats
use Rattle.yp_version.specs.declared.builder.VersionFault.TheVariants as version_faults
use Rattle.yp_client.specs.declared.fault.ClientFault.{ClientFault}
use Rattle.yp_client.specs.declared.fault.ClientFault.TheVariants as client_faults
use Rattle.yp_client.specs.declared.query.fault.QueryFault.{QueryFault}
use Rattle.yp_client.specs.declared.query.fault.QueryFault.TheVariants.{NoKey, Client, NoMemory}

-- want of memory has a word of its own
abbrev pub query_fault : ClientFault → QueryFault
query_fault client_faults.NoMemory = NoMemory
query_fault (client_faults.Rows row version_faults.NoMemory) = NoMemory
query_fault fault = Client fault

-- a key that isn't there is no fault of the call
abbrev pub match_fault : ClientFault → QueryFault
match_fault (client_faults.Yp stats.Nokey) = NoKey
match_fault fault = query_fault fault
