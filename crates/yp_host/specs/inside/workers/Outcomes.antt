-- The group of a transfer's status.
use Rattle.yp_messages.specs.declared.transfer.XfrStat.{XfrStat}
use Rattle.yp_messages.specs.declared.transfer.XfrStat.TheVariants as stats
use Rattle.yp_host.specs.declared.workers.outcome.Group.{Group}
use Rattle.yp_host.specs.declared.workers.outcome.Group.TheVariants.{NoMemory, File, Source, Reached}

-- the group of a transfer with this status, from a source that has an address
abbrev pub group_of : XfrStat → Group
group_of stats.Succ = Reached
group_of stats.Age = Reached
group_of stats.Refused = Reached
group_of stats.Rsrc = NoMemory
group_of stats.File = File
group_of _ = Source
