-- What a fault of a client is to a transfer, and the status with which each fault of a transfer is told (ypxfrstat of
-- yp.x).
use Rattle.std.specs.Prelude.{Some, None}
use Rattle.yp_messages.specs.declared.stat.YpStat.TheVariants as stats
use Rattle.yp_messages.specs.declared.transfer.XfrStat.{XfrStat}
use Rattle.yp_messages.specs.declared.transfer.XfrStat.TheVariants as told
use Rattle.yp_version.specs.declared.builder.VersionFault.TheVariants as version
use Rattle.yp_client.specs.declared.fault.ClientFault.{ClientFault}
use Rattle.yp_client.specs.declared.fault.ClientFault.TheVariants as client
use Rattle.yp_transfer.specs.declared.fault.XfrFault.{XfrFault}
use Rattle.yp_transfer.specs.declared.fault.XfrFault.TheVariants.{Maddr, Rpc, Nodom, Nomap, Yperr, Xfrerr, Age, Skew, Dbm}
use Rattle.yp_transfer.specs.declared.fault.XfrFault.TheVariants.{Badargs, File, Refused, NoMemory}

-- the status of a fault
abbrev pub stat_of : XfrFault → XfrStat
stat_of Maddr = told.Maddr
stat_of Rpc = told.Rpc
stat_of Nodom = told.Nodom
stat_of Nomap = told.Nomap
stat_of (Yperr stat) = told.Yperr
stat_of (Xfrerr at) = told.Xfrerr
stat_of (Age shown offered) = told.Age
stat_of (Skew first second) = told.Skew
stat_of Dbm = told.Dbm
stat_of Badargs = told.Badargs
stat_of File = told.File
stat_of Refused = told.Refused
stat_of NoMemory = told.Rsrc

-- A status of the source; a refusal by RPC; a reply that can't be read, is to another call or is too long; a wire that
-- failed or ended; a row that no version takes. No call is made of a client that is spent.
abbrev pub of_client : ClientFault → XfrFault
of_client (client.Yp stats.Nomap) = Nomap
of_client (client.Yp stats.Nodom) = Nodom
of_client (client.Yp stat) = Yperr (Some stat)
of_client (client.Denied head) = Yperr None
of_client (client.BadReply at) = Xfrerr at
of_client (client.BadXid want got) = Xfrerr 0
of_client (client.TooLong at) = Xfrerr at
of_client (client.Torn at) = Rpc
of_client client.ReadFault = Rpc
of_client client.WriteFault = Rpc
of_client client.Spent = Rpc
of_client (client.Rows row version.NoMemory) = NoMemory
of_client (client.Rows row fault) = Dbm
of_client client.NoMemory = NoMemory
