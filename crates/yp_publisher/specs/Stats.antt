-- The status that a caller is told of a fault.
use Rattle.yp_messages.specs.declared.transfer.XfrStat.{XfrStat}
use Rattle.yp_messages.specs.declared.transfer.XfrStat.TheVariants.{Age, Rsrc, File, Refused}
use Rattle.yp_map_file.specs.declared.fault.SlotFault.{SlotFault}
use Rattle.yp_map_file.specs.declared.fault.SlotFault.TheVariants as slot
use Rattle.yp_publisher.specs.declared.install.InstallFault.{InstallFault}
use Rattle.yp_publisher.specs.declared.install.InstallFault.TheVariants as install
use Rattle.yp_publisher.specs.declared.sharing.locked.ShareFault.{ShareFault}
use Rattle.yp_publisher.specs.declared.sharing.locked.ShareFault.TheVariants.{Shut, Unfit, Untold}

-- the status of a file that isn't opened: FILE, or RSRC for want of memory
abbrev pub slot_stat : SlotFault → XfrStat
slot_stat slot.NoMemory = Rsrc
slot_stat slot.DiskFault = File
slot_stat (slot.Damaged at rule) = File

-- the status of a version that isn't installed: REFUSED or AGE where it doesn't follow what is shown, FILE, or RSRC for
-- want of memory
abbrev pub install_stat : InstallFault → XfrStat
install_stat install.Behind = File
install_stat (install.Refused master) = Refused
install_stat (install.Age last offered) = Age
install_stat install.GenerationsSpent = File
install_stat install.DiskFault = File
install_stat install.NoMemory = Rsrc

-- the status of a version that isn't installed, or isn't known to the reader
abbrev pub share_stat : ShareFault → XfrStat
share_stat (Shut fault) = slot_stat fault
share_stat (Unfit fault) = install_stat fault
share_stat Untold = Rsrc
