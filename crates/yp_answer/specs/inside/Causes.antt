-- The status of a version that isn't built.
use Rattle.yp_messages.specs.declared.transfer.XfrStat.{XfrStat}
use Rattle.yp_messages.specs.declared.transfer.XfrStat.TheVariants.{Age, Rsrc, Dbm}
use Rattle.yp_texts.specs.declared.fault.BuildFault.{BuildFault}
use Rattle.yp_texts.specs.declared.fault.BuildFault.TheVariants.{OrderSpent, NoMemory}

-- the status of a version that isn't built: AGE of a spent order, DBM of a row past a limit
abbrev pub build_stat : BuildFault → XfrStat
build_stat OrderSpent = Age
build_stat NoMemory = Rsrc
build_stat _ = Dbm
