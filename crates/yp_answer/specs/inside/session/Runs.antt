-- The end that a fault of a record is.
use Rattle.yp_rpc.specs.declared.record.RecordFault.{RecordFault}
use Rattle.yp_rpc.specs.declared.record.RecordFault.TheVariants as faults
use Rattle.yp_answer.specs.declared.session.session.End.{End}
use Rattle.yp_answer.specs.declared.session.session.End.TheVariants.{Torn, TooLong, ReadFault}

-- the end that a fault of a record is
abbrev pub end_of : RecordFault → End
end_of (faults.Torn at) = Torn at
end_of (faults.TooLong at) = TooLong at
end_of faults.ReadFault = ReadFault
