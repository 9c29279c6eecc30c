-- A transfer that is taken, as the code has it.
use Rattle.yp_answer.specs.declared.transfer.TransferJob.{TransferJob}
use Rattle.yp_answer.specs.Transfer.{Taken}

abbrev pub taken_view : TransferJob → Taken
taken_view job = record {
  map = job.map;
  source = job.source.now;
  transid = job.transid;
  prog = job.prog;
  port = job.port;
}
