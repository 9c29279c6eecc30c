-- Words beside those of specs/session/Hosts.antt, which the contract of the program doesn't reach.
use Rattle.yp_io.specs.declared.stream.Peer.{Peer}
use Rattle.yp_messages.specs.declared.transfer.XfrStat.{XfrStat}
use Rattle.yp_board.specs.Views.{Seen}
use Rattle.yp_answer.specs.declared.make.MakeJob.{MakeJob}
use Rattle.yp_answer.specs.Transfer.{Taken}
use Rattle.yp_answer.specs.Causes.{Told}
use Rattle.yp_answer.specs.session.Hosts.{Counts, Conduct, conduct_of}

-- the same, by the bound of the host
abbrev pub conduct_by : {H : Type 0} → record {
  seen : H → Seen;
  stepped : H → H → Type 0;
  told : H → Told;
  counts : H → Counts;
  made : MakeJob → XfrStat → H → H → Type 0;
  carried : Taken → Peer → H → H → Type 0;
} → Conduct H
conduct_by host = conduct_of host.seen host.told host.counts host.stepped host.made host.carried
