use Rattle.std.proofs.Common.{inr, sym, subst}
use Rattle.yp_publisher.specs.Keeping.{keeping_of}
use Rattle.yp_host.specs.Making.{IsInstallStat}
use Rattle.yp_host.proofs.Making.{uninstalled_stat}
use Rattle.yp_host.proofs.steps.install.Goals as goal

pub returns-in-Err-clause-failed : goal.returns-in-Err-clause-failed
returns-in-Err-clause-failed g c = inr record {
  fault = c.in-Err.fault;
  stat_is = subst (IsInstallStat c.in-Err.fault) (sym c.stat.ensures)
      (uninstalled_stat (keeping_of g.D.Disk.history g.D.Disk.faults g.B.Show.log) c.args.map c.args.version c.in-Err.fault c.args.publisher.now
      c.install.new.self c.requires.map c.requires.level c.requires.follows c.in-Err.ensures.refused);
  refuses = c.in-Err.ensures.refused;
}
