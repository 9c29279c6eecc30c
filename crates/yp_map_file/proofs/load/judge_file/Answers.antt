use Rattle.yp_io.specs.Disk.{ReadsAt}
use Rattle.std.proofs.Common.{subst}
use Rattle.yp_map_file.proofs.Loading.{judge_big, judge_short, judge_told, judge_body}
use Rattle.yp_map_file.proofs.load.judge_file.Goals as goal

pub returns-then-len-gt-FILE_MAX-clause-judges : goal.returns-then-len-gt-FILE_MAX-clause-judges
returns-then-len-gt-FILE_MAX-clause-judges g c =
    judge_big (g.D.Disk.history c.args.disk.now) c.in_ok-len.len c.in_ok-len.ensures.length c.if-len-gt-FILE_MAX.true

pub returns-then-len-lt-CELLS_LEN-clause-judges : goal.returns-then-len-lt-CELLS_LEN-clause-judges
returns-then-len-lt-CELLS_LEN-clause-judges g c =
    judge_short (g.D.Disk.history c.args.disk.now) c.in_ok-len.len c.in_ok-len.ensures.length c.if-len-lt-CELLS_LEN.true

pub returns-clause-judges : goal.returns-clause-judges
returns-clause-judges g c = judge_told (g.D.Disk.history c.args.disk.now)
    c.in_ok-len.len c.read.new.buf c.judge.result c.in_ok-len.ensures.length c.read.auto.buf
    (subst (ReadsAt 0 c.read.new.buf) c.in_ok-len.ensures.same c.in_ok-read.ensures.bytes) c.judge.ensures.judges

pub returns-clause-body : goal.returns-clause-body
returns-clause-body g c = judge_body (g.D.Disk.history c.args.disk.now)
    c.in_ok-len.len c.judge.result c.in_ok-len.ensures.length c.if-len-gt-FILE_MAX.false c.judge.ensures.room
