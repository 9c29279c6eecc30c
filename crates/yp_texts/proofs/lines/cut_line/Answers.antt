use Rattle.yp_texts.proofs.LineLists.{lines-cut}
use Rattle.yp_texts.proofs.lines.cut_line.Goals as goal

pub returns-clause-lines : goal.returns-clause-lines
returns-clause-lines c = rw (c.after.ensures, c.place_of-end.ensures.place) (lines-cut c.args.text.now c.requires)
