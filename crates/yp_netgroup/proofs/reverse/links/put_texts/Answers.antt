use Rattle.std.proofs.Common.{sym}
use Rattle.yp_version.specs.Rows.{Row}
use Rattle.yp_netgroup.specs.inside.reverse.Links.{under, naming_text}
use Rattle.yp_netgroup.proofs.reverse.Linking.{row_more}
use Rattle.yp_netgroup.proofs.reverse.links.put_texts.Goals as goal

pub loop-i-preserved : goal.loop-i-preserved
loop-i-preserved c = λ name.
    let row : Row = (c.in-Some.group.now, c.in-Some.text.now) in
    row_more (λ (row : Row). naming_text row.1 row.0) name (under c.loop-i.links name) (under c.put_text.new.links name)
    c.args.netgroup.now.rows c.loop-i.i row (sym c.in-Some.ensures.row) (c.in_ok-put_text.ensures name)
    (c.loop-i.invariant name)
