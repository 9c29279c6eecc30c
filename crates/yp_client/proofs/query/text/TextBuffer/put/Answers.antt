use Rattle.yp_client.proofs.query.Putting.{puts_written}
use Rattle.yp_client.proofs.query.text.TextBuffer.put.Goals as goal

pub returns-then-piece-gt-BUFFER_LEN-clause-puts : goal.returns-then-piece-gt-BUFFER_LEN-clause-puts
returns-then-piece-gt-BUFFER_LEN-clause-puts g c =
    let last = c.write_all-then-piece-gt-BUFFER_LEN in
    puts_written last.result _ _ _ _ _ _ c.clear.ensures.items
    (rw (c.deref.ensures.value, c.self.view_is) at c.in_ok-write_all.ensures.whole) last.ensures.whole
    last.ensures.prefix
