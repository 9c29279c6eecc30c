use Rattle.yp_answer.proofs.session.Talking.{piece_follows}
use Rattle.yp_answer.proofs.session.conversation.Conversation.go_on.Goals as goal

pub returns-clause-follows : goal.returns-clause-follows
returns-clause-follows g c =
    let sound = rw (← c.self.view_is) at c.requires.sound in
    let unpaid = rw (← c.self.view_is) at c.requires.unpaid in
    let put = rw c.hold.ensures at c.put_piece-put.ensures.put in
    let front = rw c.hold.ensures at c.put_piece-put.ensures.prefix in
    rw (← c.self.view_is) (piece_follows g.S.TrySource g.K.TrySink _ c.put_piece-put.new.sink.sink c.put_piece-put.new.sink.owed c.put_piece-put.new.stream
    c.put_piece-put.result c.is_err-self-inside.result sound unpaid put front c.put_piece-put.ensures.none c.is_err-self-inside.ensures.value)
