use Rattle.yp_io.specs.declared.stream.Failed.{Failed}
use Rattle.yp_rpc.proofs.Coming.{paid, pays, sliced}
use Rattle.yp_rpc.proofs.record.outgoing.Outgoing.pay.Goals as goal

pub returns-in-Some-clause-kept : goal.returns-in-Some-clause-kept
returns-in-Some-clause-kept g c =
    let inside = c.self.inside in
    rw (← c.self.view_is, c.let_go.ensures) (pays Failed _ _ inside.written.items inside.paid c.in-Some.taken _ _
    (sliced inside.paid c.deref.result.now inside.written.items c.deref.ensures.value) c.in-Some.is c.in_ok-try_write.ensures.bytes)

pub returns-in-Some-clause-pays : goal.returns-in-Some-clause-pays
returns-in-Some-clause-pays g c =
    let inside = c.self.inside in
    rw (← c.self.view_is, c.let_go.ensures) (paid Failed _ _ inside.written.items inside.paid c.in-Some.taken _ _
    (sliced inside.paid c.deref.result.now inside.written.items c.deref.ensures.value) c.in-Some.is c.in_ok-try_write.ensures.bytes)
