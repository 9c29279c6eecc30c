use Rattle.std.proofs.Common.{◌≡◌, Result, refl, ap, ◌∙◌}
use Rattle.yp_client.specs.declared.fault.ClientFault.{ClientFault}
use Rattle.yp_client.specs.declared.all.AllReply.{AllReply}
use Rattle.yp_client.specs.Asked.{all_call}
use Rattle.yp_client.specs.Calls.{spends}
use Rattle.yp_client.proofs.Judging.{called_ok, called_err_at}
use Rattle.yp_client.proofs.client.Client.all.Goals as goal
use Rattle.yp_client.proofs.client.Client.all.Goals.{in-Ok, in-Err}

pub returns-clause-calls : goal.returns-clause-calls
returns-clause-calls g c =
    let xid : c.new-reply.result.xid ≡ c.self.inside.xid = ap (λ (r : AllReply). r.xid) c.new-reply.ensures in
    rw (← c.self.view_is) (elim c.match-fetched.branch [
      | in-Ok w ↦
          let says = rw xid at w.in-Ok.ensures.says in
          rw w.said-is (called_ok _ _ _ _ w.in-Ok.said says.0 _ _ c.if-self.false w.in-Ok.ensures.of_reply says.2
          (rw xid at w.in-Ok.ensures.sent) w.in-Ok.ensures.waited says.1
          (c.is_spent_by-self-inside.ensures ∙ ap spends w.said-is) refl c.fetch-fetched.ensures.reads
          c.fetch-fetched.ensures.writes)
      | in-Err w ↦
          rw w.said-is (called_err_at (Unit {0}) (Result (Unit {0}) ClientFault) _
          (all_call c.args.domain.now c.args.map.now) _ w.in-Err.fault _ _ _ xid c.if-self.false
          w.in-Err.ensures.cause w.in-Err.ensures.sent w.in-Err.ensures.waited
          (c.is_spent_by-self-inside.ensures ∙ ap spends w.said-is) refl c.fetch-fetched.ensures.reads
          c.fetch-fetched.ensures.writes)
    ])
