use Rattle.std.proofs.Common.{rules, ◌≡◌, ap, sym, ◌∙◌}
use Rattle.yp_worker_tests.proofs.shared.run_both.Goals.{then-attends, else-attends}
use Rattle.yp_worker_tests.proofs.shared.run_both.Goals as goal

-- server and carrier stay at their queue
pub merge-requires : goal.merge-requires
merge-requires g c =
    let began = ap (λ s. s.holding.queue) c.new-carrier.ensures ∙ ap (λ h. h.queue) c.split_off-part.ensures.same in
    let attended : c.if-attends.carrier.holding.queue ≡ c.new-carrier.result.holding.queue = elim c.if-attends.branch [
      | then-attends w ↦ ap (λ s. s.holding.queue) w.carrier-is ∙ ap (λ h. h.queue) w.carry_all_that_come.ensures.holding
      | else-attends w ↦ ap (λ s. s.holding.queue) w.carrier-is
    ] in
    let own = ap (λ h. h.queue) c.into_parts-host.ensures.pass ∙ ap (λ h. h.queue) c.serve_mail.ensures.serves.serves.holding
    ∙ ap (λ m. m.holding.queue) c.new-server.ensures ∙ ap (λ h. h.queue) c.split_off-part.ensures.one in
    record { queue = own ∙ search rules ∙ sym (attended ∙ began) }
