use Rattle.std.proofs.Common.{◌≡◌, ℕ, suc, ◌+◌, List, ◌++◌, take, sym, ap, ◌∙◌, arith}
use Rattle.yp_command_mail.specs.Portmap.{mappings_text}
use Rattle.yp_command_mail.proofs.Lines.{lines_more}
use Rattle.yp_command_mail.proofs.portmap.text_of.Goals as goal

pub loop-i-preserved : goal.loop-i-preserved
loop-i-preserved c =
    let mappings = c.args.registry.now in
    let i = c.loop-i.i in
    let one : i + 1 ≡ suc i = omega arith in
    c.in-Ok.ensures.items ∙ ap (λ (l : List ℕ). l ++ c.deref.result.now) c.loop-i.invariant
    ∙ ap (λ (l : List ℕ). mappings_text (take i mappings) ++ l) (c.deref.ensures.0 ∙ c.line.ensures)
    ∙ sym (lines_more mappings i c.in-Some.mapping c.in-Some.ensures)
    ∙ ap (λ (n : ℕ). mappings_text (take n mappings)) (sym one)
