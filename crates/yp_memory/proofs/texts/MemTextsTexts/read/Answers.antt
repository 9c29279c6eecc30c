use Rattle.std.proofs.Common.{inl, refl, subst, Contains}
use Rattle.std.proofs.lemmas.Result.{err_from_is_err_and}
use Rattle.yp_memory.specs.inside.Mem.{Shelf}
use Rattle.yp_memory.proofs.texts.MemTextsTexts.read.Goals as goal

pub returns-in_err-start_call-clause-fails : goal.returns-in_err-start_call-clause-fails
returns-in_err-start_call-clause-fails c =
    let p = err_from_is_err_and c.from_residual.result c.from_residual.ensures.1 in
    let listed = subst (λ (shelf : Shelf). Contains shelf.failing shelf.calls) c.self.view_is
    (c.in_err-start_call.ensures.fails.0 refl) in
    rw (p.1, p.2) (λ _. inl listed, λ _. refl)
