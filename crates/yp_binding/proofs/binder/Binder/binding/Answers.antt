use Rattle.std.proofs.Common.{◌<◌, length, sym, subst, ap, ◌∙◌, arith}
use Rattle.std.proofs.lemmas.List.{get_or_read}
use Rattle.yp_binding.specs.Events.{binding_of}
use Rattle.yp_binding.specs.Rounds.{Bindings}
use Rattle.yp_binding.specs.inside.Standings.{fresh, bound_by}
use Rattle.yp_binding.specs.inside.Kept.{bindings_of}
use Rattle.yp_binding.proofs.Steps.{bound_standing}
use Rattle.yp_binding.proofs.binder.Binder.binding.Goals as goal

pub returns : goal.returns
returns c =
    let domain = c.args.domain in
    let kept = c.self.invariant in
    let standings = c.self.inside.standings.items in
    let W : Bindings → Type 0 = λ bindings. domain < length bindings.domains in
    let inside : domain < length (bindings_of c.self.inside).domains = subst W (sym c.self.view_is) c.requires in
    let within : domain < length standings = omega (arith, inside, kept.count) in
    let read = get_or_read standings domain c.index.result.now within c.index.ensures fresh in
    c.bound.ensures ∙ ap bound_by (read ∙ kept.by_events domain within)
    ∙ bound_standing domain c.self.inside.history
    ∙ ap (λ (bindings : Bindings). binding_of domain bindings.events) c.self.view_is
