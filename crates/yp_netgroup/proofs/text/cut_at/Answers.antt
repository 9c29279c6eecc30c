use Rattle.std.proofs.Common.{◌∙◌, sym, ap, is_some}
use Rattle.yp_netgroup.proofs.Cuts.{found-any}
use Rattle.yp_netgroup.proofs.text.cut_at.Goals as goal

pub returns-in_err-place-clause-found : goal.returns-in_err-place-clause-found
returns-in_err-place-clause-found c =
    ap is_some c.from_residual.ensures ∙ sym (ap is_some c.in_err-place.was) ∙ ap is_some c.place_of.ensures.place
    ∙ found-any _ c.args.text.now

pub returns-clause-found : goal.returns-clause-found
returns-clause-found c =
    sym (ap is_some c.in_ok-place.was) ∙ ap is_some c.place_of.ensures.place ∙ found-any _ c.args.text.now
