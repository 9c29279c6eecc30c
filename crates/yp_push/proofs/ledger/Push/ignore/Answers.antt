use Rattle.std.proofs.Common.{sym, subst}
use Rattle.yp_push.specs.Ledgers.{Ledger}
use Rattle.yp_push.specs.inside.Settling.{ChangesNone}
use Rattle.yp_push.proofs.Keeping.{ignores}
use Rattle.yp_push.proofs.ledger.Push.ignore.Goals as goal

pub invariant_of-self : goal.invariant_of-self
invariant_of-self c =
    let P : Ledger → Type 0 = λ ledger. ChangesNone ledger c.args.event in
    rw c.push.ensures
    (ignores _ _ c.self.inside.window _ _ _ _ _ c.self.invariant (subst P (sym c.self.view_is) c.requires))
