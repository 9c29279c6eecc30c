use Rattle.yp_host.proofs.Building.{on_ok, if_err}
use Rattle.yp_host.proofs.Making.{made_from}
use Rattle.yp_host.proofs.local.LocalHost.make_anew.Goals as goal

pub returns-clause-made : goal.returns-clause-made
returns-clause-made g c =
    on_ok c.make_level.result
    (λ tries. made_from _ _ _ _ _ _ _ c.reopen.new.publisher c.self.view_is c.make_level.ensures.desk c.make_level.ensures.dial c.make_level.ensures.asked c.make_level.ensures.transfers
    c.in_ok-reopen.ensures.opened tries)
    c.make_level.ensures.made

pub returns-clause-unmade : goal.returns-clause-unmade
returns-clause-unmade g c =
    if_err c.make_level.result
    (λ stat tries. made_from _ _ _ stat _ _ _ c.reopen.new.publisher c.self.view_is c.make_level.ensures.desk c.make_level.ensures.dial c.make_level.ensures.asked c.make_level.ensures.transfers
    c.in_ok-reopen.ensures.opened tries)
    c.make_level.ensures.unmade
