use Rattle.yp_rpc.specs.Judging.{judged}
use Rattle.yp_answer.specs.Procedures.{programs_on}
use Rattle.yp_answer.proofs.Opened.{open_is_asked, asked_is_local}
use Rattle.yp_answer.proofs.laws.open_is_from_own_host.Goals as goal

pub returns : goal.returns
returns c = λ path maps peer message xid job e. asked_is_local maps peer xid job (open_is_asked path maps peer message (judged (programs_on path) message) xid job e)
