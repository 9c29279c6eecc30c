-- What a question about a member comes to at a server.
use Rattle.std.specs.Prelude.{◌≡◌, ◌↔◌, true, List, ℕ, Ok, Err}
use Rattle.yp_io.specs.declared.stream.Peer.{Peer}
use Rattle.yp_messages.specs.declared.transfer.XfrStat.{XfrStat}
use Rattle.yp_version.specs.Versions.{MapVersion}
use Rattle.yp_netgroup.specs.Reach.{SoughtMember}
use Rattle.yp_netgroup.specs.inside.Reach.{IsMember}
use Rattle.yp_client.specs.declared.query.fault.QueryFault.TheVariants.{NotMember}
use Rattle.yp_client.specs.declared.question.Question.TheVariants.{Innetgr}
use Rattle.yp_client.specs.query.Lines.{membership_text}
use Rattle.yp_client.specs.query.Asked.{QueryOutcome, netgroup}
use Rattle.yp_answer.specs.Maps.{Maps, row_check}
use Rattle.yp_end_to_end.specs.exchange.Answered.{text_told}

-- yes is told exactly where it is so, and no exactly where it isn't
pub record TellsWhether (is : Type 0) (told : QueryOutcome) : Type 0 where
  pub yes : (told ≡ Ok (membership_text true)) ↔ is
  pub no : (told ≡ Err NotMember) ↔ (is → ⊥)

-- Where a server shows a version of the groups, it is told whether a group that is reached in it lists a triple that
-- fits.
abbrev pub MembershipIsTold : Type 0
MembershipIsTold =
    (first second : Maps) (caller : Peer) (made : XfrStat) (domain group : List ℕ) (asked : SoughtMember)
    (version : MapVersion)
    → row_check first caller.port domain netgroup ≡ Ok version
    → TellsWhether (IsMember version.rows group asked)
    (text_told first second caller made (Innetgr domain group asked.host asked.user asked.domain))
