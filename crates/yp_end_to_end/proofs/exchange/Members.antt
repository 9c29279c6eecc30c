-- The law of members.
use Rattle.std.proofs.Common.{Bool, true, false, Result, refl, sym, subst, true≢false}
use Rattle.std.specs.Prelude.{IsTrue, ◌↔◌}
use Rattle.yp_messages.specs.declared.stat.YpStat.{YpStat}
use Rattle.yp_version.specs.Versions.{MapVersion}
use Rattle.yp_netgroup.specs.inside.Reach.{IsMember}
use Rattle.yp_netgroup.specs.Decided.{is_member}
use Rattle.yp_netgroup.specs.inside.Decided.{MembershipIsDecided}
use Rattle.yp_client.specs.query.Asked.{membership_outcome, membership_told, told_by}
use Rattle.yp_client.specs.query.Faults.{query_fault}
use Rattle.yp_end_to_end.specs.exchange.Told.{told, of_version, all_in}
use Rattle.yp_end_to_end.specs.inside.exchange.MemberLaws.{TellsWhether, MembershipIsTold}

by_value : (member : Bool) (is : Type 0) → IsTrue member ↔ is → TellsWhether is (membership_outcome member)
by_value true is law = record {
  yes = (λ e. law.0 refl, λ h. refl);
  no = (λ e. absurd cc, λ none. absurd (none (law.0 refl)));
}
by_value false is law = record {
  yes = (λ e. absurd cc, λ h. absurd (true≢false (sym (law.1 h))));
  no = (λ e h. true≢false (sym (law.1 h)), λ none. refl);
}

pub membership_is_told : MembershipIsDecided → MembershipIsTold
membership_is_told law first second caller made domain group asked version held =
    subst (λ (shown : Result MapVersion YpStat). TellsWhether (IsMember version.rows group asked) (told_by query_fault (membership_told group asked) (told (of_version all_in shown))))
    (sym held) (by_value (is_member version.rows group asked) _ (law version.rows group asked))
