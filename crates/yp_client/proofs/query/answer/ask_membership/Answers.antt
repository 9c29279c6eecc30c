use Rattle.std.proofs.Common.{◌≡◌, ◌∙◌, List, ℕ, Bool, true, false, Err, refl, sym, subst, inl, inr, true≢false}
use Rattle.std.specs.Prelude.{IsTrue, ◌↔◌}
use Rattle.yp_version.specs.Rows.{Row}
use Rattle.yp_netgroup.specs.Decided.{is_member}
use Rattle.yp_netgroup.specs.inside.Who.{asked_of}
use Rattle.yp_client.specs.States.{ClientState}
use Rattle.yp_client.specs.inside.States.{state_of}
use Rattle.yp_client.specs.declared.query.fault.QueryFault.TheVariants.{NoMemory}
use Rattle.yp_client.specs.query.Asked.{QueryOutcome, TakesRows, IsUnlessMemory, membership_outcome, membership_told, netgroup}
use Rattle.yp_client.proofs.query.answer.ask_membership.Goals as goal

-- two values that are true of one thing are the same
same_truth : (a b : Bool) (is : Type 0) → IsTrue a ↔ is → IsTrue b ↔ is → a ≡ b
same_truth true b is one other = sym (other.1 (one.0 refl))
same_truth false true is one other = one.1 (other.0 refl)
same_truth false false is one other = refl

-- rows that were taken came to what their version means
came_to : (member value : Bool) (domain : List ℕ) (means : List Row → QueryOutcome) (old new : ClientState) → value ≡ member
    → IsUnlessMemory (TakesRows means domain netgroup) (membership_outcome value) old new
    → IsUnlessMemory (TakesRows means domain netgroup) (membership_outcome member) old new
came_to member value domain means old new e h =
    subst (λ (m : Bool). IsUnlessMemory (TakesRows means domain netgroup) (membership_outcome m) old new) e h

-- or memory ran out for it
forgone : (outcome : QueryOutcome) (domain : List ℕ) (means : List Row → QueryOutcome) (old new : ClientState)
    → IsUnlessMemory (TakesRows means domain netgroup) outcome old new
    → IsUnlessMemory (TakesRows means domain netgroup) (Err NoMemory) old new
forgone outcome domain means old new (inl takes) =
    inl (record { draft = takes.draft; makes = record { answer = takes.makes.answer; calls = takes.makes.calls; meant = tt } })
forgone outcome domain means old new (inr none) = inr (refl, none.1)

pub returns-in-Ok-true : goal.returns-in-Ok-true
returns-in-Ok-true g c =
    let group = c.args.group.now in
    let asked = asked_of c.args.who.now in
    let rows = c.in-Ok.version.rows in
    let same = same_truth (is_member rows group asked) c.in-Ok-true.field-0 _ (c.membership_is_decided.ensures rows group asked)
    c.in-Ok-true.ensures ∙ c.in-Ok-true.field-0-test in
    came_to true (is_member rows group asked) c.args.domain.now (membership_told group asked) _ _ same
    (c.in-Ok.ensures (membership_told group asked))

pub returns-in-Ok-false : goal.returns-in-Ok-false
returns-in-Ok-false g c =
    let group = c.args.group.now in
    let asked = asked_of c.args.who.now in
    let rows = c.in-Ok.version.rows in
    let same = same_truth (is_member rows group asked) c.in-Ok-false.field-0 _ (c.membership_is_decided.ensures rows group asked)
    c.in-Ok-false.ensures ∙ c.in-Ok-false.field-0-test in
    came_to false (is_member rows group asked) c.args.domain.now (membership_told group asked) _ _ same
    (c.in-Ok.ensures (membership_told group asked))

pub returns : goal.returns
returns g c =
    let means = membership_told c.args.group.now (asked_of c.args.who.now) in
    forgone (means c.in-Ok.version.rows) c.args.domain.now means _ _ (c.in-Ok.ensures means)
