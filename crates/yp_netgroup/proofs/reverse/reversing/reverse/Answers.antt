use Rattle.std.proofs.Common.{◌≡◌, ◌∙◌, List, ℕ, ap, subst, sym}
use Rattle.yp_version.specs.Rows.{listed}
use Rattle.yp_version.specs.Drafts.{Draft, first_refused, empty_draft}
use Rattle.yp_version.specs.Versions.{MapVersion, unmarked}
use Rattle.yp_netgroup.specs.reverse.Reverse.{IsReverse}
use Rattle.yp_netgroup.specs.inside.reverse.Refused.{IsReverseCause, HasAllRows}
use Rattle.yp_netgroup.proofs.reverse.Drafting.{so_far-whole}
use Rattle.yp_netgroup.proofs.reverse.Handing.{err_same}
use Rattle.yp_netgroup.proofs.reverse.reversing.reverse.Goals as goal

pub put_all-requires : goal.put_all-requires
put_all-requires g c = record { none = ap (λ (draft : Draft). draft.rows) c.in_ok-builder.ensures }

pub returns-in_err-put_all-clause-cause : goal.returns-in_err-put_all-clause-cause
returns-in_err-put_all-clause-cause g c =
    let rows = c.args.netgroup.now.rows in
    let field = c.args.field in
    let fault = c.in_err-put_all.field-0.0 in
    err_same c.from_residual-in_err-put_all.result fault (IsReverseCause rows field (empty_draft c.args.order c.args.master.now))
    c.from_residual-in_err-put_all.ensures.1
    (subst (λ (start : Draft). IsReverseCause rows field start fault) c.in_ok-builder.ensures c.in_err-put_all.ensures.cause)

pub returns-clause-reverse : goal.returns-clause-reverse
returns-clause-reverse g c =
    let rows = c.args.netgroup.now.rows in
    let draft = c.put_all.new.builder in
    let is = c.in_ok-put_all.ensures.all in
    let same : c.in_ok-finish.field-0.rows ≡ draft.rows =
    ap (λ (version : MapVersion). version.rows) c.in_ok-finish.ensures ∙ c.rising_stays.ensures draft.rows is.so_far.rising in
    subst (IsReverse rows c.args.field) (sym same)
    (so_far-whole rows c.args.field c.in_ok-builder.builder draft is.keys is.so_far is.all)

pub returns-clause-version : goal.returns-clause-version
returns-clause-version g c =
    let start = empty_draft c.args.order c.args.master.now in
    let draft = c.put_all.new.builder in
    let is : HasAllRows c.args.netgroup.now.rows c.args.field start draft =
    subst (λ (first : Draft). HasAllRows c.args.netgroup.now.rows c.args.field first draft) c.in_ok-builder.ensures c.in_ok-put_all.ensures.all in
    let rows : c.in_ok-finish.field-0.rows ≡ listed draft.rows = ap (λ (version : MapVersion). version.rows) c.in_ok-finish.ensures in
    c.in_ok-finish.ensures ∙ ap (λ (n : ℕ). unmarked n draft.master (listed draft.rows)) is.so_far.head.0
    ∙ ap (λ (master : List ℕ). unmarked c.args.order master (listed draft.rows)) is.so_far.head.1
    ∙ ap (unmarked c.args.order c.args.master.now) (sym rows)

pub returns-clause-fits : goal.returns-clause-fits
returns-clause-fits g c =
    let start = empty_draft c.args.order c.args.master.now in
    let draft = c.put_all.new.builder in
    let is : HasAllRows c.args.netgroup.now.rows c.args.field start draft =
    subst (λ (first : Draft). HasAllRows c.args.netgroup.now.rows c.args.field first draft) c.in_ok-builder.ensures c.in_ok-put_all.ensures.all in
    let same : c.in_ok-finish.field-0.rows ≡ draft.rows =
    ap (λ (version : MapVersion). version.rows) c.in_ok-finish.ensures ∙ c.rising_stays.ensures draft.rows is.so_far.rising in
    ap (first_refused start) same ∙ is.so_far.taken
