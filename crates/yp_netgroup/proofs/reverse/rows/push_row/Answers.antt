use Rattle.std.proofs.Common.{◌≡◌, ◌∙◌, length, ap, refl, subst, sym, inl, inr}
use Rattle.yp_version.specs.Drafts.{Draft}
use Rattle.yp_netgroup.specs.inside.reverse.Refused.{IsPut, With, row_fault}
use Rattle.yp_netgroup.proofs.reverse.rows.push_row.Goals as goal

pub returns-in-Ok-clause-ok : goal.returns-in-Ok-clause-ok
returns-in-Ok-clause-ok c = λ rows field is.
    subst (IsPut rows field c.args.key.now c.args.builder.now) (sym c.in-Ok.ensures.rows)
    (With (c.args.key.now, c.args.value.now) refl is c.in-Ok.ensures.fits)

pub returns-in-Err-clause-err : goal.returns-in-Err-clause-err
returns-in-Err-clause-err c = λ rows field is.
    let count : c.len.result ≡ length c.args.builder.now.rows =
    c.len.ensures.len ∙ ap (λ (draft : Draft). length draft.rows) c.in-Err.ensures.err in
    elim c.in-Err.ensures.cause [
      | inl e ↦ inr (record {
        row = (c.args.key.now, c.args.value.now);
        at = refl;
        is = is;
        cause = c.in-Err.fault;
        refuses = e;
        says = c.fault_of.ensures ∙ ap (λ n. row_fault n c.in-Err.fault) count;
      })
      | inr two ↦ inl (c.fault_of.ensures ∙ ap (row_fault c.len.result) two.0)
    ]
