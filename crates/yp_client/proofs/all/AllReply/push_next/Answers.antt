use Rattle.std.proofs.Common.{◌≡◌, ℕ, ◌+◌, ap, arith}
use Rattle.std.proofs.lemmas.Result.{err_from_is_err_and}
use Rattle.yp_client.specs.declared.all.AllReply.{AllReply}
use Rattle.yp_client.proofs.Filling.{row_pushed, row_refused, rows_ended, rows_refused, grows_by}
use Rattle.yp_client.proofs.all.AllReply.push_next.Goals as goal

pub returns-in_err-row-clause-advances : goal.returns-in_err-row-clause-advances
returns-in_err-row-clause-advances c = λ more n may.
    let p = err_from_is_err_and c.from_residual.result c.from_residual.ensures.1 in
    let rows : c.next_row.new.self.rows ≡ c.args.self.now.rows =
    ap (λ (r : AllReply). r.rows) c.next_row.ensures.same in
    rw (p.1, p.2) (rows_refused n _ _ _ _ _ rows (c.in_err-row.ensures.says more may))

pub returns-in_err-row-clause-few : goal.returns-in_err-row-clause-few
returns-in_err-row-clause-few c =
    let rows : c.next_row.new.self.rows ≡ c.args.self.now.rows =
    ap (λ (r : AllReply). r.rows) c.next_row.ensures.same in
    omega (arith, rows, c.next_row.ensures.never_back)

pub returns-in_default-clause-advances : goal.returns-in_default-clause-advances
returns-in_default-clause-advances c = λ more n may.
    let rows : c.next_row.new.self.rows ≡ c.args.self.now.rows =
    ap (λ (r : AllReply). r.rows) c.next_row.ensures.same in
    rw rows (rows_ended n _ _ _ _ (rw c.in_default.is at (c.in_ok-row.ensures.says more may)))

pub returns-in_err-push-clause-advances : goal.returns-in_err-push-clause-advances
returns-in_err-push-clause-advances c = λ more n may.
    let p = err_from_is_err_and c.from_residual-in_err-push.result c.from_residual-in_err-push.ensures.1 in
    let rows : c.next_row.new.self.rows ≡ c.args.self.now.rows =
    ap (λ (r : AllReply). r.rows) c.next_row.ensures.same in
    rw (p.1, p.2) (row_refused n _ _ _ _ _ _ _ _ (ap (λ (k : ℕ). k + 1) rows)
    (rw c.in-Some.is at (c.in_ok-row.ensures.says more may)) c.in_err-push.ensures.cause c.in_err-push.ensures.err)

pub returns-clause-advances : goal.returns-clause-advances
returns-clause-advances c = λ more n may.
    let rows : c.next_row.new.self.rows ≡ c.args.self.now.rows =
    ap (λ (r : AllReply). r.rows) c.next_row.ensures.same in
    rw rows (row_pushed n _ _ _ _ _ _
    (rw c.in-Some.is at (c.in_ok-row.ensures.says more may)) c.in_ok-push.ensures.fits c.in_ok-push.ensures.rows)

pub returns-clause-kept : goal.returns-clause-kept
returns-clause-kept c = grows_by _ _ _ c.in_ok-push.ensures.fits c.in_ok-push.ensures.rows
