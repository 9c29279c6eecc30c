use Rattle.std.proofs.Common.{ℕ, ◌∙◌, refl, take}
use Rattle.yp_client.specs.declared.answers.Row.{Row}
use Rattle.yp_client.specs.Results.{row_of}
use Rattle.yp_client.proofs.Judging.{called_ok, called_err, no_reply_spends, same_spends}
use Rattle.yp_client.proofs.client.Client.lend_row.Goals as goal

pub returns-in-Err : goal.returns-in-Err
returns-in-Err g c = (
  (
    refl,
    λ _. tt,
    rw (← c.self.view_is) (called_err Row ℕ _ _ _ c.in-Err.fault _ _ c.if-self.false
        c.in-Err.ensures.cause c.in-Err.ensures.sent c.in-Err.ensures.waited
        (no_reply_spends Row _ c.in-Err.fault _ _ c.in-Err.ensures.cause) refl c.exchange-read.ensures.reads
        c.exchange-read.ensures.writes),
  ),
  record { calls = tt },
)

pub returns : goal.returns
returns g c =
    let buf = c.exchange-read.new.self.buf.items in
    let first = rw c.deref.ensures.value at c.read_found.ensures.says in
    let second = rw c.deref-2.ensures.value at c.read_found-2.ensures.says in
    let spent = same_spends (λ (row : Row). (row.value.now, row.key.now))
    (row_of c.self.inside.xid (take c.in-Ok.len buf)) c.read_found.result c.read_found-2.result first second in (
      (
        refl,
        λ _. tt,
        rw (← c.self.view_is) (called_ok _ _ _ _ c.read_found-2.result _ _ _ c.if-self.false
            c.read_found-2.ensures.of_reply second c.in-Ok.ensures.sent c.in-Ok.ensures.waited c.in-Ok.ensures.taken
            (c.is_spent_by-self-inside.ensures ∙ spent) refl c.exchange-read.ensures.reads
            c.exchange-read.ensures.writes),
      ),
      record { calls = tt },
    )
