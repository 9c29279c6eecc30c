use Rattle.std.proofs.Common.{◌≡◌, ℕ, List, [], ◌++◌, ap, subst, sym, ◌∙◌, arith}
use Rattle.std.proofs.lemmas.List.{append-nil}
use Rattle.yp_board.specs.Views.{IsFront}
use Rattle.yp_transfer.specs.inside.Dials.{dial_by}
use Rattle.yp_host.specs.inside.workers.Charges.{Charged}
use Rattle.yp_host.specs.declared.workers.call_backs.CallBack.{CallBack}
use Rattle.yp_host.specs.inside.workers.CallBacks.{HeldCallBacks, holds_none, holds_more}
use Rattle.yp_host.specs.inside.workers.CallBacks.{AreKnown}
use Rattle.yp_host.specs.inside.workers.Uses.{TellsAllLeft}
use Rattle.yp_host.specs.inside.workers.Uses.{dial_told}
use Rattle.yp_server.proofs.locks.unlock.Goals as goal

pub returns-clause-grown : goal.returns-clause-grown
returns-clause-grown g c =
    subst (λ l. IsFront l (g.B.Show.log c.take_apart-disks.result.1)) c.into_parts-charges.ensures.reached
    c.take_apart-disks.ensures.grown

pub returns-clause-rises : goal.returns-clause-rises
returns-clause-rises g c = c.take_apart-disks.ensures.rises

pub returns-clause-files : goal.returns-clause-files
returns-clause-files g c = λ texts well.
    let charged = c.into_parts-charges.ensures.charged.files in
    let merged = c.merge.ensures in
    let of_texts = ap (λ (charged : Charged). charged.unread) merged in
    let of_files = ap (λ (charged : Charged). charged.failures) merged in
    let shares = c.into_shares-unread.ensures in
    let unread = c.close-materials.ensures.covered texts in
    let failures = c.take_apart-disks.ensures.covered well in
    omega (arith, charged, of_texts, of_files, shares.unread, shares.failures, unread, failures)

pub returns-clause-orders : goal.returns-clause-orders
returns-clause-orders g c =
    let charged = c.into_parts-charges.ensures.charged.orders in
    let merged = ap (λ (charged : Charged). charged.orders) c.merge.ensures in
    let share = c.into_shares-unread.ensures.orders in
    c.close-dialer.ensures.orders c.into_parts-charges.result.0.outcomes.reached (omega (arith, charged, merged, share))

pub returns-clause-sources : goal.returns-clause-sources
returns-clause-sources g c =
    let charged = c.into_parts-charges.ensures.charged.sources in
    let merged = ap (λ (charged : Charged). charged.sources) c.merge.ensures in
    let share = c.into_shares-unread.ensures.sources in
    c.close-dialer.ensures.sources c.into_parts-charges.result.0.outcomes.source (omega (arith, charged, merged, share))

pub returns-clause-origins : goal.returns-clause-origins
returns-clause-origins g c = λ start told.
    let charged = c.into_parts-charges.ensures.charged.made in
    let merged = ap (λ (charged : Charged). charged.made) c.merge.ensures in
    let debit = c.into_shares-unread.ensures.made in record {
      fetched = c.take_apart-disks.result.2.amount;
      stems = c.take_apart-disks.ensures.sourced c.into_parts-charges.result.0.made (omega (arith, charged, merged, debit)) start told;
      good = c.close-dialer.ensures.versions c.take_apart-disks.result.2.amount (omega arith);
    }

pub returns-clause-traced : goal.returns-clause-traced
returns-clause-traced g c = λ start. record {
  fetches = c.take_apart-disks.result.3;
  traced = c.take_apart-disks.ensures.traced start;
  came = c.close-dialer.ensures.known;
}

-- the versions of what was left are known
pub close-dialer-requires-clause-told : goal.close-dialer-requires-clause-told
close-dialer-requires-clause-told g c =
    let shares = c.into_shares-unread in
    let left = ap (λ (held : HeldCallBacks). held.left) shares.ensures.left in
    subst (AreKnown shares.result.4.known) (sym left) shares.ensures.known

pub returns-clause-told : goal.returns-clause-told
returns-clause-told g c =
    let merged = c.merge.ensures in
    let parts = ap (λ (charged : Charged). charged.parts) merged in
    let own = c.into_parts-charges.ensures.parts in
    let rest = c.requires.others.0 in
    let all : c.merge.new.self.parts ≡ g.S.Accounts.shares = omega (arith, parts, own, rest) in
    let left =
    ap (λ (charged : Charged). charged.left) merged
    ∙ ap (λ (told : List CallBack). told ++ c.args.ended.others.left) c.into_parts-charges.ensures.told
    ∙ ap (λ (more : List CallBack). c.args.ended.account.told ++ more) c.requires.others.1
    ∙ append-nil c.args.ended.account.told in
    let queue = g.S.Supplies.call_backs in
    let is =
    c.into_shares-unread.ensures.left
    ∙ ap (λ (n : ℕ). holds_more (holds_none queue n) c.merge.new.self.left []) all
    ∙ ap (λ (told : List CallBack). holds_more (holds_none queue g.S.Accounts.shares) told []) left in
    subst (λ (held : HeldCallBacks). TellsAllLeft g.S.Supplies.hosts g.S.Site.catalogue.maps g.S.Accounts.shares held
    (dial_told g.S.Supplies.wires g.S.Supplies.letters g.S.Supplies.dial_faults) (dial_by g.A.Dial c.close-dialer.result.dial))
    is c.close-dialer.ensures.dialed
