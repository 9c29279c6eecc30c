use Rattle.std.proofs.Common.{sym, ◌∙◌, ap}
use Rattle.yp_board.specs.inside.Histories.{IsNext}
use Rattle.yp_board.proofs.Adding.{adds_moves}
use Rattle.yp_board.proofs.history.Front.with.Goals as goal

pub compare_exchange-requires : goal.compare_exchange-requires
compare_exchange-requires g c =
    let head = c.requires.head in
    let pen = c.requires.pen in
    let again = c.again-seen.ensures in
    let offer = c.plain-offer.ensures in
    let log = c.self.inside.seen.log in
    let next : IsNext log c.args.pen.now.nib = rw c.self.view_is pen.1 in (
      ap (λ w. w.tracked) head,
      ap (λ s. s.book) again ∙ (c.self.invariant.1 ∙ sym (ap (λ w. w.book) head)),
      pen.0 ∙ sym (ap (λ w. w.book) head),
      offer.0,
      rw (ap (λ w. w.key) head, ap (λ s. s.log) again, offer.1, offer.3)
          (adds_moves log c.args.pen.now.nib c.args.entry.now next),
    )
