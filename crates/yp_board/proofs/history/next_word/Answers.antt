use Rattle.std.proofs.Common.{sym, ◌∙◌, ap}
use Rattle.yp_board.proofs.Adding.{opens_moves}
use Rattle.yp_board.proofs.history.next_word.Goals as goal

pub compare_exchange-found-requires : goal.compare_exchange-found-requires
compare_exchange-found-requires g c =
    let head = c.requires.head in
    let again = c.again-seen.ensures in
    let offer = c.plain-offer.ensures in
    let pen = c.no_pen-pen.ensures in
    let book = ap (λ s. s.book) again ∙ sym (ap (λ w. w.book) head) in (
      ap (λ w. w.tracked) head,
      book,
      pen.0 ∙ book,
      offer.0,
      rw (ap (λ w. w.key) head, ap (λ s. s.log) again, pen.1, offer.3)
          (opens_moves c.args.seen.now.log g.E.Entry.blank c.args.words),
    )
