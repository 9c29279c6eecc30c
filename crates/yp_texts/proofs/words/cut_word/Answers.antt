use Rattle.std.proofs.Common.{◌≡◌, ◌<◌, length, sym, ap, ◌∙◌, rules, tests}
use Rattle.yp_texts.proofs.WordLists.{words-cut, words-none}
use Rattle.yp_texts.proofs.words.cut_word.Goals as goal

pub returns-then-is_empty-clause-none : goal.returns-then-is_empty-clause-none
returns-then-is_empty-clause-none c =
    let none : length c.without_front_blanks-line.result.now ≡ 0 = search (rules, tests) in
    words-none c.args.line.now (ap length (sym c.without_front_blanks-line.ensures) ∙ none)

pub returns-clause-words : goal.returns-clause-words
returns-clause-words c =
    let some : 0 < length c.without_front_blanks-line.result.now = search (rules, tests) in
    rw (c.after.ensures, c.place_of_blank-end.ensures.place)
    (words-cut c.args.line.now c.without_front_blanks-line.result.now c.without_front_blanks-line.ensures some)
