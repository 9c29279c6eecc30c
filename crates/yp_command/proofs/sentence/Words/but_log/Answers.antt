use Rattle.std.proofs.Common.{◌≡◌, ◌-◌, true, length, arith, sym, ◌∙◌, ap}
use Rattle.std.specs.Prelude.{string_bytes, take}
use Rattle.std.proofs.lemmas.List.{length-map, take-map}
use Rattle.yp_command.specs.Words.{texts, ends_in_log}
use Rattle.yp_command.proofs.sentence.Words.but_log.Goals as goal

pub returns : goal.returns
returns c =
    let words = texts c.args.self.words.now in
    let ends : ends_in_log words ≡ true = cc in
    let long : length words ≡ length c.args.self.words.now = length-map c.args.self.words.now string_bytes in
    let less : c.saturating_sub.result ≡ length words - 1 = omega (arith, long, c.saturating_sub.ensures) in
    let taken = take-map string_bytes c.saturating_sub.result c.args.self.words.now in
    rw ends (sym taken ∙ ap (λ n. take n words) less)
