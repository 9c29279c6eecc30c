use Rattle.std.proofs.Common.{◌≡◌, ℕ, List, ◌<◌, ◌++◌, ◌∷◌, [], ◌∙◌, length, get_or, map, ap, arith, rules}
use Rattle.std.specs.Borrow.{Bor}
use Rattle.std.proofs.lemmas.List.{length-map}
use Rattle.yp_netgroup.specs.inside.Seen.{names_of}
use Rattle.yp_netgroup.proofs.Ends.{copied-more}
use Rattle.yp_netgroup.proofs.NameBytes.{bytes, name-at}
use Rattle.yp_netgroup.proofs.search.copied.Goals as goal

pub loop-name-preserved : goal.loop-name-preserved
loop-name-preserved c =
    let none : Bor (List ℕ) = record { ref_ptr = (0, 0); now = [] } in
    let names = c.args.seen.now.keys in
    let i = c.loop-name.name-index in
    let pushed : c.push.new.self.items ≡ c.loop-name.copies.items ++ c.in_ok-copy.copy ∷ [] = search rules in
    let within : i < length names =
    omega (arith, c.loop-name-test.true, ap length c.as_slice-name-items.ensures.keys) in
    let there : i < length (names_of c.args.seen.now) = omega (arith, within, length-map names bytes) in
    let copy : c.in_ok-copy.copy.items ≡ (get_or c.as_slice-name-items.result.now i none).now = search rules in
    let same = copy ∙ name-at names c.as_slice-name-items.result.now i none c.as_slice-name-items.ensures.keys within in
    ap (map (λ name. name.items)) pushed
    ∙ copied-more c.loop-name.copies.items c.in_ok-copy.copy (names_of c.args.seen.now) i c.loop-name.invariant there same
