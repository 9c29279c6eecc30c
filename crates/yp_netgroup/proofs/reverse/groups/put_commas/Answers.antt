use Rattle.std.proofs.Common.{◌≡◌, ◌∙◌, ◌++◌, ◌∷◌, List, [], ℕ, drop-cons, get_or, sym, ap, rules}
use Rattle.std.specs.Borrow.{Bor}
use Rattle.std.specs.Prelude.{flat_map}
use Rattle.std.specs.List.{join_with_byte}
use Rattle.yp_netgroup.specs.inside.reverse.Links.{bytes_in}
use Rattle.yp_netgroup.proofs.reverse.Joining.{comma, joined}
use Rattle.yp_netgroup.proofs.reverse.Linking.{drop_none, piece_more}
use Rattle.yp_netgroup.proofs.reverse.Meeting.{bytes}
use Rattle.yp_netgroup.proofs.reverse.groups.put_commas.Goals as goal

pub loop-name-init : goal.loop-name-init
loop-name-init c =
    let rest = c.in-Some.rest.now in
    let all : c.args.names.now ≡ c.in-Some.first.now ∷ rest = search rules in
    let value : c.extend_from_slice.new.self.items ≡ c.in-Some.first.now.now = search rules in
    ap (λ (names : List (Bor (List ℕ))). c.extend_from_slice.new.self.items ++ flat_map comma (bytes_in names))
    (drop_none rest)
    ∙ ap (λ (front : List ℕ). front ++ flat_map comma (bytes_in rest)) value
    ∙ sym (joined c.in-Some.first.now.now (bytes_in rest))
    ∙ ap (λ (names : List (Bor (List ℕ))). join_with_byte 44 (bytes_in names)) (sym all)

pub loop-name-preserved : goal.loop-name-preserved
loop-name-preserved c =
    let none : Bor (List ℕ) = record { ref_ptr = (0, 0); now = [] } in
    let rest = c.in-Some.rest.now in
    let i = c.loop-name.name-index in
    let all = join_with_byte 44 (bytes_in c.args.names.now) in
    piece_more bytes comma c.loop-name.value.items c.put_comma.new.value.items all rest i (get_or rest i none)
    (drop-cons rest i none c.loop-name-test.true) c.in_ok-put_comma.ensures c.loop-name.invariant
