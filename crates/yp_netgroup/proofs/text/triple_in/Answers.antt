use Rattle.std.proofs.Common.{◌≡◌, ◌∙◌, sym, ap, true, false, rules}
use Rattle.std.specs.Prelude.{option_map}
use Rattle.std.specs.List.{list_any, before_first}
use Rattle.yp_version.specs.Blanks.{bare}
use Rattle.yp_netgroup.specs.Parts.{Lists, is_open, is_comma}
use Rattle.yp_netgroup.specs.inside.Member.{part_of}
use Rattle.yp_netgroup.proofs.Cuts.{rest_of, triple-one, triple-two, triple-three, triple-more}
use Rattle.yp_netgroup.proofs.text.triple_in.Goals as goal

pub returns-in_err-host : goal.returns-in_err-host
returns-in_err-host c =
    let closed : list_any is_open c.args.inside.now ≡ false = search rules in
    let none : list_any is_comma c.args.inside.now ≡ false = search rules in
    ap (option_map part_of) c.from_residual.ensures
    ∙ sym (ap (option_map Lists) (triple-one c.args.inside.now closed none))

pub returns-in_err-user : goal.returns-in_err-user
returns-in_err-user c =
    let closed : list_any is_open c.args.inside.now ≡ false = search rules in
    let one : list_any is_comma c.args.inside.now ≡ true = search rules in
    let rest : c.in_ok-host.rest.now ≡ rest_of c.args.inside.now = search rules in
    let none_of_rest : list_any is_comma c.in_ok-host.rest.now ≡ false = search rules in
    let none : list_any is_comma (rest_of c.args.inside.now) ≡ false = ap (list_any is_comma) (sym rest) ∙ none_of_rest in
    ap (option_map part_of) c.from_residual-in_err-user.ensures
    ∙ sym (ap (option_map Lists) (triple-two c.args.inside.now closed one none))

pub returns-then-contains-2 : goal.returns-then-contains-2
returns-then-contains-2 c =
    let closed : list_any is_open c.args.inside.now ≡ false = search rules in
    let one : list_any is_comma c.args.inside.now ≡ true = search rules in
    let rest : c.in_ok-host.rest.now ≡ rest_of c.args.inside.now = search rules in
    let two_of_rest : list_any is_comma c.in_ok-host.rest.now ≡ true = search rules in
    let two : list_any is_comma (rest_of c.args.inside.now) ≡ true = ap (list_any is_comma) (sym rest) ∙ two_of_rest in
    let last : c.in_ok-user.domain.now ≡ rest_of c.in_ok-host.rest.now = search rules in
    let three_of_last : list_any is_comma c.in_ok-user.domain.now ≡ true = search rules in
    let three : list_any is_comma (rest_of (rest_of c.args.inside.now)) ≡ true =
    ap (list_any is_comma) (sym (last ∙ ap rest_of rest)) ∙ three_of_last in
    sym (ap (option_map Lists) (triple-more c.args.inside.now closed one two three))

pub returns : goal.returns
returns c =
    let closed : list_any is_open c.args.inside.now ≡ false = search rules in
    let one : list_any is_comma c.args.inside.now ≡ true = search rules in
    let rest : c.in_ok-host.rest.now ≡ rest_of c.args.inside.now = search rules in
    let two_of_rest : list_any is_comma c.in_ok-host.rest.now ≡ true = search rules in
    let two : list_any is_comma (rest_of c.args.inside.now) ≡ true = ap (list_any is_comma) (sym rest) ∙ two_of_rest in
    let last : c.in_ok-user.domain.now ≡ rest_of c.in_ok-host.rest.now = search rules in
    let none_of_last : list_any is_comma c.in_ok-user.domain.now ≡ false = search rules in
    let none : list_any is_comma (rest_of (rest_of c.args.inside.now)) ≡ false =
    ap (list_any is_comma) (sym (last ∙ ap rest_of rest)) ∙ none_of_last in
    let first : c.in_ok-host.host.now ≡ before_first is_comma c.args.inside.now = search rules in
    let second : c.in_ok-user.user.now ≡ before_first is_comma c.in_ok-host.rest.now = search rules in
    let host = c.bare.ensures ∙ ap bare first in
    let user = c.bare-2.ensures ∙ ap bare (second ∙ ap (before_first is_comma) rest) in
    let domain = c.bare-3.ensures ∙ ap bare (last ∙ ap rest_of rest) in
    rw (host, user, domain) (sym (ap (option_map Lists) (triple-three c.args.inside.now closed one two none)))
