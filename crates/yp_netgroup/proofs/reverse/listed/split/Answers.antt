use Rattle.std.proofs.Common.{◌≡◌, ◌∙◌, ◌+◌, ℕ, zero, suc, Bool, true, false, List, [], ◌∷◌, map, ap, sym, refl, drop, Some, not, ◌||◌}
use Rattle.std.proofs.Common.{arith, add-one}
use Rattle.std.specs.Prelude.{slice_get}
use Rattle.std.specs.List.{list_any}
use Rattle.std.proofs.lemmas.Option.{slice_get_within}
use Rattle.yp_version.specs.Rows.{Row}
use Rattle.yp_netgroup.specs.Parts.{Part, parts, triples}
use Rattle.yp_netgroup.specs.inside.Member.{part_of}
use Rattle.yp_netgroup.specs.declared.reverse.field.Field.{Field}
use Rattle.yp_netgroup.specs.inside.reverse.Listed.{is_mixed, is_split}
use Rattle.yp_netgroup.proofs.reverse.listed.split.Goals as goal

drop_none : {X : Type 0} (xs : List X) → drop 0 xs ≡ xs
drop_none [] = refl
drop_none (x ∷ xs) = refl

next_any : {X : Type 0} (p : X → Bool) (xs : List X) (i : ℕ) (x : X) → slice_get xs i ≡ Some x
    → list_any p (drop i xs) ≡ (p x || list_any p (drop (suc i) xs))
next_any p [] i x there = absurd (omega (arith, slice_get_within [] i x there))
next_any p (y ∷ ys) zero x there =
    let is : y ≡ x = cc in
    ap (λ t. p t || list_any p ys) is ∙ ap (λ zs. p x || list_any p zs) (sym (drop_none ys))
next_any p (y ∷ ys) (suc i) x there = next_any p ys i x there

abbrev mixes : Field → Row → Bool
mixes field row = list_any (is_mixed field) (triples (parts row.1))

-- a row that mixes is found, and one that doesn't is passed
passed : (field : Field) (rows : List Row) (i : ℕ) (row : Row) (mixed : Bool) → slice_get rows i ≡ Some row
    → list_any (mixes field) rows ≡ list_any (mixes field) (drop i rows) → mixes field row ≡ mixed
    → list_any (mixes field) rows ≡ (mixed || list_any (mixes field) (drop (i + 1) rows))
passed field rows i row mixed there before is =
    before ∙ next_any (mixes field) rows i row there
    ∙ ap (λ b. b || list_any (mixes field) (drop (suc i) rows)) is
    ∙ ap (λ n. mixed || list_any (mixes field) (drop n rows)) (sym (add-one i))

pub returns-then-mixes : goal.returns-then-mixes
unfolding is_split
returns-then-mixes c =
    let text = c.in-Some.text.now in
    let members : map part_of c.deref.result.now ≡ parts text = ap (map part_of) c.deref.ensures.value ∙ c.in_ok-members.ensures in
    let mixed = ap (λ (ps : List Part). list_any (is_mixed c.args.field) (triples ps)) (sym members) ∙ sym c.mixes.ensures ∙ c.if-mixes.true in
    sym (ap not (passed c.args.field c.args.netgroup.now.rows c.loop-i.i (c.in-Some.field-0-0.now, text) true (sym c.in-Some.ensures.row) c.loop-i.invariant mixed))

pub loop-i-preserved : goal.loop-i-preserved
loop-i-preserved c =
    let text = c.in-Some.text.now in
    let members : map part_of c.deref.result.now ≡ parts text = ap (map part_of) c.deref.ensures.value ∙ c.in_ok-members.ensures in
    let mixed = ap (λ (ps : List Part). list_any (is_mixed c.args.field) (triples ps)) (sym members) ∙ sym c.mixes.ensures ∙ c.if-mixes.false in
    passed c.args.field c.args.netgroup.now.rows c.loop-i.i (c.in-Some.field-0-0.now, text) false (sym c.in-Some.ensures.row) c.loop-i.invariant mixed
