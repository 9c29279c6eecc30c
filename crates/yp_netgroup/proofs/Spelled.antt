-- The members of a text, taken off at its front.
use Rattle.std.proofs.Common.{◌≡◌, ℕ, suc, zero, ◌+◌, ◌<◌, ◌≤◌, Bool, true, false, List, [], ◌∷◌, length, drop, Option}
use Rattle.std.proofs.Common.{Some, None, refl, sym, ap, ◌∙◌, arith, length-drop, true≢false, ◌==◌, if◌then◌else◌}
use Rattle.std.specs.Prelude.{option_map, slice_index, IfNone, IfSome}
use Rattle.std.specs.Borrow.{Bor}
use Rattle.std.specs.Option.{option_map_or}
use Rattle.std.specs.List.{list_any, prefix_len, position_or_len, before_first, after_first}
use Rattle.std.proofs.lemmas.List.Sums.{prefix_len-le-length}
use Rattle.yp_version.specs.Blanks.{is_blank, without_front_blanks}
use Rattle.yp_netgroup.specs.Parts.{Part, Triple, Lists, CutMember, is_open, is_close, is_name_byte}
use Rattle.yp_netgroup.specs.Parts.{triple_in, cut_triple, cut_name, cut_bare, cut_member}
use Rattle.yp_netgroup.specs.Parts.{parts_within, parts}
use Rattle.yp_netgroup.specs.inside.Member.{part_of, cut_of}
use Rattle.yp_netgroup.specs.declared.text.Member.{Member}

-- ---- what follows a member is shorter

triple_case : (there : Bool) (made : Option Triple) (after : List ℕ) (cut : CutMember)
    → (if there then option_map (λ triple. (Lists triple, after)) made else None) ≡ Some cut → length cut.1 ≡ length after
triple_case true (Some triple) after cut e = sym (ap (λ made. option_map_or (λ cut. length cut.1) made 0) e)
triple_case true None after cut e = cc
triple_case false made after cut e = cc

triple_shorter : (text : List ℕ) (cut : CutMember) → cut_triple text ≡ Some cut → length cut.1 ≤ length text
unfolding cut_triple
triple_shorter text cut e =
    let same = triple_case (list_any is_close text) (triple_in (before_first is_close text)) (after_first is_close text) cut e in
    omega (arith, same, length-drop (position_or_len is_close text + 1) text)

name_case : (none : Bool) (name : Part) (n : ℕ) (text : List ℕ) (cut : CutMember) → (n == 0) ≡ none → n ≤ length text
    → (if none then None else Some (name, drop n text)) ≡ Some cut → length cut.1 < length text
name_case true name n text cut is within e = cc
name_case false name zero text cut is within e = absurd (true≢false is)
name_case false name (suc n) text cut is within e =
    let same : length (drop (suc n) text) ≡ length cut.1 = ap (λ made. option_map_or (λ cut. length cut.1) made 0) e in
    omega (arith, same, length-drop (suc n) text)

name_shorter : (text : List ℕ) (cut : CutMember) → cut_name text ≡ Some cut → length cut.1 < length text
unfolding cut_name
name_shorter text cut e =
    name_case (prefix_len is_name_byte text == 0) _ (prefix_len is_name_byte text) text cut refl
    (prefix_len-le-length is_name_byte text) e

bare_case : (opened : Bool) (b : ℕ) (text : List ℕ) (cut : CutMember)
    → (if opened then cut_triple (drop 1 (b ∷ text)) else cut_name (b ∷ text)) ≡ Some cut
    → length cut.1 < length (b ∷ text)
bare_case true b text cut e =
    omega (arith, triple_shorter (drop 1 (b ∷ text)) cut e, length-drop 1 (b ∷ text))
bare_case false b text cut e = name_shorter (b ∷ text) cut e

bare_shorter : (text : List ℕ) (cut : CutMember) → cut_bare text ≡ Some cut → length cut.1 < length text
bare_shorter [] cut e = name_shorter [] cut e
bare_shorter (b ∷ text) cut e = bare_case (is_open b) b text cut e

pub member_shorter : (text : List ℕ) (cut : CutMember) → cut_member text ≡ Some cut → length cut.1 < length text
unfolding cut_member
member_shorter text cut e =
    omega (arith, bare_shorter (without_front_blanks text) cut e, length-drop (prefix_len is_blank text) text)

-- ---- the limit on members doesn't count

within-none : (n : ℕ) (text : List ℕ) → cut_member text ≡ None → parts_within n text ≡ []
within-none zero text e = refl
within-none (suc n) text e = rw e refl

pub parts-none : (text : List ℕ) → cut_member text ≡ None → parts text ≡ []
unfolding parts
parts-none text e = within-none (length text) text e

within-some : (n : ℕ) (text : List ℕ) (cut : CutMember) → cut_member text ≡ Some cut
    → parts_within (suc n) text ≡ cut.0 ∷ parts_within n cut.1
within-some n text cut e = rw e refl

nothing_case : (n : ℕ) (text : List ℕ) (made : Option CutMember) → cut_member text ≡ made → length text ≤ 0
    → parts_within n text ≡ []
nothing_case n text None e h = within-none n text e
nothing_case n text (Some cut) e h = absurd (omega (arith, member_shorter text cut e))

same_case : (n m : ℕ) (text : List ℕ) (made : Option CutMember) → cut_member text ≡ made
    → ((cut : CutMember) → length cut.1 < length text → parts_within n cut.1 ≡ parts_within m cut.1)
    → parts_within (suc n) text ≡ parts_within (suc m) text
same_case n m text None e more = within-none (suc n) text e ∙ sym (within-none (suc m) text e)
same_case n m text (Some cut) e more =
    within-some n text cut e ∙ ap (λ rest. cut.0 ∷ rest) (more cut (member_shorter text cut e))
    ∙ sym (within-some m text cut e)

within_same : (n m : ℕ) (text : List ℕ) → length text ≤ n → length text ≤ m → parts_within n text ≡ parts_within m text
within_same zero m text a b = sym (nothing_case m text (cut_member text) refl a)
within_same (suc n) zero text a b = nothing_case (suc n) text (cut_member text) refl b
within_same (suc n) (suc m) text a b =
    same_case n m text (cut_member text) refl (λ cut shorter. within_same n m cut.1 (omega arith) (omega arith))

pub parts-some : (text : List ℕ) (cut : CutMember) → cut_member text ≡ Some cut → parts text ≡ cut.0 ∷ parts cut.1
unfolding parts
parts-some text cut e =
    within_same (length text) (suc (length text)) text (omega arith) (omega arith) ∙ within-some (length text) text cut e
    ∙ ap (λ rest. cut.0 ∷ rest)
    (within_same (length text) (length cut.1) cut.1 (omega (arith, member_shorter text cut e)) (omega arith))

-- ---- a member that is cut off

pub none-cut : (text : List ℕ) (made : Option (Member × Bor (List ℕ))) → option_map cut_of made ≡ cut_member text
    → IfNone made (parts text ≡ [])
none-cut text None e = parts-none text (sym e)
none-cut text (Some cut) e = tt

pub some-cut : (text : List ℕ) (made : Option (Member × Bor (List ℕ))) → option_map cut_of made ≡ cut_member text
    → IfSome made (λ cut. parts text ≡ part_of cut.0 ∷ parts cut.1.now)
some-cut text None e = tt
some-cut text (Some cut) e = parts-some text (cut_of cut) (sym e)

pub shorter-cut : (text : List ℕ) (made : Option (Member × Bor (List ℕ))) → option_map cut_of made ≡ cut_member text
    → IfSome made (λ cut. length cut.1.now < length text)
shorter-cut text None e = tt
shorter-cut text (Some cut) e = member_shorter text (cut_of cut) (sym e)

-- where a triple is opened behind the blanks
pub opened-cut : (text bare : List ℕ) (made : Option CutMember) → bare ≡ without_front_blanks text
    → is_open (slice_index bare 0) ≡ true → made ≡ cut_triple (drop 1 bare) → made ≡ cut_member text
unfolding cut_member
opened-cut text bare made e opened m =
    let chosen : cut_bare bare ≡ cut_triple (drop 1 bare) = rw opened refl in
    m ∙ sym chosen ∙ ap cut_bare e

-- and where none is
pub named-cut : (text bare : List ℕ) (made : Option CutMember) → bare ≡ without_front_blanks text
    → is_open (slice_index bare 0) ≡ false → made ≡ cut_name bare → made ≡ cut_member text
unfolding cut_member
named-cut text bare made e closed m =
    let chosen : cut_bare bare ≡ cut_name bare = rw closed refl in
    m ∙ sym chosen ∙ ap cut_bare e
