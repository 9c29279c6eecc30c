-- The lines of mappings, one more.
use Rattle.std.proofs.Common.{◌≡◌, ℕ, zero, suc, List, [], ◌∷◌, ◌++◌, take, Some, refl, sym, ap, ◌∙◌, append_assoc}
use Rattle.std.specs.Prelude.{slice_get}
use Rattle.std.proofs.lemmas.List.{append-nil}
use Rattle.yp_binding.specs.declared.portmap.mapping.Mapping.{Mapping}
use Rattle.yp_command_mail.specs.Portmap.{mapping_line, mappings_text}

take_none : (xs : List Mapping) → take 0 xs ≡ []
take_none [] = refl
take_none (x ∷ xs) = refl

pub lines_more : (xs : List Mapping) (i : ℕ) (x : Mapping) → Some x ≡ slice_get xs i
    → mappings_text (take (suc i) xs) ≡ mappings_text (take i xs) ++ mapping_line x
lines_more [] i x e = absurd cc
lines_more (y ∷ xs) zero x e =
    let same : x ≡ y = cc in
    ap (λ (l : List Mapping). mapping_line y ++ mappings_text l) (take_none xs) ∙ append-nil (mapping_line y)
    ∙ ap mapping_line (sym same)
lines_more (y ∷ xs) (suc i) x e =
    ap (λ (l : List ℕ). mapping_line y ++ l) (lines_more xs i x e)
    ∙ sym (append_assoc (mapping_line y) (mappings_text (take i xs)) (mapping_line x))
