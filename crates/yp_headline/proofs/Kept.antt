-- What all that is shown of a map has, and so what its file stands for.
use Rattle.std.proofs.Common.{◌≡◌, ℕ, Bool, cond, List, [], ◌∷◌, ◌++◌, Option, Some, None, refl, sym, ap, ◌∙◌, subst, inl, inr, append_assoc}
use Rattle.std.specs.Prelude.{fold, ◌==◌}
use Rattle.std.proofs.lemmas.List.{append-nil, append_cancel_left}
use Rattle.std.proofs.lemmas.Bool.Decides.{eqb_tells}
use Rattle.yp_version.specs.Versions.{MapVersion}
use Rattle.yp_board.specs.Logs.{Log, shown}
use Rattle.yp_board.specs.Views.{IsFront}
use Rattle.yp_publisher.specs.Grown.{AreMade}
use Rattle.yp_headline.specs.World.{World}
use Rattle.yp_headline.specs.Storing.{stood_for}
use Rattle.yp_headline.specs.Publishing.{IsNew, IsPublishedLog, StandsBy}

push : (map : ℕ) (log : Log) (number : ℕ) (version : MapVersion) (so_far : Option MapVersion)
    → fold (λ so_far entry. cond (entry.0 == map) (Some entry.1) so_far) so_far (log ++ (number, version) ∷ [])
    ≡ cond (number == map) (Some version) (fold (λ so_far entry. cond (entry.0 == map) (Some entry.1) so_far) so_far log)
push map [] number version so_far = refl
push map (entry ∷ log) number version so_far = push map log number version (cond (entry.0 == map) (Some entry.1) so_far)

-- all that is new has P, behind what has it
module _ (world : World) (number : ℕ) (P : Option MapVersion → Type 0)
    (new : (log : Log) (version : MapVersion) → P (shown number log) → IsNew world number log version → P (Some version)) where
  next_shown : (log : Log) (entry : ℕ × MapVersion) → P (shown number log) → IsNew world entry.0 log entry.1
      → P (shown number (log ++ entry ∷ []))
  next_shown log entry is made = elim (eqb_tells entry.0 number) [
    | inl same ↦ subst P
        (sym (push number log entry.0 entry.1 None ∙ ap (λ (b : Bool). cond b (Some entry.1) (shown number log)) same.0))
        (new log entry.1 is (subst (λ (n : ℕ). IsNew world n log entry.1) same.1 made))
    | inr differ ↦ subst P
        (sym (push number log entry.0 entry.1 None ∙ ap (λ (b : Bool). cond b (Some entry.1) (shown number log)) differ.0)) is
  ]

  pub kept : (log more others : Log) → P (shown number log) → AreMade (IsNew world) log (more ++ others)
      → P (shown number (log ++ more))
  kept log [] others is made = subst (λ (l : Log). P (shown number l)) (sym (append-nil log)) is
  kept log (entry ∷ more) others is made =
      subst (λ (l : Log). P (shown number l)) (append_assoc log (entry ∷ []) more)
      (kept (log ++ entry ∷ []) more others (next_shown log entry is made.0) made.1)

  pub on_front : (begun log : Log) → IsPublishedLog world begun log → P (shown number begun) → (front : Log)
      → IsFront begun front → IsFront front log → P (shown number front)
  on_front begun log published is front begins goes_on =
      let parts : begun ++ published.more ≡ begun ++ (begins.0 ++ goes_on.0) =
      sym published.all ∙ goes_on.1 ∙ ap (λ (l : Log). l ++ goes_on.0) begins.1 ∙ append_assoc begun begins.0 goes_on.0 in
      let more : published.more ≡ begins.0 ++ goes_on.0 = append_cancel_left begun published.more (begins.0 ++ goes_on.0) parts in
      subst (λ (l : Log). P (shown number l)) (sym begins.1)
      (kept begun begins.0 goes_on.0 is (subst (λ (l : Log). AreMade (IsNew world) begun l) more published.new))

  by_stands : (front : Log) (image : List ℕ) → P (shown number front) → StandsBy world number front image
      → (version : Option MapVersion) × P version × (stood_for image ≡ Some version)
  by_stands front image shows (inl same) = (shown number front, shows, same)
  by_stands front image shows (inr made) = (Some made.0, new front made.0 shows made.1, made.2)

  -- a file stands for what has it
  pub stands_so : (begun log : Log) → IsPublishedLog world begun log → P (shown number begun) → (front : Log)
      → IsFront begun front → IsFront front log → (image : List ℕ) → StandsBy world number front image
      → (version : Option MapVersion) × P version × (stood_for image ≡ Some version)
  stands_so begun log published is front begins goes_on image stood =
      by_stands front image (on_front begun log published is front begins goes_on) stood
