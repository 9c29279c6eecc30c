use Rattle.std.proofs.Common.{List, [], ◌∷◌, ℕ, inl, inr, sym, subst}
use Rattle.yp_map_file.specs.Stands.{stands}
use Rattle.yp_map_file.specs.Slots.{IsSound}
use Rattle.yp_map_file.specs.inside.Laws.{IsLeft, FileIsBounded}
use Rattle.yp_map_file.proofs.Sits.{sound_small}
use Rattle.yp_map_file.proofs.laws.file_is_bounded.Goals as goal

left_sound : (before after : List ℕ) → IsSound (stands before) → IsLeft before after → IsSound (stands after)
left_sound before after sound (inl same) = subst IsSound (sym same) sound
left_sound before after sound (inr stored) = subst IsSound (sym stored.1) tt

bounded : FileIsBounded
bounded first [] sound left = (sound_small first sound, tt)
bounded first (next ∷ files) sound left =
    (sound_small first sound, bounded next files (left_sound first next sound left.0) left.1)

pub returns : goal.returns
returns c = bounded
