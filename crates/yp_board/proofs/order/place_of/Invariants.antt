use Rattle.std.proofs.Common.{◌≡◌, ℕ, ◌<◌, [], false, map, slice_index_or}
use Rattle.std.specs.Ordering.{is_le}
use Rattle.yp_board.specs.Catalogues.{name_view, name_cmp}
use Rattle.yp_board.proofs.order.place_of.Given as goal

abbrev pub invariant-loop-place : goal.invariant-loop-place
invariant-loop-place l =
    (k : ℕ) → k < l.place
    → is_le (name_cmp (name_view l.name)
    (slice_index_or (map name_view l.maps) (slice_index_or l.numbers k 0) ([], []))) ≡ false
