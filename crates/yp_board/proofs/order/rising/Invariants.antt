use Rattle.std.proofs.Common.{◌≡◌, ◌<◌, All, map, length, drop}
use Rattle.yp_board.specs.Catalogues.{name_view, listed}
use Rattle.yp_board.proofs.Rising.{name_at}
use Rattle.yp_board.proofs.order.rising.Given as goal

abbrev pub invariant-loop-number : goal.invariant-loop-number
invariant-loop-number l =
    record {
      within : All (λ number. number < length l.maps) l.numbers.items;
      rising : map (name_at (map name_view l.maps)) l.numbers.items ≡ listed (drop l.number (map name_view l.maps));
    }
