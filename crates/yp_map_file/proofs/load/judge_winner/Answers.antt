use Rattle.std.proofs.Common.{ap, sym, ◌∙◌, ◌≡◌, ◌+◌, ◌≤◌, ℕ, length, Some, arith}
use Rattle.yp_map_file.specs.declared.cells.Entry.{Entry}
use Rattle.yp_map_file.specs.Cells.{entry}
use Rattle.yp_map_file.specs.Stands.{has_room, Damaged}
use Rattle.yp_map_file.specs.inside.Stands.{standing}
use Rattle.yp_map_file.proofs.Judging.{judge_filler, judge_room, judge_entry}
use Rattle.yp_map_file.proofs.load.judge_winner.Goals as goal

pub returns-in-Some-clause-judges : goal.returns-in-Some-clause-judges
returns-in-Some-clause-judges c = λ file front len long.
    let le : 64 ≤ length file = omega arith in
    judge_filler file c.args.cells.now front le c.args.cell c.in-Some.place (sym c.first_dirt.ensures.value
    ∙ c.in-Some.is)
    ∙ ap (λ (n : ℕ). Damaged (n + 1 + c.in-Some.place) 3) (sym c.place.ensures.value)

pub returns-then-not-has_room-clause-judges : goal.returns-then-not-has_room-clause-judges
returns-then-not-has_room-clause-judges c = λ file front len long.
    let le : 64 ≤ length file = omega arith in
    let full : has_room (entry c.args.cell c.args.cells.now) (length file) ≡ _ =
    ap (λ (n : ℕ). has_room (entry c.args.cell c.args.cells.now) n) len
    ∙ ap (λ (e : Entry). has_room e c.args.len) (sym c.entry-entry.ensures) ∙ sym c.has_room.ensures
    ∙ c.if-not-has_room.true in
    judge_room file c.args.cells.now front le c.args.cell (sym c.first_dirt.ensures.value ∙ c.in_default.is) full
    ∙ ap (λ (n : ℕ). Damaged (n + 16) 4) (sym c.place-then-not-has_room.ensures.value)

pub returns-clause-judges : goal.returns-clause-judges
returns-clause-judges c = λ file front len long.
    let le : 64 ≤ length file = omega arith in
    let fits : has_room (entry c.args.cell c.args.cells.now) (length file) ≡ _ =
    ap (λ (n : ℕ). has_room (entry c.args.cell c.args.cells.now) n) len
    ∙ ap (λ (e : Entry). has_room e c.args.len) (sym c.entry-entry.ensures) ∙ sym c.has_room.ensures
    ∙ c.if-not-has_room.false in
    judge_entry file c.args.cells.now front le c.args.cell (sym c.first_dirt.ensures.value ∙ c.in_default.is) fits
    ∙ ap (λ (e : Entry). standing (Some e) file) (sym c.entry-entry.ensures)
