use Rattle.std.proofs.Common.{subst, sym, ap, ◌+◌, ℕ, length, arith}
use Rattle.yp_io.specs.Disk.{IsWithin, MayLeaveTorn}
use Rattle.yp_map_file.specs.declared.cells.Entry.{Entry}
use Rattle.yp_map_file.specs.Slots.{IsAsBefore}
use Rattle.yp_map_file.specs.inside.Slots.{LiesWithin}
use Rattle.yp_map_file.proofs.Moments.{weaker, then}
use Rattle.yp_map_file.proofs.Again.{body_bounds}
use Rattle.yp_map_file.proofs.Filling.{fill_body_left, fill_entry_left, fill_result, next_lies, next_within}
use Rattle.yp_map_file.proofs.parts.fill.Goals as goal

pub write_at-requires-clause-place : goal.write_at-requires-clause-place
write_at-requires-clause-place g c =
    let bounds = body_bounds c.args.body.now c.requires.body.0 c.requires.body.1 in
    let place = ap (λ (e : Entry). e.place) c.next-next.ensures in
    subst (λ (n : ℕ). IsWithin n (g.D.Disk.history c.args.disk.now)) (sym place)
    (next_within c.args.known.now (g.D.Disk.history c.args.disk.now) (length c.args.body.now)
    c.requires.long c.requires.settled bounds.1)

pub write_at-requires-clause-room : goal.write_at-requires-clause-room
write_at-requires-clause-room g c =
    let bounds = body_bounds c.args.body.now c.requires.body.0 c.requires.body.1 in
    let place = ap (λ (e : Entry). e.place) c.next-next.ensures in
    let lies = next_lies c.args.known.now.winner (length c.args.body.now) c.requires.winner bounds.1 in
    let most = lies.file in
    omega arith

pub returns-in_err-write_at-clause-crash : goal.returns-in_err-write_at-clause-crash
returns-in_err-write_at-clause-crash g c =
    let old = g.D.Disk.history c.args.disk.now in
    let bounds = body_bounds c.args.body.now c.requires.body.0 c.requires.body.1 in
    weaker old (g.D.Disk.history c.write_at.new.self)
    (MayLeaveTorn c.next-next.result.place (length c.args.body.now) old) (IsAsBefore old)
    (fill_body_left c.args.known.now old c.args.body.now c.next-next.result c.requires.long c.requires.closed bounds
    c.requires.settled c.next-next.ensures) c.write_at.ensures.crash

pub returns-in_err-write_and_sync-clause-crash : goal.returns-in_err-write_and_sync-clause-crash
returns-in_err-write_and_sync-clause-crash g c =
    let old = g.D.Disk.history c.args.disk.now in
    let middle = g.D.Disk.history c.write_at.new.self in
    let new = g.D.Disk.history c.write_and_sync.new.disk in
    let bounds = body_bounds c.args.body.now c.requires.body.0 c.requires.body.1 in
    let P = IsAsBefore old in
    then g.D.Disk.history c.args.disk.now c.write_at.new.self c.write_and_sync.new.disk P g.met.D.Disk.goes_on
    g.met.D.Disk.splits
    (weaker old middle (MayLeaveTorn c.next-next.result.place (length c.args.body.now) old) P
    (fill_body_left c.args.known.now old c.args.body.now c.next-next.result c.requires.long c.requires.closed bounds
    c.requires.settled c.next-next.ensures) c.write_at.ensures.crash)
    (weaker middle new (MayLeaveTorn (c.place.result + 1) (length c.bytes.result) middle) P
    (fill_entry_left c.args.known.now old middle c.args.body.now c.next-next.result c.place.result
    (length c.bytes.result) c.requires.long c.requires.closed bounds c.requires.settled c.next-next.ensures
    c.place.ensures.value (ap length c.bytes.ensures) c.in_ok-write_at.ensures.ok)
    c.write_and_sync.ensures.crash)

pub returns-clause-lies : goal.returns-clause-lies
returns-clause-lies g c =
    let bounds = body_bounds c.args.body.now c.requires.body.0 c.requires.body.1 in
    subst LiesWithin (sym c.next-next.ensures)
    (next_lies c.args.known.now.winner (length c.args.body.now) c.requires.winner bounds.1)

pub returns-clause-settled : goal.returns-clause-settled
returns-clause-settled g c =
    let bounds = body_bounds c.args.body.now c.requires.body.0 c.requires.body.1 in
    (fill_result c.args.known.now (g.D.Disk.history c.args.disk.now) (g.D.Disk.history c.write_at.new.self)
    (g.D.Disk.history c.write_and_sync.new.disk)
    c.args.body.now c.bytes.result c.next-next.result c.place.result c.requires.long c.requires.closed bounds
    c.requires.generation c.requires.settled c.next-next.ensures c.place.ensures.value c.bytes.ensures
    c.in_ok-write_at.ensures.ok c.in_ok-write_and_sync.ensures.ok c.requires.body.0
    (c.body_is_read_again.ensures c.args.body.now c.requires.body.0 c.requires.body.1)).0

pub returns-clause-filled : goal.returns-clause-filled
returns-clause-filled g c =
    let bounds = body_bounds c.args.body.now c.requires.body.0 c.requires.body.1 in
    (fill_result c.args.known.now (g.D.Disk.history c.args.disk.now) (g.D.Disk.history c.write_at.new.self)
    (g.D.Disk.history c.write_and_sync.new.disk)
    c.args.body.now c.bytes.result c.next-next.result c.place.result c.requires.long c.requires.closed bounds
    c.requires.generation c.requires.settled c.next-next.ensures c.place.ensures.value c.bytes.ensures
    c.in_ok-write_at.ensures.ok c.in_ok-write_and_sync.ensures.ok c.requires.body.0
    (c.body_is_read_again.ensures c.args.body.now c.requires.body.0 c.requires.body.1)).1

pub returns-clause-entry : goal.returns-clause-entry
returns-clause-entry g c =
    let bounds = body_bounds c.args.body.now c.requires.body.0 c.requires.body.1 in
    (fill_result c.args.known.now (g.D.Disk.history c.args.disk.now) (g.D.Disk.history c.write_at.new.self)
    (g.D.Disk.history c.write_and_sync.new.disk)
    c.args.body.now c.bytes.result c.next-next.result c.place.result c.requires.long c.requires.closed bounds
    c.requires.generation c.requires.settled c.next-next.ensures c.place.ensures.value c.bytes.ensures
    c.in_ok-write_at.ensures.ok c.in_ok-write_and_sync.ensures.ok c.requires.body.0
    (c.body_is_read_again.ensures c.args.body.now c.requires.body.0 c.requires.body.1)).2

pub returns-clause-version : goal.returns-clause-version
returns-clause-version g c = λ version is.
    let bounds = body_bounds c.args.body.now c.requires.body.0 c.requires.body.1 in
    (fill_result c.args.known.now (g.D.Disk.history c.args.disk.now) (g.D.Disk.history c.write_at.new.self)
    (g.D.Disk.history c.write_and_sync.new.disk)
    c.args.body.now c.bytes.result c.next-next.result c.place.result c.requires.long c.requires.closed bounds
    c.requires.generation c.requires.settled c.next-next.ensures c.place.ensures.value c.bytes.ensures
    c.in_ok-write_at.ensures.ok c.in_ok-write_and_sync.ensures.ok version
    (c.body_is_read_again.ensures c.args.body.now version is)).3

pub returns-clause-crash : goal.returns-clause-crash
returns-clause-crash g c =
    let old = g.D.Disk.history c.args.disk.now in
    let middle = g.D.Disk.history c.write_at.new.self in
    let new = g.D.Disk.history c.write_and_sync.new.disk in
    let bounds = body_bounds c.args.body.now c.requires.body.0 c.requires.body.1 in
    let P = IsAsBefore old in
    then g.D.Disk.history c.args.disk.now c.write_at.new.self c.write_and_sync.new.disk P g.met.D.Disk.goes_on
    g.met.D.Disk.splits
    (weaker old middle (MayLeaveTorn c.next-next.result.place (length c.args.body.now) old) P
    (fill_body_left c.args.known.now old c.args.body.now c.next-next.result c.requires.long c.requires.closed bounds
    c.requires.settled c.next-next.ensures) c.write_at.ensures.crash)
    (weaker middle new (MayLeaveTorn (c.place.result + 1) (length c.bytes.result) middle) P
    (fill_entry_left c.args.known.now old middle c.args.body.now c.next-next.result c.place.result
    (length c.bytes.result) c.requires.long c.requires.closed bounds c.requires.settled c.next-next.ensures
    c.place.ensures.value (ap length c.bytes.ensures) c.in_ok-write_at.ensures.ok)
    c.write_and_sync.ensures.crash)
