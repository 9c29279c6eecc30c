use Rattle.std.proofs.Common.{◌≡◌, ◌<◌, ◌+◌, List, length, map, slice_set, ap, subst, sym, refl}
use Rattle.std.specs.Arc.{arc_value}
use Rattle.yp_io.specs.Counts.{HasRisen}
use Rattle.yp_publisher.specs.Installs.{IsInstalled, IsUnsure, IsUnshown, LeavesEither}
use Rattle.yp_publisher.specs.Rising.{PublisherState, Stores, publisher_state}
use Rattle.yp_publisher.specs.Standing.{StoredMap, Published, Level}
use Rattle.yp_publisher.proofs.Maps.{on_ok, if_ok, on_err, read_map, of_read, of_at, at_set, shows_after}
use Rattle.yp_publisher.proofs.Maps.{stores_after, publisher_set, stand_set}
use Rattle.yp_publisher.specs.Keeping.{Upholds, keeping_of}
use Rattle.yp_publisher.proofs.Changing.{upheld, new}
use Rattle.yp_publisher.proofs.publisher.Publisher.store.Goals as goal

pub returns-clause-cause : goal.returns-clause-cause
returns-clause-cause g c =
    let now = c.args.self.now.maps in
    let maps = c.self.inside.maps.items in
    let n = c.args.map in
    let x = c.index_mut-stored.result.now in
    let y = c.install.new.self in
    let w = arc_value c.args.spelled.stored in
    let same : maps ≡ now = ap (λ (p : Published g.row.D.Denot g.row.B.Denot). p.maps) c.self.view_is in
    let there = read_map now maps n x same c.requires.map c.index_mut-stored.ensures.value in
    λ e. at_set (λ before after. HasRisen (g.D.Disk.faults before.disk) (g.D.Disk.faults after.disk))
    now maps n x y same there (c.install.ensures.cause e)

pub returns-clause-installed : goal.returns-clause-installed
returns-clause-installed g c =
    let now = c.args.self.now.maps in
    let maps = c.self.inside.maps.items in
    let n = c.args.map in
    let x = c.index_mut-stored.result.now in
    let y = c.install.new.self in
    let w = arc_value c.args.spelled.stored in
    let same : maps ≡ now = ap (λ (p : Published g.row.D.Denot g.row.B.Denot). p.maps) c.self.view_is in
    let there = read_map now maps n x same c.requires.map c.index_mut-stored.ensures.value in
    on_ok c.install.result (λ h. at_set (IsInstalled w) now maps n x y same there h) c.install.ensures.installed

pub returns-clause-answer : goal.returns-clause-answer
returns-clause-answer g c =
    let now = c.args.self.now.maps in
    let maps = c.self.inside.maps.items in
    let n = c.args.map in
    let x = c.index_mut-stored.result.now in
    let y = c.install.new.self in
    let w = arc_value c.args.spelled.stored in
    let same : maps ≡ now = ap (λ (p : Published g.row.D.Denot g.row.B.Denot). p.maps) c.self.view_is in
    let there = read_map now maps n x same c.requires.map c.index_mut-stored.ensures.value in
    if_ok c.install.result (λ generation h. of_read (λ kept. generation ≡ kept.generation + 1) now n x there h)
    c.install.ensures.answer

pub returns-clause-disk_fault : goal.returns-clause-disk_fault
returns-clause-disk_fault g c =
    let now = c.args.self.now.maps in
    let maps = c.self.inside.maps.items in
    let n = c.args.map in
    let x = c.index_mut-stored.result.now in
    let y = c.install.new.self in
    let w = arc_value c.args.spelled.stored in
    let same : maps ≡ now = ap (λ (p : Published g.row.D.Denot g.row.B.Denot). p.maps) c.self.view_is in
    let there = read_map now maps n x same c.requires.map c.index_mut-stored.ensures.value in
    λ e. at_set (IsUnsure w) now maps n x y same there (c.install.ensures.disk_fault e)

pub returns-clause-no_memory : goal.returns-clause-no_memory
returns-clause-no_memory g c =
    let now = c.args.self.now.maps in
    let maps = c.self.inside.maps.items in
    let n = c.args.map in
    let x = c.index_mut-stored.result.now in
    let y = c.install.new.self in
    let w = arc_value c.args.spelled.stored in
    let same : maps ≡ now = ap (λ (p : Published g.row.D.Denot g.row.B.Denot). p.maps) c.self.view_is in
    let there = read_map now maps n x same c.requires.map c.index_mut-stored.ensures.value in
    λ e. at_set (IsUnshown w) now maps n x y same there (c.install.ensures.no_memory e)

pub returns-clause-any_moment : goal.returns-clause-any_moment
returns-clause-any_moment g c =
    let now = c.args.self.now.maps in
    let maps = c.self.inside.maps.items in
    let n = c.args.map in
    let x = c.index_mut-stored.result.now in
    let y = c.install.new.self in
    let w = arc_value c.args.spelled.stored in
    let same : maps ≡ now = ap (λ (p : Published g.row.D.Denot g.row.B.Denot). p.maps) c.self.view_is in
    let there = read_map now maps n x same c.requires.map c.index_mut-stored.ensures.value in
    at_set (LeavesEither g.D.Disk.history w) now maps n x y same there c.install.ensures.any_moment

pub returns-clause-stores : goal.returns-clause-stores
returns-clause-stores g c =
    let now = c.args.self.now.maps in
    let maps = c.self.inside.maps.items in
    let n = c.args.map in
    let x = c.index_mut-stored.result.now in
    let y = c.install.new.self in
    let w = arc_value c.args.spelled.stored in
    let same : maps ≡ now = ap (λ (p : Published g.row.D.Denot g.row.B.Denot). p.maps) c.self.view_is in
    let there = read_map now maps n x same c.requires.map c.index_mut-stored.ensures.value in
    let within : n < length maps = subst (λ (l : List (StoredMap g.row.D.Denot)). n < length l) (sym same) c.requires.map in
    let here = read_map maps maps n x refl within c.index_mut-stored.ensures.value in
    let L = g.B.Show.log in
    let log = L c.self.inside.board in
    let after = L c.install.new.board in
    let kept = on_err c.install.result (λ e. ap L e) c.install.ensures.not_shown in
    let level = of_at (λ kept. kept.standing ≡ Level) now n x there c.requires.level in
    let step = stores_after c.install.result log after maps n x y w here level c.install.ensures.log kept
    c.install.ensures.level c.install.ensures.behind in
    let new : PublisherState = record {
      log = after;
      standings = map (λ (kept' : StoredMap g.row.D.Denot). kept'.standing) (slice_set maps n y);
    } in
    subst (λ (p : Published g.row.D.Denot g.row.B.Denot). Stores n w (publisher_state L p) new) c.self.view_is step

pub invariant_of-self : goal.invariant_of-self
invariant_of-self g c =
    let now = c.args.self.now.maps in
    let maps = c.self.inside.maps.items in
    let n = c.args.map in
    let x = c.index_mut-stored.result.now in
    let y = c.install.new.self in
    let w = arc_value c.args.spelled.stored in
    let same : maps ≡ now = ap (λ (p : Published g.row.D.Denot g.row.B.Denot). p.maps) c.self.view_is in
    let there = read_map now maps n x same c.requires.map c.index_mut-stored.ensures.value in
    let within : n < length maps = subst (λ (l : List (StoredMap g.row.D.Denot)). n < length l) (sym same) c.requires.map in
    let here = read_map maps maps n x refl within c.index_mut-stored.ensures.value in
    let L = g.B.Show.log in
    let log = L c.self.inside.board in
    let after = L c.install.new.board in
    let kept = on_err c.install.result (λ e. ap L e) c.install.ensures.not_shown in
    let shows = shows_after c.install.result log after maps n x y w here c.install.ensures.log kept
    c.install.ensures.version c.install.ensures.version_kept c.self.invariant.1.shows in (
      c.self.invariant.0,
      publisher_set maps n y _ log after _ _ _ c.self.invariant.1 c.install.ensures.maps shows,
      stand_set g.D.Disk.history maps n y within c.self.invariant.2 c.install.ensures.standing,
    )

pub returns-clause-upheld : goal.returns-clause-upheld
returns-clause-upheld g c =
    let now = c.args.self.now.maps in
    let maps = c.self.inside.maps.items in
    let n = c.args.map in
    let x = c.index_mut-stored.result.now in
    let y = c.install.new.self in
    let w = arc_value c.args.spelled.stored in
    let same : maps ≡ now = ap (λ (p : Published g.row.D.Denot g.row.B.Denot). p.maps) c.self.view_is in
    let there = read_map now maps n x same c.requires.map c.index_mut-stored.ensures.value in
    let within : n < length maps = subst (λ (l : List (StoredMap g.row.D.Denot)). n < length l) (sym same) c.requires.map in
    let here = read_map maps maps n x refl within c.index_mut-stored.ensures.value in
    let L = g.B.Show.log in
    let log = L c.self.inside.board in
    let after = L c.install.new.board in
    let kept = on_err c.install.result (λ e. ap L e) c.install.ensures.not_shown in
    let shows = shows_after c.install.result log after maps n x y w here c.install.ensures.log kept
    c.install.ensures.version c.install.ensures.version_kept c.self.invariant.1.shows in
    let K = keeping_of g.D.Disk.history g.D.Disk.faults L in
    let k = c.self.inside.catalog in
    let board = c.self.inside.board in
    let done = upheld K k maps n x y board c.install.new.board here c.install.ensures.standing
    c.install.ensures.numbered shows c.install.ensures.never_falls c.install.ensures.bound in
    subst (λ (p : Published g.row.D.Denot g.row.B.Denot). Upholds K n p
    (new K k maps n x y board c.install.new.board here)) c.self.view_is done
