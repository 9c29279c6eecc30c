use Rattle.std.proofs.Common.{◌≡◌, ◌⊎◌, inl, inr, ◌<◌, List, length, slice_set, OnOk, IfErr, ap, subst, sym, refl}
use Rattle.yp_version.specs.Versions.{MapVersion}
use Rattle.yp_publisher.specs.Keeping.{keeping_of}
use Rattle.yp_publisher.specs.Opens.{IsAnother, Opens, StaysBehind}
use Rattle.yp_publisher.specs.Standing.{StoredMap, Published, At}
use Rattle.yp_publisher.proofs.Changing.{all_ok, all_err, new, at, upheld, few_more, opened, stayed, Told, reshown}
use Rattle.yp_publisher.proofs.Changing.{shown_of, still_version, not_level}
use Rattle.yp_publisher.proofs.Maps.{on_ok, on_err, read_map, Reshown, shows_reopened, publisher_set, stand_set}
use Rattle.yp_publisher.proofs.publisher.Publisher.reopen.Goals as goal

pub returns-clause-opened : goal.returns-clause-opened
returns-clause-opened g c =
    let now = c.args.self.now.maps in
    let maps = c.self.inside.maps.items in
    let n = c.args.map in
    let x = c.index_mut-stored.result.now in
    let y = c.reopen.new.self in
    let board = c.self.inside.board in
    let after = c.reopen.new.board in
    let r = c.reopen.result in
    let K = keeping_of g.D.Disk.history g.D.Disk.faults g.B.Show.log in
    let same : maps ≡ now = ap (λ (p : Published g.row.D.Denot g.row.B.Denot). p.maps) c.self.view_is in
    let within : n < length maps = subst (λ (l : List (StoredMap g.row.D.Denot)). n < length l) (sym same) c.requires in
    let there = read_map maps maps n x refl within c.index_mut-stored.ensures.value in
    let told : Told g.D.Disk.history g.B.Show.log g.B.Show.showed n x y board after
    → Reshown n (K.log board) (K.log after) x y =
    reshown g.D.Disk.history g.B.Show.log g.B.Show.showed n x y board after in
    let shown = on_ok r told c.reopen.ensures.shown in
    let kept = still_version K.history r x y c.reopen.ensures.still in
    let same_log = on_err r (λ (e : after ≡ board). ap K.log e) c.reopen.ensures.not_shown in
    let shows = shows_reopened r (K.log board)
    (K.log after) maps n x y there shown same_log kept c.self.invariant.1.shows in
    let bound = few_more K c.self.inside.catalog maps n x y board after there c.file_is_bounded.ensures
    c.reopen.ensures.before c.reopen.ensures.no_more in
    let upholds = upheld K c.self.inside.catalog maps n x y board after there c.reopen.ensures.standing
    c.reopen.ensures.numbered shows c.reopen.ensures.never_falls bound in
    let plain = on_ok r (shown_of g.D.Disk.history g.B.Show.log g.B.Show.showed n x y board after)
    c.reopen.ensures.shown in
    let done = all_ok r
    (λ level stood showing. opened K c.self.inside.catalog maps n x y board after there upholds level
    (λ e. (let l = c.reopen.ensures.level e in (l.1, l.2))) stood showing
    c.reopen.ensures.before c.reopen.ensures.no_more (g.met.D.Disk.reads_image x.disk))
    c.reopen.ensures.ok c.reopen.ensures.stood plain in
    subst (λ (p : Published g.row.D.Denot g.row.B.Denot). OnOk r
    (Opens K n p (new K c.self.inside.catalog maps n x y board after there))) c.self.view_is done

pub returns-clause-refused : goal.returns-clause-refused
returns-clause-refused g c =
    let now = c.args.self.now.maps in
    let maps = c.self.inside.maps.items in
    let n = c.args.map in
    let x = c.index_mut-stored.result.now in
    let y = c.reopen.new.self in
    let board = c.self.inside.board in
    let after = c.reopen.new.board in
    let r = c.reopen.result in
    let K = keeping_of g.D.Disk.history g.D.Disk.faults g.B.Show.log in
    let same : maps ≡ now = ap (λ (p : Published g.row.D.Denot g.row.B.Denot). p.maps) c.self.view_is in
    let within : n < length maps = subst (λ (l : List (StoredMap g.row.D.Denot)). n < length l) (sym same) c.requires in
    let there = read_map maps maps n x refl within c.index_mut-stored.ensures.value in
    let told : Told g.D.Disk.history g.B.Show.log g.B.Show.showed n x y board after
    → Reshown n (K.log board) (K.log after) x y =
    reshown g.D.Disk.history g.B.Show.log g.B.Show.showed n x y board after in
    let shown = on_ok r told c.reopen.ensures.shown in
    let kept = still_version K.history r x y c.reopen.ensures.still in
    let same_log = on_err r (λ (e : after ≡ board). ap K.log e) c.reopen.ensures.not_shown in
    let shows = shows_reopened r (K.log board)
    (K.log after) maps n x y there shown same_log kept c.self.invariant.1.shows in
    let bound = few_more K c.self.inside.catalog maps n x y board after there c.file_is_bounded.ensures
    c.reopen.ensures.before c.reopen.ensures.no_more in
    let upholds = upheld K c.self.inside.catalog maps n x y board after there c.reopen.ensures.standing
    c.reopen.ensures.numbered shows c.reopen.ensures.never_falls bound in
    let done = all_err r
    (λ why still cause behind unshown. stayed K c.self.inside.catalog maps n x y board after there why upholds behind
    still unshown cause
    c.reopen.ensures.before c.reopen.ensures.no_more)
    c.reopen.ensures.still c.reopen.ensures.cause (not_level r x (λ e. (c.reopen.ensures.level e).0))
    c.reopen.ensures.not_shown in
    subst (λ (p : Published g.row.D.Denot g.row.B.Denot). IfErr r
    (λ why. StaysBehind K n why p (new K c.self.inside.catalog maps n x y board after there))) c.self.view_is done

pub returns-clause-showed : goal.returns-clause-showed
returns-clause-showed g c =
    let now = c.args.self.now.maps in
    let maps = c.self.inside.maps.items in
    let n = c.args.map in
    let x = c.index_mut-stored.result.now in
    let y = c.reopen.new.self in
    let board = c.self.inside.board in
    let after = c.reopen.new.board in
    let r = c.reopen.result in
    let K = keeping_of g.D.Disk.history g.D.Disk.faults g.B.Show.log in
    let same : maps ≡ now = ap (λ (p : Published g.row.D.Denot g.row.B.Denot). p.maps) c.self.view_is in
    let within : n < length maps = subst (λ (l : List (StoredMap g.row.D.Denot)). n < length l) (sym same) c.requires in
    let there = read_map maps maps n x refl within c.index_mut-stored.ensures.value in
    let S = g.B.Show.showed in
    let P : Published g.row.D.Denot g.row.B.Denot → StoredMap g.row.D.Denot → StoredMap g.row.D.Denot
    → Type 0 = λ p before later. (after ≡ p.board)
    ⊎ ((version : MapVersion) × IsAnother version before later × S n version p.board after) in
    let inside : Published g.row.D.Denot g.row.B.Denot = record {
      catalogue = c.self.inside.catalog;
      maps = maps;
      board = board;
    } in
    let one : Told g.D.Disk.history g.B.Show.log S n x y board after
    → P inside x y = λ h. elim h [ inl kept ↦ inl kept.0 | inr more ↦ inr (more.0, more.1, more.3) ] in
    let done = on_ok r (λ h. at K c.self.inside.catalog maps n x y board after there (P inside) (one h))
    c.reopen.ensures.shown in
    subst (λ (p : Published g.row.D.Denot g.row.B.Denot). OnOk r (At n p.maps (slice_set maps n y) (P p)))
    c.self.view_is done

pub invariant_of-self : goal.invariant_of-self
invariant_of-self g c =
    let now = c.args.self.now.maps in
    let maps = c.self.inside.maps.items in
    let n = c.args.map in
    let x = c.index_mut-stored.result.now in
    let y = c.reopen.new.self in
    let board = c.self.inside.board in
    let after = c.reopen.new.board in
    let r = c.reopen.result in
    let K = keeping_of g.D.Disk.history g.D.Disk.faults g.B.Show.log in
    let same : maps ≡ now = ap (λ (p : Published g.row.D.Denot g.row.B.Denot). p.maps) c.self.view_is in
    let within : n < length maps = subst (λ (l : List (StoredMap g.row.D.Denot)). n < length l) (sym same) c.requires in
    let there = read_map maps maps n x refl within c.index_mut-stored.ensures.value in
    let told : Told g.D.Disk.history g.B.Show.log g.B.Show.showed n x y board after
    → Reshown n (K.log board) (K.log after) x y =
    reshown g.D.Disk.history g.B.Show.log g.B.Show.showed n x y board after in
    let shown = on_ok r told c.reopen.ensures.shown in
    let kept = still_version K.history r x y c.reopen.ensures.still in
    let same_log = on_err r (λ (e : after ≡ board). ap K.log e) c.reopen.ensures.not_shown in
    let shows = shows_reopened r (K.log board)
    (K.log after) maps n x y there shown same_log kept c.self.invariant.1.shows in (
      c.self.invariant.0,
      publisher_set maps n y _ (K.log board)
          (K.log after) _ _ _ c.self.invariant.1 c.reopen.ensures.maps shows,
      stand_set K.history maps n y within c.self.invariant.2 c.reopen.ensures.standing,
    )
