-- What a reader knows before the first caller comes, and how the maps stand then.
use Rattle.std.proofs.Common.{◌≡◌, ℕ, zero, suc, List, [], ◌∷◌, map, Option, sym, ap, ◌∙◌, subst, arith}
use Rattle.std.specs.List.{All, AllZip}
use Rattle.yp_io.specs.Disk.{History}
use Rattle.yp_board.specs.Catalogues.{Catalogue}
use Rattle.yp_board.specs.Logs.{Log, starts}
use Rattle.yp_board.specs.Views.{Seen}
use Rattle.yp_publisher.specs.Standing.{MapStanding, Level, StoredMap, Published, versions}
use Rattle.yp_publisher.specs.Opens.{IsOpened}
use Rattle.yp_publisher.specs.Rising.{publisher_state}
use Rattle.yp_publisher.specs.inside.Rising.{IsStart}
use Rattle.yp_publisher.specs.inside.Laws.{BeginningIsStart}
use Rattle.yp_server.specs.Serving.{IsAtStart}
use Rattle.yp_board.specs.inside.readers.Boards.{Written}
use Rattle.yp_command_serve.specs.serve.Hosting.{first_of}

pub at_start : (served catalogue : Catalogue) (log first : Log) (seen : Seen)
    → seen ≡ record { catalogue = catalogue; known = first; asked = 0 } → catalogue ≡ served → first ≡ log
    → IsAtStart served log seen
at_start served catalogue log first seen is a b =
    record { catalogue_is = ap (λ (s : Seen). s.catalogue) is ∙ a; known = ap (λ (s : Seen). s.known) is ∙ b }

-- maps that were opened are level
pub levels : {D : Type 0} (history : D → Option History) (faults : D → ℕ) (disks : List D) (maps : List (StoredMap D))
    → AllZip (IsOpened history faults) disks maps
    → All (λ standing. standing ≡ Level) (map (λ (kept : StoredMap D). kept.standing) maps)
levels history faults [] [] each k d lt = absurd (omega (arith, lt))
levels history faults [] (kept ∷ maps) each k d lt = absurd each
levels history faults (disk ∷ disks) [] each k d lt = absurd each
levels history faults (disk ∷ disks) (kept ∷ maps) each zero d lt = each.0.level
levels history faults (disk ∷ disks) (kept ∷ maps) each (suc k) d lt =
    levels history faults disks maps each.1 k d (omega (arith, lt))

-- level maps and a board that shows exactly them are a start
pub start_of : BeginningIsStart → {D B : Type 0} (log : B → Log) (published : Published D B) (maps : List (StoredMap D))
    → published.maps ≡ maps → log published.board ≡ starts 0 (versions maps)
    → All (λ standing. standing ≡ Level) (map (λ (kept : StoredMap D). kept.standing) maps)
    → IsStart (publisher_state log published)
start_of law {D} {B} log published maps maps_are log_is level =
    let standings : List MapStanding = map (λ (kept : StoredMap D). kept.standing) maps in
    let at : IsStart (record { log = log published.board; standings = standings }) =
    subst (λ (l : Log). IsStart (record { log = l; standings = standings })) (sym log_is) (law (versions maps) standings level) in
    subst (λ (kept : List (StoredMap D)). IsStart (record { log = log published.board; standings = map (λ (k : StoredMap D). k.standing) kept }))
    (sym maps_are) at

-- what is shown by a publisher of these maps, on a board that shows exactly them, and how they stand
pub first_as : {D : Type 0} (published : Published D Written) (catalogue : Catalogue) (maps : List (StoredMap D))
    (board : Written) → published ≡ record { catalogue = catalogue; maps = maps; board = board }
    → board.log ≡ starts 0 (versions maps) → publisher_state (λ (w : Written). w.log) published ≡ first_of maps
first_as {D} published catalogue maps board is log_is =
    ap (λ (p : Published D Written). publisher_state (λ (w : Written). w.log) p) is
    ∙ ap (λ (l : Log). record { log = l; standings = map (λ (kept : StoredMap D). kept.standing) maps }) log_is
