-- What is handed back of a host that is taken apart.
use Rattle.std.proofs.Common.{◌≡◌, ℕ, Option, subst, All}
use Rattle.yp_io.specs.Disk.{History}
use Rattle.yp_version.specs.Versions.{IsVersion}
use Rattle.yp_board.specs.Views.{Seen}
use Rattle.yp_publisher.specs.Standing.{Published, OfMap, IsStanding, Shows, versions}

pub shows_of : {D : Type 0} (board : Seen) (part whole : Published D Seen) → part ≡ whole → board ≡ part.board
    → Shows board.known (versions part.maps) → Shows whole.board.known (versions whole.maps)
shows_of {D} board part whole same is shows =
    subst (λ (p : Published D Seen). Shows p.board.known (versions p.maps)) same
    (subst (λ (b : Seen). Shows b.known (versions part.maps)) is shows)

pub standing_of : {D : Type 0} (history : D → Option History) (part whole : Published D Seen) → part ≡ whole
    → ((number : ℕ) → OfMap number part.maps (IsStanding history)) → (number : ℕ) → OfMap number whole.maps (IsStanding history)
standing_of {D} history part whole same standing =
    subst (λ (p : Published D Seen). (number : ℕ) → OfMap number p.maps (IsStanding history)) same standing

pub versions_of : {D : Type 0} (board : Seen) (part whole : Published D Seen) → part ≡ whole → board ≡ part.board
    → All (λ entry. IsVersion entry.1) board.known → All (λ entry. IsVersion entry.1) whole.board.known
versions_of {D} board part whole same is versions =
    subst (λ (p : Published D Seen). All (λ entry. IsVersion entry.1) p.board.known) same (subst (λ (b : Seen). All (λ entry. IsVersion entry.1) b.known) is versions)
