-- Where what was shown came from, said of the disks alone.
use Rattle.std.proofs.Common.{◌≡◌, ℕ, List, map, Option, sym, subst}
use Rattle.yp_io.specs.Disk.{History}
use Rattle.yp_board.specs.Catalogues.{Catalogue}
use Rattle.yp_board.specs.Logs.{Log}
use Rattle.yp_publisher.specs.Standing.{StoredMap, Published}
use Rattle.yp_publisher.specs.Rising.{PublisherState, publisher_state}
use Rattle.yp_publisher.specs.sharing.Sources.{Building, IsSourced}
use Rattle.yp_server.specs.Serving.{DisksStand}
use Rattle.yp_publisher.specs.sharing.Tracing.{FetchLog, IsNewBehind, Traces}
use Rattle.yp_server.specs.Origins.{served_maps, Stems, LeavesTraced}

module _ {D B : Type 0} (history : D → Option History) (Is : Building) (first : PublisherState) (catalogue : Catalogue)
    (log : B → Log) where
  -- of a publisher whose board is this one, and whose maps are those of the disks
  pub stems : (published : Published D B) (board : B) (disks : List D) (made fetched : ℕ)
      → published.catalogue ≡ catalogue → board ≡ published.board
      → (leaves : DisksStand history published.catalogue (log published.board) disks) → leaves.kept ≡ published.maps
      → IsSourced Is first (publisher_state log published) made fetched
      → Stems history Is (served_maps catalogue first (log board) disks) made fetched
  stems published board disks made fetched named same leaves maps sourced =
      subst (λ (c : Catalogue). Stems history Is (served_maps c first (log board) disks) made fetched) named
      (subst (λ (b : B). Stems history Is (served_maps published.catalogue first (log b) disks) made fetched) (sym same) (record {
        leaves = leaves;
        sourced = subst (λ (l : List (StoredMap D)). IsSourced Is first
            (record { log = log published.board; standings = map (λ kept. kept.standing) l }) made fetched) (sym maps) sourced;
      }))

  pub leaves_traced : (fetches : FetchLog) (histories : List (Option History)) (published : Published D B) (board : B)
      (disks : List D) → published.catalogue ≡ catalogue → board ≡ published.board
      → (leaves : DisksStand history published.catalogue (log published.board) disks) → leaves.kept ≡ published.maps
      → Traces history (IsNewBehind Is fetches) first.log (log published.board) histories published.maps
      → LeavesTraced history Is fetches (served_maps catalogue first (log board) disks) histories
  leaves_traced fetches histories published board disks named same leaves maps traced =
      subst (λ (c : Catalogue). LeavesTraced history Is fetches (served_maps c first (log board) disks) histories) named
      (subst (λ (b : B). LeavesTraced history Is fetches (served_maps published.catalogue first (log b) disks) histories) (sym same) (record {
        leaves = leaves;
        traced = subst (λ (l : List (StoredMap D)). Traces history (IsNewBehind Is fetches) first.log (log published.board) histories l)
            (sym maps) traced;
      }))
