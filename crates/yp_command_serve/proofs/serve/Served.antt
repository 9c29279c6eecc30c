-- Maps that were served, by what their publisher and their desk were.
use Rattle.std.proofs.Common.{◌≡◌, ℕ, List, Option, length, ap, ◌∙◌, subst}
use Rattle.std.proofs.lemmas.List.{length-map}
use Rattle.yp_io.specs.Disk.{History}
use Rattle.yp_io.specs.declared.disk.Disk as disk
use Rattle.yp_board.specs.Catalogues.{Catalogue}
use Rattle.yp_board.specs.Logs.{Log}
use Rattle.yp_board.specs.Views.{Seen, IsFront, Refreshes}
use Rattle.yp_publisher.specs.Standing.{StoredMap}
use Rattle.yp_publisher.specs.Rising.{IsRisingLog, PublisherState}
use Rattle.yp_publisher.specs.Grown.{AreTold}
use Rattle.yp_transfer.specs.HostTable.{HostList}
use Rattle.yp_worker.specs.Receptions.{IsListenerState}
use Rattle.yp_server.specs.Serving.{conduct_at, mail_service, ServesInboxes, DisksStand}
use Rattle.yp_server.specs.Counting.{count_told}
use Rattle.yp_command_serve.specs.declared.serve.tally.Hosted.{Hosted}
use Rattle.yp_command_serve.specs.serve.Hosting.{ServerTells, IsAccounted, IsServed, first_of, setup_of}

module _ {D : Type 0} (seen : disk.Ghosts D) (maps : List (StoredMap D)) (hosted : Hosted)
    (old new was now : ServerTells D) (log : Log) (turns : ℕ) (served catalogue : Catalogue)
    (text there : List ℕ → Option (List ℕ)) (hosts known : HostList) (first : PublisherState)
    (of_old : was ≡ old) (of_new : now ≡ new) (of_maps : catalogue ≡ served) (of_text : there ≡ text)
    (of_hosts : known ≡ hosts) (begins : first ≡ first_of maps) where
  abbrev Given : Catalogue → (List ℕ → Option (List ℕ)) → HostList → PublisherState → ServerTells D → ServerTells D
      → Type 0
  Given c t h f o n =
      IsFront f.log log
      × IsListenerState o.listen n.listen hosted.tally.connections hosted.tally.listen_fault 0 1
      × ServesInboxes (mail_service (conduct_at (λ (reader : Seen). reader) Refreshes t h) count_told c f.log log turns) hosted.inbox_fault o.boxes n.boxes o.out n.out
      × DisksStand seen.history c log n.disks
      × IsAccounted seen (setup_of c t h turns) (record { first = f; log = log }) hosted o n

  given : Given catalogue there known first was now → Given served text hosts (first_of maps) old new
  given all =
      subst (λ (p : ServerTells D). Given served text hosts (first_of maps) old p) of_new
      (subst (λ (p : ServerTells D). Given served text hosts (first_of maps) p now) of_old
      (subst (λ (c : Catalogue). Given c text hosts (first_of maps) was now) of_maps
      (subst (λ (t : List ℕ → Option (List ℕ)). Given catalogue t hosts (first_of maps) was now) of_text
      (subst (λ (h : HostList). Given catalogue there h (first_of maps) was now) of_hosts
      (subst (λ (f : PublisherState). Given catalogue there known f was now) begins all)))))

  pub served_as : Given catalogue there known first was now → (AreTold seen.history new.disks → IsRisingLog log)
      → IsServed seen (setup_of served text hosts turns) (first_of maps) hosted old new
  served_as all rises =
      let is = given all in record {
        log = log;
        grown = is.0;
        connections = is.1;
        datagrams = is.2;
        leaves = is.3;
        rises = rises;
        accounted = is.4;
      }

-- as many disks as maps
pub leaves_count : {D : Type 0} (history : D → Option History) (catalogue : Catalogue) (log : Log) (disks : List D)
    → DisksStand history catalogue log disks → length disks ≡ length catalogue.maps
leaves_count {D} history catalogue log disks leaves =
    ap length leaves.disks_are ∙ length-map leaves.kept (λ (k : StoredMap D). k.disk) ∙ leaves.count
