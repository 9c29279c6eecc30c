-- What is told of what maps are served by, and why they weren't.
use Rattle.std.specs.Prelude.{ℕ, List, map, Option}
use Rattle.std.specs.List.{AllZip}
use Rattle.yp_io.specs.Disk.{History}
use Rattle.yp_io.specs.declared.dial.Dial as dial
use Rattle.yp_io.specs.declared.hall.Hall as hall
use Rattle.yp_io.specs.declared.inbox.Inbox as inbox
use Rattle.yp_io.specs.declared.texts.Texts as texts
use Rattle.yp_publisher.specs.Begins.{IsUnwritten}
use Rattle.yp_publisher.specs.Opens.{OpeningStopped}
use Rattle.yp_publisher.specs.sharing.Failures.{disks_of}
use Rattle.yp_rpc.specs.inside.Turns.{box_by}
use Rattle.yp_transfer.specs.inside.Dials.{dial_by}
use Rattle.yp_worker.specs.Receptions.{opening_by}
use Rattle.yp_command_serve.specs.serve.Hosting.{ServerTells, server_tells, supply_of}
use Rattle.yp_command_serve.specs.declared.serve.resources.HostResources.{HostResources}
use Rattle.yp_command_serve.specs.declared.serve.resources.LoadedResources.{LoadedResources}
use Rattle.yp_command_serve.specs.declared.serve.resources.NotHosted.{NotHosted}
use Rattle.yp_command_serve.specs.declared.serve.resources.NotHosted.TheVariants.{Unloaded, NoMemory}

-- ---- what is told of what maps are served by, and their disks

abbrev pub tells_by : {D A T C L I X Y Z W V P Q : Type 0} → hall.Ghosts L X Y Z W V → inbox.Ghosts I → texts.Ghosts T
    → dial.Ghosts A P Q → HostResources D A T C L I → ServerTells D
tells_by halls inboxes texts dials resources =
    server_tells (opening_by halls resources.listen) (map (box_by inboxes) resources.inboxes.items)
    (box_by inboxes resources.outbox)
    (supply_of (texts.faults resources.desk.texts) (dial_by dials resources.desk.dial)) resources.disks.items

-- the same, once the files of the maps were loaded
abbrev pub loaded_tells_by : {D A T C L I X Y Z W V P Q : Type 0} → hall.Ghosts L X Y Z W V → inbox.Ghosts I
    → texts.Ghosts T → dial.Ghosts A P Q → LoadedResources D A T C L I → ServerTells D
loaded_tells_by halls inboxes texts dials resources =
    server_tells (opening_by halls resources.listen) (map (box_by inboxes) resources.inboxes.items)
    (box_by inboxes resources.outbox)
    (supply_of (texts.faults resources.desk.texts) (dial_by dials resources.desk.dial)) (disks_of resources.loaded)

-- ---- why maps weren't served

-- Why maps weren't served: the disk of this map was refused, the first one, or memory ran out once all were loaded, and
-- nothing was written to any.
abbrev pub IsUnhosted : {D : Type 0} → (D → Option History) → (D → ℕ) → NotHosted → List D → List D → Type 0
IsUnhosted history faults (Unloaded number why) before after = OpeningStopped history faults before after number why
IsUnhosted history faults NoMemory before after = AllZip (IsUnwritten history faults) before after
