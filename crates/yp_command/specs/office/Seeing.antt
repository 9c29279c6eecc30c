-- What the parts of an office tell, and what every command keeps to.
use Rattle.std.specs.Prelude.{◌≡◌, ◌≢◌, ℕ, List, Option, IsTrue}
use Rattle.yp_io.specs.Counts.{HasRisen}
use Rattle.yp_io.specs.Disk.{History}
use Rattle.yp_io.specs.Dials.{Wires, Sending}
use Rattle.yp_io.specs.declared.stream.Source as source
use Rattle.yp_io.specs.declared.stream.Sink as sink
use Rattle.yp_io.specs.declared.disk.Disk as disk
use Rattle.yp_io.specs.declared.clock.Clock as clock
use Rattle.yp_io.specs.declared.dial.Dial as dial
use Rattle.yp_io.specs.declared.inbox.Inbox as inbox
use Rattle.yp_io.specs.declared.texts.Texts as texts
use Rattle.yp_board.specs.declared.catalog.MapName.{MapName}
use Rattle.yp_command.specs.declared.office.office.Office.{Office}
use Rattle.yp_command.specs.declared.office.status.Status.{Status}
use Rattle.yp_command.specs.declared.office.status.Status.TheVariants.{ReadFault, WriteFault, DiskFault, DialFault}
use Rattle.yp_command.specs.office.Disks.{names_of, history_of, faults_of}

-- what a dial tells: its wires, what it sent, and how often it has failed
pub record DialGhosts (A : Type 0) : Type 0 where
  pub past : A → Option Wires
  pub letters : A → Option (List Sending)
  pub faults : A → ℕ

-- what its source, sink, disks, clock, dial, inbox and texts tell
pub record Seeing (S K D C A I T : Type 0) : Type 1 where
  pub source : source.Ghosts S
  pub sink : sink.Ghosts K
  pub disk : disk.Ghosts D
  pub clock : clock.Ghosts C
  pub dial : DialGhosts A
  pub inbox : inbox.Ghosts I
  pub texts : texts.Ghosts T

abbrev pub seeing : {S K D C A I T X Y : Type 0} → source.Ghosts S → sink.Ghosts K → disk.Ghosts D → clock.Ghosts C
    → dial.Ghosts A X Y → inbox.Ghosts I → texts.Ghosts T → Seeing S K D C A I T
seeing s k d c a i t = record {
  source = s;
  sink = k;
  disk = d;
  clock = c;
  dial = record { past = a.past; letters = a.letters; faults = a.faults };
  inbox = i;
  texts = t;
}

-- ---- what is told

-- what is left of the input
abbrev pub input : {S K D C A I T : Type 0} → Seeing S K D C A I T → Office S K D C A I T → Option (List ℕ)
input seen office = seen.source.input office.wire.source

-- what the output has taken
abbrev pub output : {S K D C A I T : Type 0} → Seeing S K D C A I T → Office S K D C A I T → Option (List ℕ)
output seen office = seen.sink.output office.wire.sink

-- what the only disk tells
abbrev pub history : {S K D C A I T : Type 0} → Seeing S K D C A I T → Office S K D C A I T → Option History
history seen office = history_of seen.disk.history office.disks.items

-- the moment that the clock tells
abbrev pub moment : {S K D C A I T : Type 0} → Seeing S K D C A I T → Office S K D C A I T → Option ℕ
moment seen office = seen.clock.moment office.clock

-- ---- faults

-- the count of the input's faults rose
abbrev pub ReadFails : {S K D C A I T : Type 0} → Seeing S K D C A I T → (old new : Office S K D C A I T) → Type 0
ReadFails seen old new = HasRisen (seen.source.faults old.wire.source) (seen.source.faults new.wire.source)

-- the count of the output's faults rose
abbrev pub WriteFails : {S K D C A I T : Type 0} → Seeing S K D C A I T → (old new : Office S K D C A I T) → Type 0
WriteFails seen old new = HasRisen (seen.sink.faults old.wire.sink) (seen.sink.faults new.wire.sink)

-- the count of the disks' faults rose
abbrev pub DiskFails : {S K D C A I T : Type 0} → Seeing S K D C A I T → (old new : Office S K D C A I T) → Type 0
DiskFails seen old new =
    HasRisen (faults_of seen.disk.faults old.disks.items) (faults_of seen.disk.faults new.disks.items)

-- the count of the dial's faults rose
abbrev pub DialFails : {S K D C A I T : Type 0} → Seeing S K D C A I T → (old new : Office S K D C A I T) → Type 0
DialFails seen old new = HasRisen (seen.dial.faults old.dial) (seen.dial.faults new.dial)

-- the count of the inbox's faults rose
abbrev pub InboxFails : {S K D C A I T : Type 0} → Seeing S K D C A I T → (old new : Office S K D C A I T) → Type 0
InboxFails seen old new = HasRisen (seen.inbox.faults old.inbox) (seen.inbox.faults new.inbox)

-- A fault that is told has its cause, for a command that reads and writes its wire alone.
pub record HasCauses {S K D C A I T : Type 0} (seen : Seeing S K D C A I T) (status : Status)
    (old new : Office S K D C A I T) : Type 0 where
  pub read_fault : status ≡ ReadFault → ReadFails seen old new
  pub write_fault : status ≡ WriteFault → WriteFails seen old new
  pub disk_fault : (map : MapName) → status ≡ DiskFault map → DiskFails seen old new

-- what was taken was passed on, but for a write fault
abbrev pub IsPassedOn : {S K D C A I T : Type 0} → Seeing S K D C A I T → Status → (old new : Office S K D C A I T)
    → Type 0
IsPassedOn seen status old new =
    status ≢ WriteFault → IsTrue (seen.sink.flushed old.wire.sink) → IsTrue (seen.sink.flushed new.wire.sink)
