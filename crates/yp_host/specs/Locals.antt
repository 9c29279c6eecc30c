-- A host of one thread, and what its parts tell.
use Rattle.std.specs.Prelude.{◌≡◌, ◌≤◌, ℕ, List, Option, min}
use Rattle.yp_io.specs.Counts.{last_count}
use Rattle.yp_io.specs.Dials.{Wires, DialTells, dial_tells, Sending}
use Rattle.yp_io.specs.declared.texts.Texts as texts
use Rattle.yp_io.specs.declared.clock.Clock as clock
use Rattle.yp_board.specs.Logs.{Log}
use Rattle.yp_board.specs.Views.{Seen}
use Rattle.yp_publisher.specs.Standing.{Published}
use Rattle.yp_answer.specs.Causes.{Told, TellsSame}
use Rattle.yp_transfer.specs.HostTable.{HostList}
use Rattle.yp_host.specs.declared.desk.Desk.{Desk}

-- a host: its maps and the board, its desk, how often it was asked, how often it answered FILE, and how many transfers
-- it carried out
pub record Local (D B E : Type 0) : Type 0 where
  pub published : Published D B
  pub desk : E
  pub asked : ℕ
  pub files : ℕ
  pub transfers : ℕ

-- what a desk tells of its texts and of its clock, how often a text wasn't read, the addresses of its hosts, and what
-- its dial tells
pub record Telling (E : Type 0) : Type 0 where
  pub told : E → Told
  pub faults : E → ℕ
  pub hosts : E → HostList
  pub dial : E → DialTells

-- what texts and a clock tell
abbrev pub told_of : {T C : Type 0} → texts.Ghosts T → clock.Ghosts C → T → C → Told
told_of texts clock the_texts the_clock = record { text = texts.text the_texts; moment = clock.moment the_clock }

abbrev pub told_by : {A T C : Type 0} → texts.Ghosts T → clock.Ghosts C → Desk A T C → Told
told_by texts clock desk = told_of texts clock desk.texts desk.clock

abbrev pub telling_of : {A T C : Type 0} → texts.Ghosts T → clock.Ghosts C → (A → Option Wires)
    → (A → Option (List Sending)) → (A → ℕ) → Telling (Desk A T C)
telling_of texts clock past letters faults = record {
  told = told_by texts clock;
  faults = λ desk. texts.faults desk.texts;
  hosts = λ desk. desk.hosts;
  dial = λ desk. dial_tells past letters faults desk.dial;
}

-- what a host tells: it knows the whole log
abbrev pub seen_of : {D B E : Type 0} → (B → Log) → Local D B E → Seen
seen_of log host =
    record { catalogue = host.published.catalogue; known = log host.published.board; asked = host.asked }

-- Its dial stays.
abbrev pub LeavesDial : {E : Type 0} → Telling E → E → E → Type 0
LeavesDial telling old new = telling.dial new ≡ telling.dial old

-- A desk was used: it tells what it told, its hosts stay, and its counts of faults haven't fallen.
pub record IsUsed {E : Type 0} (telling : Telling E) (old new : E) : Type 0 where
  pub tells : TellsSame (telling.told old) (telling.told new)
  pub hosts : telling.hosts new ≡ telling.hosts old
  pub never_falls : telling.faults old ≤ telling.faults new
  pub dial_never_falls : min (telling.dial old).faults last_count ≤ (telling.dial new).faults
