-- Why no version is made anew for a map.
use Rattle.std.specs.Prelude.{◌≡◌, ℕ, true, false, Some, None}
use Rattle.yp_io.specs.Counts.{HasRisen}
use Rattle.yp_messages.specs.declared.transfer.XfrStat.{XfrStat}
use Rattle.yp_messages.specs.declared.transfer.XfrStat.TheVariants.{Age, Nomap, Rsrc, Dbm, File, Refused}
use Rattle.yp_texts.specs.Builds.{order_max}
use Rattle.yp_texts.specs.After.{last_order}
use Rattle.yp_answer.specs.Causes.{Told, Matter, OfText, OfNetgroups, Task, is_of_another, HasBadRowAt}

-- A text wasn't read, and the count of the faults of texts rose; or nothing is shown of the netgroups.
abbrev pub TextIsUnread : Matter → (faults faults' : ℕ) → Type 0
TextIsUnread (OfText reading name) faults faults' = HasRisen faults faults'
TextIsUnread (OfNetgroups field netgroups) faults faults' = ⊥

abbrev pub NoneAreShown : Matter → Type 0
NoneAreShown (OfText reading name) = ⊥
NoneAreShown (OfNetgroups field netgroups) = netgroups ≡ None

-- Why no version is made, by its status, the first reason that applies: the map has another master; the text wasn't
-- read, or no netgroups are shown; the last order is spent; a row passes a limit. Memory may run out meanwhile.
abbrev pub IsUnbuilt : Told → (faults faults' : ℕ) → Task → XfrStat → Type 0
IsUnbuilt told faults faults' task Refused = is_of_another task ≡ true
IsUnbuilt told faults faults' task File = (is_of_another task ≡ false) × TextIsUnread task.matter faults faults'
IsUnbuilt told faults faults' task Nomap = (is_of_another task ≡ false) × NoneAreShown task.matter
IsUnbuilt told faults faults' task Age = (is_of_another task ≡ false) × (last_order task.last ≡ Some order_max)
IsUnbuilt told faults faults' task Dbm = (is_of_another task ≡ false) × HasBadRowAt told task
IsUnbuilt told faults faults' task Rsrc = is_of_another task ≡ false
IsUnbuilt told faults faults' task _ = ⊥
