-- A walk as contracts see it.
use Rattle.std.specs.Prelude.{◌≡◌, Result, Ok, Err}
use Rattle.yp_version.specs.Rows.{listed}
use Rattle.yp_version.specs.Versions.{MapVersion, unmarked}
use Rattle.yp_version.specs.Drafts.{Draft}
use Rattle.yp_transfer.specs.declared.fault.XfrFault.{XfrFault}
use Rattle.yp_transfer.specs.declared.fault.XfrFault.TheVariants.{NoMemory}

-- The version is that of the rows that came, and isn't secure; or memory ran out.
abbrev pub IsVersionOfDraft : Draft → Result MapVersion XfrFault → Type 0
IsVersionOfDraft draft (Ok found) = found ≡ unmarked draft.order draft.master (listed draft.rows)
IsVersionOfDraft draft (Err fault) = fault ≡ NoMemory
