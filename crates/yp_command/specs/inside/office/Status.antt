-- The exit code of a status, and the statuses that have a note.
use Rattle.std.specs.Prelude.{ℕ, ◌≤◌, length, ⊤}
use Rattle.yp_version.specs.Limits.{master_max}
use Rattle.yp_board.specs.Catalogues.{name_view}
use Rattle.yp_command.specs.inside.Words.{IsNamed}
use Rattle.yp_command.specs.declared.office.status.Status.{Status}
use Rattle.yp_command.specs.declared.office.status.Status.TheVariants.{Done, No, Usage, ReadFault, WriteFault, Torn, TooLong}
use Rattle.yp_command.specs.declared.office.status.Status.TheVariants.{NoMemory, Damaged, NoVersion, DiskFault, Yp, Denied}
use Rattle.yp_command.specs.declared.office.status.Status.TheVariants.{BadReply, BadXid, DialFault, Rows, OrderSpent, Refused}
use Rattle.yp_command.specs.declared.office.status.Status.TheVariants.{GenerationsSpent, Enough, Xfr, ListenFault, InboxFault}
use Rattle.yp_command.specs.declared.office.status.Status.TheVariants.{Unanswered}

-- the code with which the program ends
abbrev pub code_of : Status → ℕ
code_of Done = 0
code_of No = 1
code_of (Usage word) = 2
code_of ReadFault = 3
code_of WriteFault = 4
code_of (Torn at) = 5
code_of (TooLong at) = 6
code_of NoMemory = 7
code_of (Damaged map at rule) = 8
code_of (NoVersion map) = 9
code_of (DiskFault map) = 10
code_of (Yp stat) = 11
code_of Denied = 12
code_of (BadReply at) = 13
code_of (BadXid want got) = 14
code_of DialFault = 15
code_of (Xfr fault) = 16
code_of (Rows row rule) = 17
code_of OrderSpent = 18
code_of (Refused master) = 19
code_of (GenerationsSpent map) = 20
code_of ListenFault = 21
code_of InboxFault = 22
code_of Enough = 23
code_of (Unanswered turns) = 24

-- each name of a status is one that a line has room for
abbrev pub IsTellable : Status → Type 0
IsTellable (Damaged map at rule) = IsNamed (name_view map)
IsTellable (NoVersion map) = IsNamed (name_view map)
IsTellable (DiskFault map) = IsNamed (name_view map)
IsTellable (GenerationsSpent map) = IsNamed (name_view map)
IsTellable (Refused master) = length master.items ≤ master_max
IsTellable _ = ⊤
