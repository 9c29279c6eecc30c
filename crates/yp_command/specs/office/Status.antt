-- The status of a run: its code, and the note that tells it.
use Rattle.std.specs.Prelude.{ℕ, List, [], ◌++◌, codes, decimal}
use Rattle.std.specs.Fmt.{signed_decimal}
use Rattle.yp_messages.specs.Statuses.{stat_number}
use Rattle.yp_messages.specs.Transfers.{xfr_number}
use Rattle.yp_board.specs.Catalogues.{name_view}
use Rattle.yp_command.specs.office.Lines.{map_text}
use Rattle.yp_transfer.specs.declared.fault.XfrFault.{XfrFault}
use Rattle.yp_transfer.specs.declared.fault.XfrFault.TheVariants.{Age, Skew}
use Rattle.yp_transfer.specs.Faults.{stat_of}
use Rattle.yp_command.specs.declared.office.status.Status.{Status}
use Rattle.yp_command.specs.declared.office.status.Status.TheVariants.{Done, No, Usage, ReadFault, WriteFault, Torn, TooLong}
use Rattle.yp_command.specs.declared.office.status.Status.TheVariants.{NoMemory, Damaged, NoVersion, DiskFault, Yp, Denied}
use Rattle.yp_command.specs.declared.office.status.Status.TheVariants.{BadReply, BadXid, DialFault, Rows, OrderSpent, Refused}
use Rattle.yp_command.specs.declared.office.status.Status.TheVariants.{GenerationsSpent, Enough, Xfr, ListenFault, InboxFault}
use Rattle.yp_command.specs.declared.office.status.Status.TheVariants.{Unanswered}

-- a line of the program
abbrev pub note_line : List ℕ → List ℕ
note_line text = codes "yp: " ++ text ++ codes "\n"

-- the two orders that were compared
abbrev pub orders_text : XfrFault → List ℕ
orders_text (Age shown offered) = codes " " ++ decimal shown ++ codes " " ++ decimal offered
orders_text (Skew first second) = codes " " ++ decimal first ++ codes " " ++ decimal second
orders_text fault = []

-- the note of a status, and none where all was done, or the answer is no
abbrev pub note : Status → List ℕ
note Done = []
note No = []
note (Usage word) = note_line (codes "usage at word " ++ decimal word)
note ReadFault = note_line (codes "read fault")
note WriteFault = note_line (codes "write fault")
note (Torn at) = note_line (codes "torn record at " ++ decimal at)
note (TooLong at) = note_line (codes "too long at " ++ decimal at)
note NoMemory = note_line (codes "no memory")
note (Damaged map at rule) =
    note_line (codes "damaged " ++ map_text (name_view map) ++ codes " at " ++ decimal at
    ++ codes " rule " ++ decimal rule)
note (NoVersion map) = note_line (codes "no version of " ++ map_text (name_view map))
note (DiskFault map) = note_line (codes "disk fault in " ++ map_text (name_view map))
note (Yp stat) = note_line (codes "server says " ++ signed_decimal (stat_number stat))
note Denied = note_line (codes "refused by rpc")
note (BadReply at) = note_line (codes "bad reply at " ++ decimal at)
note (BadXid want got) = note_line (codes "wrong xid " ++ decimal got ++ codes " wanted " ++ decimal want)
note DialFault = note_line (codes "cannot dial")
note (Xfr fault) =
    note_line (codes "transfer " ++ signed_decimal (xfr_number (stat_of fault)) ++ orders_text fault)
note (Rows row rule) = note_line (codes "row " ++ decimal row ++ codes " rule " ++ decimal rule)
note OrderSpent = note_line (codes "order spent")
note (Refused master) = note_line (codes "mastered by " ++ master.items)
note (GenerationsSpent map) = note_line (codes "generations spent in " ++ map_text (name_view map))
note ListenFault = note_line (codes "listen fault")
note InboxFault = note_line (codes "inbox fault")
note Enough = note_line (codes "enough calls")
note (Unanswered turns) = note_line (codes "unanswered after " ++ decimal turns ++ codes " turns")
