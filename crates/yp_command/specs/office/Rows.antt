-- The status of a row that is refused.
use Rattle.std.specs.Prelude.{ℕ}
use Rattle.yp_version.specs.declared.builder.VersionFault.{VersionFault}
use Rattle.yp_version.specs.declared.builder.VersionFault.TheVariants as fault
use Rattle.yp_command.specs.declared.office.status.Status.{Status}
use Rattle.yp_command.specs.declared.office.status.Status.TheVariants.{NoMemory, Rows}

-- the numbers of the rules by which a row is refused: its key or its value is too long, there are too many rows, or
-- they have too many bytes
abbrev pub key_rule : ℕ
key_rule = 1

abbrev pub value_rule : ℕ
value_rule = 2

abbrev pub rows_rule : ℕ
rows_rule = 3

abbrev pub bytes_rule : ℕ
bytes_rule = 4

-- the rule by which a version refuses a row
abbrev pub rule_of : VersionFault → ℕ
rule_of (fault.KeyLong len) = key_rule
rule_of (fault.ValueLong len) = value_rule
rule_of fault.TooManyRows = rows_rule
rule_of fault.TooBig = bytes_rule
rule_of fault.NoMemory = 0

-- the status of a row with this number that is refused
abbrev pub row_status : ℕ → VersionFault → Status
row_status row fault.NoMemory = NoMemory
row_status row why = Rows row (rule_of why)
