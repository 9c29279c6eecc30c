-- The numbers of the port mapper (RFC 1833 section 3), and the limits of this one.
use Rattle.std.specs.Prelude.{ℕ}

-- the port at which it is called
abbrev pub mapper_port : ℕ
mapper_port = 111

abbrev pub program : ℕ
program = 100000

abbrev pub version : ℕ
version = 2

abbrev pub null_procedure : ℕ
null_procedure = 0

abbrev pub set_procedure : ℕ
set_procedure = 1

abbrev pub unset_procedure : ℕ
unset_procedure = 2

abbrev pub getport_procedure : ℕ
getport_procedure = 3

abbrev pub dump_procedure : ℕ
dump_procedure = 4

-- the protocols that a mapping may have: TCP and UDP
abbrev pub tcp : ℕ
tcp = 6

abbrev pub udp : ℕ
udp = 17

-- the greatest port
abbrev pub port_max : ℕ
port_max = 65535

-- the most mappings that stand at a time
abbrev pub mappings_max : ℕ
mappings_max = 256
