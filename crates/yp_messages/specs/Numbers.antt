-- The numbers of YP version 2, of the program that is told how a pushed transfer went, and of the binder, as the
-- protocol file yp.x has them, those of the make program, which is this project's own, and the limits of what their
-- messages hold.
use Rattle.std.specs.Prelude.{ℕ}

-- the program YPPROG, and its version
abbrev pub program : ℕ
program = 100004

abbrev pub version : ℕ
version = 2

-- the procedures, as YPPROC_NULL
abbrev pub null_procedure : ℕ
null_procedure = 0

abbrev pub domain_procedure : ℕ
domain_procedure = 1

abbrev pub domain_nonack_procedure : ℕ
domain_nonack_procedure = 2

abbrev pub match_procedure : ℕ
match_procedure = 3

abbrev pub first_procedure : ℕ
first_procedure = 4

abbrev pub next_procedure : ℕ
next_procedure = 5

abbrev pub xfr_procedure : ℕ
xfr_procedure = 6

abbrev pub clear_procedure : ℕ
clear_procedure = 7

abbrev pub all_procedure : ℕ
all_procedure = 8

abbrev pub master_procedure : ℕ
master_procedure = 9

abbrev pub order_procedure : ℕ
order_procedure = 10

abbrev pub maplist_procedure : ℕ
maplist_procedure = 11

-- the make program, its version and its procedures
abbrev pub make_program : ℕ
make_program = 536890953

abbrev pub make_version : ℕ
make_version = 1

abbrev pub make_null_procedure : ℕ
make_null_procedure = 0

abbrev pub make_procedure : ℕ
make_procedure = 1

abbrev pub make_named_procedure : ℕ
make_named_procedure = 2

-- the program that is told how a transfer went (YPPUSH_XFRRESPPROG, whose number is in each request): its version and
-- its procedures
abbrev pub push_version : ℕ
push_version = 1

abbrev pub push_null_procedure : ℕ
push_null_procedure = 0

abbrev pub xfrresp_procedure : ℕ
xfrresp_procedure = 1

-- the program YPBINDPROG, its version and its procedures
abbrev pub bind_program : ℕ
bind_program = 100007

abbrev pub bind_version : ℕ
bind_version = 2

abbrev pub bind_null_procedure : ℕ
bind_null_procedure = 0

abbrev pub bind_domain_procedure : ℕ
bind_domain_procedure = 1

abbrev pub setdom_procedure : ℕ
setdom_procedure = 2

-- the bytes of an address and of a port (ypbind_binding of yp.x)
abbrev pub addr_len : ℕ
addr_len = 4

abbrev pub port_len : ℕ
port_len = 2

-- the most bytes of a name, a key and a value
abbrev pub name_max : ℕ
name_max = 64

abbrev pub key_max : ℕ
key_max = 65536

abbrev pub value_max : ℕ
value_max = 65536
