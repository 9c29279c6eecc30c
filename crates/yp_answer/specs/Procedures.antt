-- The programs that are answered, with their versions and the numbers of their procedures: YP version 2 (yp.x) and the
-- make program.
use Rattle.std.specs.Prelude.{ℕ, ◌==◌, if◌then◌else◌, Option, Some, None}
use Rattle.yp_rpc.specs.Judging.{ProgramTable}
use Rattle.yp_messages.specs.Numbers as numbers
use Rattle.yp_answer.specs.declared.procedure.Path.{Path}
use Rattle.yp_answer.specs.declared.procedure.Path.TheVariants.{Stream, Datagram}
use Rattle.yp_answer.specs.declared.procedure.Procedure.{Procedure}
use Rattle.yp_answer.specs.declared.procedure.Procedure.TheVariants.{Null, Domain, DomainNonack, Match, First, Next}
use Rattle.yp_answer.specs.declared.procedure.Procedure.TheVariants.{Xfr, Clear, All, Master, Order, Maplist, Make}
use Rattle.yp_answer.specs.declared.procedure.Procedure.TheVariants.{MakeNamed}

-- a whole map is sent over a stream alone
abbrev pub all_on : Path → Option Procedure
all_on Stream = Some All
all_on Datagram = None

-- the procedure of YP with a number
abbrev pub procedure_of : Path → ℕ → Option Procedure
procedure_of path number =
    if number == numbers.null_procedure then Some Null
    else (if number == numbers.domain_procedure then Some Domain
    else (if number == numbers.domain_nonack_procedure then Some DomainNonack
    else (if number == numbers.match_procedure then Some Match
    else (if number == numbers.first_procedure then Some First
    else (if number == numbers.next_procedure then Some Next
    else (if number == numbers.xfr_procedure then Some Xfr
    else (if number == numbers.clear_procedure then Some Clear
    else (if number == numbers.all_procedure then all_on path
    else (if number == numbers.master_procedure then Some Master
    else (if number == numbers.order_procedure then Some Order
    else (if number == numbers.maplist_procedure then Some Maplist
    else None)))))))))))

-- the procedure of the make program with a number
abbrev pub make_procedure_of : ℕ → Option Procedure
make_procedure_of number =
    if number == numbers.make_null_procedure then Some Null
    else (if number == numbers.make_procedure then Some Make
    else (if number == numbers.make_named_procedure then Some MakeNamed
    else None))

-- the programs that are answered on a path
abbrev pub programs_on : Path → ProgramTable Procedure
programs_on path = record {
  version = λ prog.
      if prog == numbers.program then Some numbers.version
      else (if prog == numbers.make_program then Some numbers.make_version
      else None);
  procedure = λ prog number.
      if prog == numbers.program then procedure_of path number
      else (if prog == numbers.make_program then make_procedure_of number
      else None);
}
