-- What a call gets, by the numbers of the programs that are answered: YP version 2 (yp.x) and the make program.
use Rattle.std.specs.Prelude.{ℕ, ◌==◌, if◌then◌else◌, List, length, Option, Some, None}
use Rattle.yp_io.specs.declared.stream.Peer.{Peer}
use Rattle.yp_rpc.specs.Judging.{ProgramTable, judged}
use Rattle.yp_rpc.specs.Called.{call_of}
use Rattle.yp_messages.specs.Messages.{req_nokey}
use Rattle.yp_board.specs.Catalogues.{Name}
use Rattle.yp_answer.specs.declared.procedure.Path.{Path}
use Rattle.yp_answer.specs.declared.procedure.Procedure.{Procedure}
use Rattle.yp_answer.specs.declared.procedure.Procedure.TheVariants.{Null, Domain, DomainNonack, Match, First, Next}
use Rattle.yp_answer.specs.declared.procedure.Procedure.TheVariants.{Xfr, Clear, Master, Order, Maplist}
use Rattle.yp_answer.specs.declared.procedure.Procedure.TheVariants.{Make, MakeNamed}
use Rattle.yp_answer.specs.Procedures.{all_on}
use Rattle.yp_answer.specs.Maps.{Maps}
use Rattle.yp_answer.specs.Reply.{Response, Silence, exceeds, judged_reply}

-- the procedure of YP with a number, and that of the make program
abbrev pub yp_procedure : Path → ℕ → Option Procedure
yp_procedure path number =
    if number == 0 then Some Null else (if number == 1 then Some Domain else (if number == 2 then Some DomainNonack
    else (if number == 3 then Some Match else (if number == 4 then Some First else (if number == 5 then Some Next
    else (if number == 6 then Some Xfr else (if number == 7 then Some Clear else (if number == 8 then all_on path
    else (if number == 9 then Some Master else (if number == 10 then Some Order
    else (if number == 11 then Some Maplist else None)))))))))))

abbrev pub make_program_procedure : ℕ → Option Procedure
make_program_procedure number = if number == 0 then Some Null
    else (if number == 1 then Some Make else (if number == 2 then Some MakeNamed else None))

-- the programs with their versions
abbrev pub programs : Path → ProgramTable Procedure
programs path = record {
  version = λ prog. if prog == 100004 then Some 2 else (if prog == 536890953 then Some 1 else None);
  procedure = λ prog number. if prog == 100004 then yp_procedure path number
      else (if prog == 536890953 then make_program_procedure number else None);
}

-- what a record, or a datagram, of a caller gets: nothing, where a datagram is too long
abbrev pub answer : Path → Maps → Peer → List ℕ → Response
answer path maps peer message = if exceeds path (length message) then Silence
    else judged_reply path maps peer message (judged (programs path) message)

-- a call about a map of a procedure of YP, by its number
abbrev pub map_call : (procedure : ℕ) → Name → (xid : ℕ) → List ℕ
map_call procedure name xid = call_of req_nokey xid 100004 2 procedure name
