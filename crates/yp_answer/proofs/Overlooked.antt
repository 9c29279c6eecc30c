-- A look at two numbers alone overlooks no call that has a map made or fetched.
use Rattle.std.proofs.Common.{◌≡◌, ℕ, ◌+◌, Bool, true, false, cond, ltb, not, List, drop, take, length}
use Rattle.std.proofs.Common.{Option, Some, None, Result, Ok, Err}
use Rattle.std.proofs.Common.{refl, sym, ap, subst, ◌∙◌}
use Rattle.std.specs.Prelude.{◌||◌, ◌&&◌, ◌==◌}
use Rattle.std.specs.Int.{w32, from_be_bytes}
use Rattle.std.specs.Option.{ok_or}
use Rattle.std.proofs.lemmas.List.{drop-drop}
use Rattle.yp_xdr.specs.declared.fault.XdrFault.{XdrFault}
use Rattle.yp_xdr.specs.declared.fault.XdrFault.TheVariants.{Short}
use Rattle.yp_xdr.specs.Kind.{Kind, U32, Sequence, Value}
use Rattle.yp_xdr.specs.Reading.{Remaining, past, ◌>>=◌, word_at, reading}
use Rattle.yp_messages.specs.Numbers as numbers
use Rattle.yp_rpc.specs.declared.call.CallHead.{CallHead}
use Rattle.yp_rpc.specs.declared.call.Heard.{Heard}
use Rattle.yp_rpc.specs.declared.call.Heard.TheVariants.{Call, WrongRpc, Noise}
use Rattle.yp_rpc.specs.declared.judging.Judged.{Judged}
use Rattle.yp_rpc.specs.declared.judging.Judged.TheVariants.{Ignored, Refused, Admitted}
use Rattle.yp_rpc.specs.declared.reply.ReplyHead.{ReplyHead}
use Rattle.yp_rpc.specs.declared.reply.ReplyHead.TheVariants.{ProgMismatch, ProcUnavail, AuthError}
use Rattle.yp_rpc.specs.Numbers.{auth_none, auth_sys, auth_rejectedcred}
use Rattle.yp_rpc.specs.Call.{front_kind, auth_kind, procedure_kind, call_head, heard_procedure, heard_front, heard}
use Rattle.yp_rpc.specs.Judging.{ProgramTable, admitted_in, admitted, judged_call, judged_heard, judged}
use Rattle.yp_answer.specs.declared.procedure.Path.TheVariants.{Stream}
use Rattle.yp_answer.specs.declared.procedure.Procedure.{Procedure}
use Rattle.yp_answer.specs.declared.procedure.Procedure.TheVariants.{Null, Domain, DomainNonack, Match, First, Next}
use Rattle.yp_answer.specs.declared.procedure.Procedure.TheVariants.{Xfr, Clear, All, Master, Order, Maplist}
use Rattle.yp_answer.specs.Procedures.{procedure_of, make_procedure_of, programs_on}
use Rattle.yp_answer.specs.inside.Outcomes.{outcome_in, judged_outcome, outcome_of}
use Rattle.yp_answer.specs.inside.Outcomes.{number_at, is_of_map, may_have_outcome}

-- ---- steps that were not refused

bind_ok : {A B : Type 0} (step : Result A XdrFault) (next : A → Result B XdrFault) (y : B)
    → (step >>= next) ≡ Ok y → (x : A) × (step ≡ Ok x) × (next x ≡ Ok y)
bind_ok (Ok x) next y e = (x, refl, e)
bind_ok (Err fault) next y e = absurd cc

-- a test that did not refuse
guard_ok : {A E : Type 0} (refuses : Bool) (fault : E) (answer : Result A E) (y : A)
    → cond refuses (Err fault) answer ≡ Ok y → (refuses ≡ false) × (answer ≡ Ok y)
guard_ok true fault answer y e = absurd cc
guard_ok false fault answer y e = (refl, e)

-- two answers of one step are one
ok_is : {A : Type 0} (x y : A) (answer : Result A XdrFault) → answer ≡ Ok x → answer ≡ Ok y → x ≡ y
ok_is x y answer e f = cc

-- two values that were read in turn
sequence_ok : (first second : Kind) (left new : Remaining) (value : Value (Sequence first second))
    → reading (Sequence first second) left ≡ Ok (value, new)
    → (mid : Remaining) × (reading first left ≡ Ok (value.0, mid)) × (reading second mid ≡ Ok (value.1, new))
sequence_ok first second left new value e =
    let Both : Type 0 = Value (Sequence first second) × Remaining in
    let one = bind_ok (reading first left) (λ one. reading second one.1 >>= (λ other. Ok ((one.0, other.0), other.1)))
    (value, new) e in
    let other = bind_ok (reading second one.0.1) (λ other. Ok ((one.0.0, other.0), other.1)) (value, new) one.2 in
    let read : Both = ((one.0.0, other.0.0), other.0.1) in
    let same = ok_is read (value, new) (Ok read) refl other.2 in (
      one.0.1,
      one.1 ∙ ap (λ (v : Value first). Ok (v, one.0.1)) (ap (λ (both : Both). both.0.0) same),
      other.1 ∙ ap (λ (both : Both). Ok (both.0.1, both.1)) same,
    )

-- ---- numbers by their places

-- a word at the front of these bytes, and the bytes behind it
record IsWord (n : ℕ) (old new : List ℕ) : Type 0 where
  value : number_at 0 old ≡ Some n
  behind : new ≡ drop 4 old

word_ok : (left new : Remaining) (n : ℕ) → reading U32 left ≡ Ok (n, new) → IsWord n left.bytes new.bytes
unfolding word_at
word_ok left new n e =
    let read : ℕ × Remaining = (from_be_bytes w32 (take 4 left.bytes), past 4 left) in
    let long = guard_ok (ltb (length left.bytes) 4) (Short left.at) (Ok read) (n, new) e in
    let same = ok_is read (n, new) (Ok read) refl long.1 in
    record {
      value = rw long.0 (ap (λ (both : ℕ × Remaining). Some both.0) same);
      behind = ap (λ (both : ℕ × Remaining). both.1.bytes) (sym same);
    }

-- the numbers of a call
record HasNumbers (message : List ℕ) (call : CallHead) : Type 0 where
  program : number_at 12 message ≡ Some call.prog
  procedure : number_at 20 message ≡ Some call.procedure

-- a number behind so many bytes
number_behind : (place n : ℕ) (message old new : List ℕ) → old ≡ drop place message → IsWord n old new
    → (number_at place message ≡ Some n) × (new ≡ drop (place + 4) message)
number_behind place n message old new at word = (
  ap (number_at 0) (sym at) ∙ word.value,
  word.behind ∙ ap (drop 4) at ∙ drop-drop 4 place message,
)

read_numbers : (message : List ℕ) (front : Value front_kind) (mid : Remaining) (fields : Value procedure_kind)
    (left : Remaining) → reading front_kind (record { at = 0; bytes = message }) ≡ Ok (front, mid)
    → reading procedure_kind mid ≡ Ok (fields, left) → HasNumbers message (call_head front.0 fields left)
read_numbers message front mid fields left one other =
    let xid = sequence_ok U32 (Sequence U32 U32) (record { at = 0; bytes = message }) mid front one in
    let kind = sequence_ok U32 U32 xid.0 mid front.1 xid.2 in
    let program = sequence_ok U32 (Sequence U32 (Sequence U32 (Sequence auth_kind auth_kind))) mid left fields other in
    let version = sequence_ok U32 (Sequence U32 (Sequence auth_kind auth_kind)) program.0 left fields.1 program.2 in
    let procedure = sequence_ok U32 (Sequence auth_kind auth_kind) version.0 left fields.1.1 version.2 in
    let at_4 = number_behind 0 front.0 message message xid.0.bytes refl (word_ok _ xid.0 front.0 xid.1) in
    let at_8 = number_behind 4 front.1.0 message _ kind.0.bytes at_4.1 (word_ok xid.0 kind.0 front.1.0 kind.1) in
    let at_12 = number_behind 8 front.1.1 message _ mid.bytes at_8.1 (word_ok kind.0 mid front.1.1 kind.2) in
    let at_16 = number_behind 12 fields.0 message _ program.0.bytes at_12.1
    (word_ok mid program.0 fields.0 program.1) in
    let at_20 = number_behind 16 fields.1.0 message _ version.0.bytes at_16.1
    (word_ok program.0 version.0 fields.1.0 version.1) in
    let at_24 = number_behind 20 fields.1.1.0 message _ procedure.0.bytes at_20.1
    (word_ok version.0 procedure.0 fields.1.1.0 procedure.1) in
    record { program = at_16.0; procedure = at_24.0 }

-- a call in the version of RPC that is known
tested : (passes : Bool) (heard otherwise : Heard) (call : CallHead) → (otherwise ≡ Call call → ⊥)
    → cond passes heard otherwise ≡ Call call → heard ≡ Call call
tested true heard otherwise call never e = e
tested false heard otherwise call never e = absurd (never e)

procedure_numbers : (message : List ℕ) (front : Value front_kind) (mid : Remaining)
    (read : Result (Value procedure_kind × Remaining) XdrFault) (call : CallHead)
    → reading front_kind (record { at = 0; bytes = message }) ≡ Ok (front, mid)
    → reading procedure_kind mid ≡ read → heard_procedure front.0 read ≡ Call call → HasNumbers message call
procedure_numbers message front mid (Ok read) call one other e =
    let same : call_head front.0 read.0 read.1 ≡ call = cc in
    subst (HasNumbers message) same (read_numbers message front mid read.0 read.1 one other)
procedure_numbers message front mid (Err fault) call one other e = absurd cc

front_numbers : (message : List ℕ) (read : Result (Value front_kind × Remaining) XdrFault) (call : CallHead)
    → reading front_kind (record { at = 0; bytes = message }) ≡ read → heard_front read ≡ Call call
    → HasNumbers message call
front_numbers message (Ok read) call one e =
    let asked = heard_procedure read.0.0 (reading procedure_kind read.1) in
    let known = cond (read.0.1.1 == 2) asked (WrongRpc read.0.0) in
    procedure_numbers message read.0 read.1 (reading procedure_kind read.1) call one refl
    (tested (read.0.1.1 == 2) asked (WrongRpc read.0.0) call (λ wrong. cc)
    (tested (read.0.1.0 == 0) known Noise call (λ noise. cc) e))
front_numbers message (Err fault) call one e = absurd cc

-- ---- calls that are let to a procedure

some_of_ok : {A E : Type 0} (found : Option A) (fault : E) (x : A) → ok_or found fault ≡ Ok x → found ≡ Some x
some_of_ok None fault x e = absurd cc
some_of_ok (Some y) fault x e = cc

versioned : (table : ProgramTable Procedure) (call : CallHead) (version : Option ℕ) (procedure : Procedure)
    → admitted_in table call version ≡ Ok procedure → table.procedure call.prog call.procedure ≡ Some procedure
versioned table call None procedure e = absurd cc
versioned table call (Some version) procedure e =
    let found = table.procedure call.prog call.procedure in
    some_of_ok found ProcUnavail procedure
    (guard_ok (not (call.vers == version)) (ProgMismatch version version) (ok_or found ProcUnavail) procedure e).1

admitted_by : (table : ProgramTable Procedure) (call : CallHead) (procedure : Procedure)
    → admitted table call ≡ Ok procedure → table.procedure call.prog call.procedure ≡ Some procedure
admitted_by table call procedure e =
    let refuses = not (call.flavor == auth_none) && not (call.flavor == auth_sys) in
    let later = admitted_in table call (table.version call.prog) in
    versioned table call (table.version call.prog) procedure
    (guard_ok refuses (AuthError auth_rejectedcred) later procedure e).1

call_is : (heard : CallHead) (let_to : Result Procedure ReplyHead) (call : CallHead) (procedure : Procedure)
    → judged_call heard let_to ≡ Admitted call procedure → (heard ≡ call) × (let_to ≡ Ok procedure)
call_is heard (Ok found) call procedure e = (cc, cc)
call_is heard (Err head) call procedure e = absurd cc

heard_is : (table : ProgramTable Procedure) (heard : Heard) (call : CallHead) (procedure : Procedure)
    → judged_heard table heard ≡ Admitted call procedure
    → (heard ≡ Call call) × (table.procedure call.prog call.procedure ≡ Some procedure)
heard_is table Noise call procedure e = absurd cc
heard_is table (WrongRpc xid) call procedure e = absurd cc
heard_is table (Call one) call procedure e =
    let is = call_is one (admitted table one) call procedure e in
    (ap Call is.0, admitted_by table call procedure (ap (admitted table) (sym is.0) ∙ is.1))

-- ---- which procedures have a map made or fetched

module _ (arguments reply : List ℕ) where
  abbrev HasNone : Procedure → Type 0
  HasNone procedure = outcome_in procedure arguments reply ≡ None

  -- the procedure is this one, or one of the others
  one_of : (is_this : Bool) (this : Procedure) (others : Option Procedure) (procedure : Procedure)
      → HasNone this → (others ≡ Some procedure → HasNone procedure)
      → cond is_this (Some this) others ≡ Some procedure → HasNone procedure
  one_of true this others procedure none more e = let same : this ≡ procedure = cc in subst HasNone same none
  one_of false this others procedure none more e = more e

  not_this : (is_this : Bool) (this : Procedure) (others : Option Procedure) (procedure : Procedure)
      → is_this ≡ false → cond is_this (Some this) others ≡ Some procedure → others ≡ Some procedure
  not_this true this others procedure fails e = absurd cc
  not_this false this others procedure fails e = e

  -- of YP alone XFR
  of_yp : (n : ℕ) (procedure : Procedure) → (n == numbers.xfr_procedure) ≡ false
      → procedure_of Stream n ≡ Some procedure → HasNone procedure
  of_yp n procedure fails e =
      one_of (n == numbers.null_procedure) Null _ procedure refl (λ e.
      one_of (n == numbers.domain_procedure) Domain _ procedure refl (λ e.
      one_of (n == numbers.domain_nonack_procedure) DomainNonack _ procedure refl (λ e.
      one_of (n == numbers.match_procedure) Match _ procedure refl (λ e.
      one_of (n == numbers.first_procedure) First _ procedure refl (λ e.
      one_of (n == numbers.next_procedure) Next _ procedure refl (λ e.
      one_of (n == numbers.clear_procedure) Clear _ procedure refl (λ e.
      one_of (n == numbers.all_procedure) All _ procedure refl (λ e.
      one_of (n == numbers.master_procedure) Master _ procedure refl (λ e.
      one_of (n == numbers.order_procedure) Order _ procedure refl (λ e.
      one_of (n == numbers.maplist_procedure) Maplist None procedure refl (λ e. absurd cc) e)
      e) e) e) (not_this (n == numbers.xfr_procedure) Xfr _ procedure fails e)) e) e) e) e) e) e

  -- a procedure of YP or of the make program
  of_program : (is_make is_yp : Bool) (n : ℕ) (procedure : Procedure)
      → (is_make || (is_yp && (n == numbers.xfr_procedure))) ≡ false
      → cond is_yp (procedure_of Stream n) (cond is_make (make_procedure_of n) None) ≡ Some procedure
      → HasNone procedure
  of_program true is_yp n procedure fails e = absurd cc
  of_program false true n procedure fails e = of_yp n procedure fails e
  of_program false false n procedure fails e = absurd cc

overlooked : (message reply : List ℕ) (judgement : Judged Procedure) → judged (programs_on Stream) message ≡ judgement
    → may_have_outcome message ≡ false → judged_outcome message reply judgement ≡ None
overlooked message reply Ignored e fails = refl
overlooked message reply (Refused xid head) e fails = refl
overlooked message reply (Admitted call procedure) e fails =
    let is = heard_is (programs_on Stream) (heard message) call procedure e in
    let places = front_numbers message (reading front_kind (record { at = 0; bytes = message })) call refl is.0 in
    let one = ap (λ (program : Option ℕ). is_of_map program (number_at 20 message)) places.program in
    let other = ap (λ (number : Option ℕ). is_of_map (Some call.prog) number) places.procedure in
    of_program (drop call.body message) reply (call.prog == numbers.make_program) (call.prog == numbers.program)
    call.procedure procedure (sym (one ∙ other) ∙ fails) is.1

pub overlooks_none : (message reply : List ℕ) → may_have_outcome message ≡ false → outcome_of message reply ≡ None
overlooks_none message reply fails = overlooked message reply (judged (programs_on Stream) message) refl fails
