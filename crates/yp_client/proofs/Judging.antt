-- What a call does, by its reply or by the lack of one.
use Rattle.std.proofs.Common.{◌≡◌, ℕ, ◌+◌, ◌≤◌, ◌%◌, ◌^◌, true, false, List, Result, Ok, Err, refl, sym, ap}
use Rattle.std.proofs.Common.{◌∙◌}
use Rattle.std.proofs.Common.{subst}
use Rattle.std.specs.Prelude.{IsTrue}
use Rattle.std.specs.Io.KnownBytes.{Appends}
use Rattle.yp_io.specs.Dials.{WireState, wire_state}
use Rattle.yp_rpc.specs.Records.{sent, TakesRecord}
use Rattle.yp_client.specs.declared.fault.ClientFault.{ClientFault}
use Rattle.yp_client.specs.declared.fault.ClientFault.TheVariants.{Yp, Denied, BadReply, BadXid, Torn, TooLong}
use Rattle.yp_client.specs.declared.fault.ClientFault.TheVariants.{ReadFault}
use Rattle.yp_client.specs.declared.fault.ClientFault.TheVariants.{WriteFault, Spent, Rows, NoMemory}
use Rattle.yp_client.specs.Results.{Says}
use Rattle.yp_client.specs.States.{ClientState}
use Rattle.yp_client.specs.Calls.{SendsCall, WaitsForReply, HearsReply, NoReply, Answers, spends, Calls}
use Rattle.yp_client.specs.inside.Calls.{IsOfReply}

sends_of_reply : (X : Type 0) (call : List ℕ) (result : Result X ClientFault) (before after : WireState)
    → IsOfReply result → Appends before.output after.output (sent call) × IsTrue after.flushed
    → SendsCall call result before after
sends_of_reply X call (Ok x) before after of h = h
sends_of_reply X call (Err (Yp status)) before after of h = h
sends_of_reply X call (Err (Denied head)) before after of h = h
sends_of_reply X call (Err (BadReply at)) before after of h = h
sends_of_reply X call (Err (BadXid want got)) before after of h = h
sends_of_reply X call (Err (Rows row fault)) before after of h = h
sends_of_reply X call (Err NoMemory) before after of h = h
sends_of_reply X call (Err (Torn at)) before after of h = absurd of
sends_of_reply X call (Err (TooLong at)) before after of h = absurd of
sends_of_reply X call (Err ReadFault) before after of h = absurd of
sends_of_reply X call (Err WriteFault) before after of h = absurd of
sends_of_reply X call (Err Spent) before after of h = absurd of

waits_of_reply : (X : Type 0) (result : Result X ClientFault) (waited before after : WireState) → IsOfReply result
    → waited ≡ wire_state before.input after.output after.flushed → WaitsForReply result waited before after
waits_of_reply X (Ok x) waited before after of h = h
waits_of_reply X (Err (Yp status)) waited before after of h = h
waits_of_reply X (Err (Denied head)) waited before after of h = h
waits_of_reply X (Err (BadReply at)) waited before after of h = h
waits_of_reply X (Err (BadXid want got)) waited before after of h = h
waits_of_reply X (Err (Rows row fault)) waited before after of h = h
waits_of_reply X (Err NoMemory) waited before after of h = h
waits_of_reply X (Err (Torn at)) waited before after of h = absurd of
waits_of_reply X (Err (TooLong at)) waited before after of h = absurd of
waits_of_reply X (Err ReadFault) waited before after of h = absurd of
waits_of_reply X (Err WriteFault) waited before after of h = absurd of
waits_of_reply X (Err Spent) waited before after of h = absurd of

answers_of_reply : (X : Type 0) (limit : ℕ) (answers : List ℕ → Result X ClientFault → Type 0)
    (result : Result X ClientFault) (old new : ClientState) → IsOfReply result → HearsReply limit answers result old new
    → Answers limit answers result old new
answers_of_reply X limit answers (Ok x) old new of h = h
answers_of_reply X limit answers (Err (Yp status)) old new of h = h
answers_of_reply X limit answers (Err (Denied head)) old new of h = h
answers_of_reply X limit answers (Err (BadReply at)) old new of h = h
answers_of_reply X limit answers (Err (BadXid want got)) old new of h = h
answers_of_reply X limit answers (Err (Rows row fault)) old new of h = h
answers_of_reply X limit answers (Err NoMemory) old new of h = h
answers_of_reply X limit answers (Err (Torn at)) old new of h = absurd of
answers_of_reply X limit answers (Err (TooLong at)) old new of h = absurd of
answers_of_reply X limit answers (Err ReadFault) old new of h = absurd of
answers_of_reply X limit answers (Err WriteFault) old new of h = absurd of
answers_of_reply X limit answers (Err Spent) old new of h = absurd of

not_spent : (X : Type 0) (result : Result X ClientFault) → IsOfReply result → result ≡ Err Spent → ⊥
not_spent X result of is = let P : Result X ClientFault → Type 0 = λ r. IsOfReply r in rw is at of

-- its reply was read whole
pub called_ok : (X : Type 0) (limit : ℕ) (call : ℕ → List ℕ) (answers : ℕ → List ℕ → Result X ClientFault → Type 0)
    (result : Result X ClientFault) (message : List ℕ) (old new : ClientState)
    → old.spent ≡ false → IsOfReply result → answers old.xid message result
    → Appends old.wire.output new.wire.output (sent (call old.xid)) × IsTrue new.wire.flushed
    → new.waited ≡ wire_state old.wire.input new.wire.output new.wire.flushed
    → TakesRecord limit message old.wire.input new.wire.input old.place new.place
    → new.spent ≡ spends result → new.xid ≡ (old.xid + 1) % 2 ^ 32 → old.reads ≤ new.reads → old.writes ≤ new.writes
    → Calls limit call answers result old new
called_ok X limit call answers result message old new fresh of says out waited taken spent xid reads writes = record {
  sent = sends_of_reply X (call old.xid) result old.wire new.wire of out;
  waited = waits_of_reply X result new.waited old.wire new.wire of waited;
  answered = answers_of_reply X limit (answers old.xid) result old new of
      (record { reply = message; taken = taken; answered = says });
  exactly = (λ is. absurd (not_spent X result of is), λ was. absurd (let e : false ≡ true = sym fresh ∙ was in cc));
  spent = spent;
  xid = rw fresh xid;
  reads = reads;
  writes = writes;
}

sends_none : (X Y : Type 0) (call : List ℕ) (fault : ClientFault) (before after : WireState)
    → SendsCall {X = X} call (Err fault) before after → SendsCall {X = Y} call (Err fault) before after
sends_none X Y call (Yp status) before after h = h
sends_none X Y call (Denied head) before after h = h
sends_none X Y call (BadReply at) before after h = h
sends_none X Y call (BadXid want got) before after h = h
sends_none X Y call (Torn at) before after h = h
sends_none X Y call (TooLong at) before after h = h
sends_none X Y call ReadFault before after h = h
sends_none X Y call WriteFault before after h = h
sends_none X Y call Spent before after h = h
sends_none X Y call (Rows row fault) before after h = h
sends_none X Y call NoMemory before after h = h

waits_none : (X Y : Type 0) (fault : ClientFault) (waited before after : WireState)
    → WaitsForReply {X = X} (Err fault) waited before after → WaitsForReply {X = Y} (Err fault) waited before after
waits_none X Y (Yp status) waited before after h = h
waits_none X Y (Denied head) waited before after h = h
waits_none X Y (BadReply at) waited before after h = h
waits_none X Y (BadXid want got) waited before after h = h
waits_none X Y (Torn at) waited before after h = h
waits_none X Y (TooLong at) waited before after h = h
waits_none X Y ReadFault waited before after h = h
waits_none X Y WriteFault waited before after h = h
waits_none X Y Spent waited before after h = h
waits_none X Y (Rows row fault) waited before after h = h
waits_none X Y NoMemory waited before after h = h

-- a client as it was while it wasn't spent, and one that then has this number
abbrev fresh_at : ℕ → ClientState → ClientState
fresh_at number state = record state { xid = number; spent = false; waited = state.wire }

answers_none : (X : Type 0) (limit : ℕ) (answers : List ℕ → Result X ClientFault → Type 0) (fault : ClientFault)
    (old new : ClientState) (number : ℕ) → NoReply limit fault (fresh_at number old) (fresh_at number new)
    → Answers limit answers (Err fault) old new
answers_none X limit answers (Torn at) old new number h = h
answers_none X limit answers (TooLong at) old new number h = h
answers_none X limit answers ReadFault old new number h = h
answers_none X limit answers WriteFault old new number h = h
answers_none X limit answers (Yp status) old new number h = absurd h
answers_none X limit answers (Denied head) old new number h = absurd h
answers_none X limit answers (BadReply at) old new number h = absurd h
answers_none X limit answers (BadXid want got) old new number h = absurd h
answers_none X limit answers Spent old new number h = absurd h
answers_none X limit answers (Rows row fault) old new number h = absurd h
answers_none X limit answers NoMemory old new number h = absurd h

spent_has_none : (limit : ℕ) (fault : ClientFault) (old new : ClientState) → NoReply limit fault old new → fault ≡ Spent
    → ⊥
spent_has_none limit fault old new h is = rw is at h

-- the fault of an answer
abbrev fault_of : {X : Type 0} → Result X ClientFault → ClientFault
fault_of (Ok x) = NoMemory
fault_of (Err fault) = fault

-- it has no reply
pub called_err : (X Y : Type 0) (limit : ℕ) (call : ℕ → List ℕ)
    (answers : ℕ → List ℕ → Result X ClientFault → Type 0) (fault : ClientFault) (old new : ClientState)
    → old.spent ≡ false → NoReply limit fault (fresh_at old.xid old) (fresh_at old.xid new)
    → SendsCall {X = Y} (call old.xid) (Err fault) old.wire new.wire
    → WaitsForReply {X = Y} (Err fault) new.waited old.wire new.wire
    → new.spent ≡ spends {X = X} (Err fault) → new.xid ≡ (old.xid + 1) % 2 ^ 32 → old.reads ≤ new.reads
    → old.writes ≤ new.writes → Calls limit call answers (Err fault) old new
called_err X Y limit call answers fault old new fresh none out waited spent xid reads writes = record {
  sent = sends_none Y X (call old.xid) fault old.wire new.wire out;
  waited = waits_none Y X fault new.waited old.wire new.wire waited;
  answered = answers_none X limit (answers old.xid) fault old new old.xid none;
  exactly = (
    λ is. absurd (spent_has_none limit fault (fresh_at old.xid old) (fresh_at old.xid new) none (ap fault_of is)),
    λ was. absurd (let e : false ≡ true = sym fresh ∙ was in cc),
  );
  spent = spent;
  xid = rw fresh xid;
  reads = reads;
  writes = writes;
}

-- as called_err, by a number that is written otherwise
pub called_err_at : (X Y : Type 0) (limit : ℕ) (call : ℕ → List ℕ)
    (answers : ℕ → List ℕ → Result X ClientFault → Type 0) (fault : ClientFault) (old new : ClientState) (number : ℕ)
    → number ≡ old.xid → old.spent ≡ false → NoReply limit fault (fresh_at number old) (fresh_at number new)
    → SendsCall {X = Y} (call number) (Err fault) old.wire new.wire
    → WaitsForReply {X = Y} (Err fault) new.waited old.wire new.wire
    → new.spent ≡ spends {X = X} (Err fault) → new.xid ≡ (old.xid + 1) % 2 ^ 32 → old.reads ≤ new.reads
    → old.writes ≤ new.writes → Calls limit call answers (Err fault) old new
called_err_at X Y limit call answers fault old new number same fresh none out waited spent xid reads writes =
    called_err X Y limit call answers fault old new fresh
    (subst (λ (n : ℕ). NoReply limit fault (fresh_at n old) (fresh_at n new)) same none)
    (subst (λ (n : ℕ). SendsCall {X = Y} (call n) (Err fault) old.wire new.wire) same out) waited spent xid reads writes

-- a client that has no reply is spent
pub no_reply_spends : (X : Type 0) (limit : ℕ) (fault : ClientFault) (old new : ClientState)
    → NoReply limit fault old new → true ≡ spends {X = X} (Err fault)
no_reply_spends X limit (Torn at) old new h = refl
no_reply_spends X limit (TooLong at) old new h = refl
no_reply_spends X limit ReadFault old new h = refl
no_reply_spends X limit WriteFault old new h = refl
no_reply_spends X limit (Yp status) old new h = absurd h
no_reply_spends X limit (Denied head) old new h = absurd h
no_reply_spends X limit (BadReply at) old new h = absurd h
no_reply_spends X limit (BadXid want got) old new h = absurd h
no_reply_spends X limit Spent old new h = absurd h
no_reply_spends X limit (Rows row fault) old new h = absurd h
no_reply_spends X limit NoMemory old new h = absurd h

-- whatever value there might have been, a fault spends alike
err_spends : (X V : Type 0) (fault : ClientFault) → spends {X = X} (Err fault) ≡ spends {X = V} (Err fault)
err_spends X V (Yp status) = refl
err_spends X V (Denied head) = refl
err_spends X V (BadReply at) = refl
err_spends X V (BadXid want got) = refl
err_spends X V (Torn at) = refl
err_spends X V (TooLong at) = refl
err_spends X V ReadFault = refl
err_spends X V WriteFault = refl
err_spends X V Spent = refl
err_spends X V (Rows row fault) = refl
err_spends X V NoMemory = refl

-- two answers that say the same spend alike
says_spends : {X V : Type 0} (view : X → V) (said : Result V ClientFault) (result : Result X ClientFault)
    → Says view said result → spends result ≡ spends said
says_spends view said (Ok x) says = ap spends (sym says)
says_spends {X} {V} view said (Err fault) says = err_spends X V fault ∙ ap spends (sym says)

pub same_spends : {X V : Type 0} (view : X → V) (said : Result V ClientFault) (first second : Result X ClientFault)
    → Says view said first → Says view said second → spends first ≡ spends second
same_spends view said first second says again =
    says_spends view said first says ∙ sym (says_spends view said second again)
