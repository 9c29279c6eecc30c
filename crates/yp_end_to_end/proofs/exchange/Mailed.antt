-- The laws of the calls that a walk makes in datagrams.
use Rattle.std.proofs.Common.{◌≡◌, ℕ, ◌+◌, ◌≤◌, Bool, true, false, cond, List, [], ◌++◌, length, Option, Some, None, Result, Ok, Err, refl, ap, ◌∙◌, arith}
use Rattle.std.specs.Prelude.{nat_lt, IfSome, ⊤}
use Rattle.std.proofs.lemmas.List.{length-append}
use Rattle.yp_io.specs.declared.stream.Peer.{Peer}
use Rattle.yp_xdr.specs.Kind.{Kind, Value, U32, Sequence}
use Rattle.yp_xdr.specs.Spelling.{spelling, word, opaque, fixed}
use Rattle.yp_xdr.specs.Reading.{Remaining, reading}
use Rattle.yp_xdr.specs.inside.Laws.{WrittenIsReadAgain}
use Rattle.yp_rpc.specs.inside.Laws.{IsWord, CallIsHeardAgain}
use Rattle.yp_messages.specs.Numbers.{first_procedure, next_procedure, master_procedure, order_procedure}
use Rattle.yp_messages.specs.Messages.{req_nokey, req_key, key_val, resp_master, resp_order}
use Rattle.yp_messages.specs.declared.stat.YpStat.{YpStat}
use Rattle.yp_messages.specs.declared.stat.YpStat.TheVariants.{True, Nomore, Nokey, Badargs, Nodom, Nomap, Yperr}
use Rattle.yp_version.specs.Rows.{Row, row_len, first_of, following}
use Rattle.yp_version.specs.Versions.{MapVersion}
use Rattle.yp_answer.specs.declared.procedure.Path.TheVariants.{Datagram}
use Rattle.yp_answer.specs.declared.procedure.Procedure.TheVariants.{First, Next, Master, Order}
use Rattle.yp_rpc.specs.Turns.{datagram_max}
use Rattle.yp_answer.specs.Maps.{Maps, map_check, row_check}
use Rattle.yp_answer.specs.Results.{row_item, no_row, row_found, first_row, next_found, next_row, mastered, ordered}
use Rattle.yp_answer.specs.Reply.{Bytes, success, look_up, exceeds, reply}
use Rattle.yp_client.specs.declared.fault.ClientFault.TheVariants.{Yp}
use Rattle.yp_client.specs.Results.{row_of}
use Rattle.yp_end_to_end.specs.exchange.Told.{told, of_version}
use Rattle.yp_end_to_end.specs.inside.exchange.Told.{turned}
use Rattle.yp_end_to_end.specs.inside.exchange.Mail.{MailTells, row_mailed, first_mailed, row_behind_mailed}
use Rattle.yp_end_to_end.specs.inside.exchange.Mail.{next_mailed}
use Rattle.yp_end_to_end.specs.inside.exchange.Mail.{OrderMailTells, MasterMailTells, FirstMailTells, NextMailTells}
use Rattle.yp_end_to_end.proofs.exchange.Sound.{IsRefusal, IsSound, map_sound, row_sound}
use Rattle.yp_end_to_end.proofs.exchange.Values.{row_said}
use Rattle.yp_end_to_end.proofs.exchange.Found.{IsShortRow, rows_short, first_short, next_short, master_said, mastered_short, order_said, refused_row_said}
use Rattle.yp_end_to_end.proofs.exchange.Lengths.{opaque_short, length-opaque, length-success}
use Rattle.yp_end_to_end.proofs.exchange.LookUps.{map_fits, key_fits, replied_to}

-- a reply with results begins with the number of its call, and 1
begins_so : WrittenIsReadAgain → (kind : Kind) (xid : ℕ) (value : Value kind) → IsWord xid
    → (rest : Remaining) × (reading (Sequence U32 U32) (record { at = 0; bytes = success xid kind value }) ≡ Ok ((xid, 1), rest))
unfolding opaque fixed
begins_so law kind xid value x =
    let two : List ℕ = spelling (Sequence U32 U32) (xid, 1) in
    let more : List ℕ = word 0 ++ word 0 ++ word 0 ++ word 0 ++ spelling kind value in
    let read = law (Sequence U32 U32) (xid, 1) two more 0 (record { fits = (x, omega arith); spelled = refl }) in
    (record { at = 0 + length two; bytes = more }, read)

-- a status that isn't TRUE
abbrev IsNoTrue : YpStat → Type 0
IsNoTrue True = ⊥
IsNoTrue stat = ⊤

-- how long a reply without a row is, and one with a row
no_row_len : (xid : ℕ) (stat : YpStat) → length (success xid key_val (no_row stat)) ≡ 36
no_row_len xid stat = omega (arith, length-success xid key_val (no_row stat), length-append (opaque []) (opaque []), length-opaque [])

row_reply_len : (xid : ℕ) (row : Row) → length (success xid key_val (row_item row)) ≡ 28 + row_len row
row_reply_len xid row =
    omega (arith, length-success xid key_val (row_item row), length-append (opaque row.1) (opaque row.0), length-opaque row.1, length-opaque row.0)

no_row_said : WrittenIsReadAgain → (xid : ℕ) (stat : YpStat) → IsWord xid → IsNoTrue stat → row_of xid (success xid key_val (no_row stat)) ≡ Err (Yp stat)
no_row_said law xid True x is = absurd is
no_row_said law xid stat x is = row_said law xid stat [] [] x (omega arith) (omega arith)

not_long : (n : ℕ) → nat_lt datagram_max n ≡ false → n ≤ datagram_max
not_long n is = grind (arith, is)

-- a look-up that fits, or YPERR in its place
module _ (law : WrittenIsReadAgain) (maps : Maps) (peer : Peer) (xid : ℕ) (x : IsWord xid) (call : List ℕ) where
  abbrev Replied : Value key_val → Type 0
  Replied found = reply Datagram maps peer call ≡ Bytes (look_up Datagram xid key_val found (no_row Yperr))

  abbrev Tells : Result (List ℕ × List ℕ) YpStat → Type 0
  Tells expected = MailTells maps peer xid call (row_of xid) (told expected)

  one_of : (found : Value key_val) → Replied found → (long : Bool) → exceeds Datagram (length (success xid key_val found)) ≡ long
      → reply Datagram maps peer call ≡ Bytes (cond long (success xid key_val (no_row Yperr)) (success xid key_val found))
  one_of found replied long is = replied ∙ ap (λ (b : Bool). Bytes (cond b (success xid key_val (no_row Yperr)) (success xid key_val found))) is

  -- it fits
  fits : (found : Value key_val) (expected : Result (List ℕ × List ℕ) YpStat) → Replied found
      → exceeds Datagram (length (success xid key_val found)) ≡ false → row_of xid (success xid key_val found) ≡ told expected → Tells expected
  fits found expected replied is says =
      let begins = begins_so law key_val xid found x in
      record {
        bytes = success xid key_val found;
        replied = one_of found replied false is;
        within = not_long (length (success xid key_val found)) is;
        rest = begins.0;
        begins = begins.1;
        says = says;
      }

  -- it doesn't
  is_long : (found : Value key_val) → Replied found → exceeds Datagram (length (success xid key_val found)) ≡ true → Tells (Err Yperr)
  is_long found replied is =
      let begins = begins_so law key_val xid (no_row Yperr) x in
      record {
        bytes = success xid key_val (no_row Yperr);
        replied = one_of found replied true is;
        within = omega (arith, no_row_len xid Yperr);
        rest = begins.0;
        begins = begins.1;
        says = refused_row_said law xid Yperr x tt;
      }

  -- no row
  none : (stat : YpStat) → IsNoTrue stat → Replied (no_row stat) → Tells (Err stat)
  none stat is replied = fits (no_row stat) (Err stat) replied (short (length (success xid key_val (no_row stat))) (no_row_len xid stat)) (no_row_said law xid stat x is)
    where
      short : (n : ℕ) → n ≡ 36 → nat_lt datagram_max n ≡ false
      short n is = grind (arith, is)

  some : (row : Row) → IsShortRow row → (long : Bool) → nat_lt datagram_max (28 + row_len row) ≡ long → Replied (row_item row) → Tells (cond long (Err Yperr) (Ok (turned row)))
  some row is true long replied = is_long (row_item row) replied (ap (λ (n : ℕ). nat_lt datagram_max n) (row_reply_len xid row) ∙ long)
  some row is false long replied =
      fits (row_item row) (Ok (turned row)) replied (ap (λ (n : ℕ). nat_lt datagram_max n) (row_reply_len xid row) ∙ long) (row_said law xid True row.1 row.0 x is.1 is.0)

  found_row : (found : Option Row) → IfSome found IsShortRow → Replied (row_found found) → Tells (row_mailed found)
  found_row None is replied = none Nomore tt replied
  found_row (Some row) is replied = some row is (nat_lt datagram_max (28 + row_len row)) refl replied

  found_next : (found : Option (Option Row)) → IfSome found (λ next. IfSome next IsShortRow) → Replied (next_found found) → Tells (row_behind_mailed found)
  found_next None is replied = none Nokey tt replied
  found_next (Some next) is replied = found_row next is replied

  refused : (stat : YpStat) → IsRefusal stat → Replied (no_row stat) → Tells (Err stat)
  refused Badargs is replied = none Badargs tt replied
  refused Nodom is replied = none Nodom tt replied
  refused Nomap is replied = none Nomap tt replied
  refused Yperr is replied = none Yperr tt replied
  refused stat is replied = absurd is

  pub first_in_mail : (held : Result MapVersion YpStat) → IsSound held → Replied (first_row held) → Tells (of_version first_mailed held)
  first_in_mail (Ok version) is replied = found_row (first_of version.rows) (first_short version.rows (rows_short version is)) replied
  first_in_mail (Err stat) is replied = refused stat is replied

  pub next_in_mail : (key : List ℕ) (held : Result MapVersion YpStat) → IsSound held → Replied (next_row key held) → Tells (of_version (next_mailed key) held)
  next_in_mail key (Ok version) is replied = found_next (following key version.rows) (next_short key version.rows (rows_short version is)) replied
  next_in_mail key (Err stat) is replied = refused stat is replied

pub order_mail_tells : WrittenIsReadAgain → CallIsHeardAgain → OrderMailTells
order_mail_tells law calls maps peer xid domain served x d map m =
    let held = map_check maps domain map in
    let begins = begins_so law resp_order xid (ordered held) x in
    record {
      bytes = success xid resp_order (ordered held);
      replied = replied_to law calls Datagram maps peer req_nokey xid order_procedure (domain, map) Order
          (λ asked. Bytes (success xid resp_order (ordered (map_check maps asked.0 asked.1)))) x (omega arith) refl (map_fits domain map d m) refl;
      within = omega arith;
      rest = begins.0;
      begins = begins.1;
      says = order_said law xid held x (map_sound maps domain map served);
    }

pub master_mail_tells : WrittenIsReadAgain → CallIsHeardAgain → MasterMailTells
master_mail_tells law calls maps peer xid domain served x d map m =
    let held = map_check maps domain map in
    let sound = map_sound maps domain map served in
    let short = mastered_short held sound in
    let begins = begins_so law resp_master xid (mastered held) x in
    record {
      bytes = success xid resp_master (mastered held);
      replied = replied_to law calls Datagram maps peer req_nokey xid master_procedure (domain, map) Master
          (λ asked. Bytes (success xid resp_master (mastered (map_check maps asked.0 asked.1)))) x (omega arith) refl (map_fits domain map d m) refl;
      within = omega (arith, short, opaque_short (mastered held).1);
      rest = begins.0;
      begins = begins.1;
      says = master_said law xid held x sound;
    }

pub first_mail_tells : WrittenIsReadAgain → CallIsHeardAgain → FirstMailTells
first_mail_tells law calls maps peer xid domain served x d map m =
    first_in_mail law maps peer xid x _ (row_check maps peer.port domain map) (row_sound maps peer.port domain map served)
    (replied_to law calls Datagram maps peer req_nokey xid first_procedure (domain, map) First
    (λ asked. Bytes (look_up Datagram xid key_val (first_row (row_check maps peer.port asked.0 asked.1)) (no_row Yperr))) x (omega arith) refl (map_fits domain map d m) refl)

pub next_mail_tells : WrittenIsReadAgain → CallIsHeardAgain → NextMailTells
next_mail_tells law calls maps peer xid domain served x d map m key k =
    next_in_mail law maps peer xid x _ key (row_check maps peer.port domain map) (row_sound maps peer.port domain map served)
    (replied_to law calls Datagram maps peer req_key xid next_procedure (domain, (map, key)) Next
    (λ asked. Bytes (look_up Datagram xid key_val (next_row asked.1.1 (row_check maps peer.port asked.0 asked.1.0)) (no_row Yperr))) x (omega arith) refl (key_fits domain map key d m k) refl)
