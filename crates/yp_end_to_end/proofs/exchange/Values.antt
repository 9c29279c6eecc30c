-- What a client reads of results that were written.
use Rattle.std.proofs.Common.{◌≡◌, ℕ, ◌+◌, ◌≤◌, ℤ, List, [], ◌++◌, length, Result, Ok, Err, refl, sym, ap, ◌∙◌, arith, rules}
use Rattle.std.proofs.lemmas.List.{append-nil}
use Rattle.yp_xdr.specs.Kind.{Kind, Sequence, Opaque, Value}
use Rattle.yp_xdr.specs.Spelling.{spelling}
use Rattle.yp_xdr.specs.inside.Spelling.{Fits}
use Rattle.yp_xdr.specs.Reading.{Remaining}
use Rattle.yp_xdr.specs.inside.Laws.{WrittenIsReadAgain}
use Rattle.yp_rpc.specs.inside.Laws.{IsWord}
use Rattle.yp_messages.specs.declared.stat.YpStat.{YpStat}
use Rattle.yp_messages.specs.declared.stat.YpStat.TheVariants.{True, Nomore, False, Nomap, Nodom, Nokey, Badop, Baddb, Yperr, Badargs, Vers}
use Rattle.yp_messages.specs.Numbers.{key_max, value_max}
use Rattle.yp_messages.specs.Statuses.{stat, stat_number}
use Rattle.yp_messages.specs.Messages.{key_val}
use Rattle.yp_client.specs.declared.fault.ClientFault.{ClientFault}
use Rattle.yp_client.specs.declared.fault.ClientFault.TheVariants.{Yp}
use Rattle.yp_client.specs.Results.{◌>>=◌, of_reply, item, by_stat, behind_true, results_of, row_of}
use Rattle.yp_answer.specs.Reply.{success}
use Rattle.yp_end_to_end.proofs.exchange.Heads.{results_again}

-- an item that was written is read
pub item_again : WrittenIsReadAgain → (kind : Kind) (value : Value kind) (at : ℕ) (rest : List ℕ) → Fits kind value
    → item kind (record { at = at; bytes = spelling kind value ++ rest }) ≡ Ok (value, record { at = at + length (spelling kind value); bytes = rest })
item_again law kind value at rest fits = ap of_reply (law kind value (spelling kind value) rest at (record { fits = fits; spelled = refl }))

-- the same at the end
pub last_again : WrittenIsReadAgain → (kind : Kind) (value : Value kind) (at : ℕ) → Fits kind value
    → item kind (record { at = at; bytes = spelling kind value }) ≡ Ok (value, record { at = at + length (spelling kind value); bytes = [] })
last_again law kind value at fits =
    ap (λ (bytes : List ℕ). item kind (record { at = at; bytes = bytes })) (sym (append-nil (spelling kind value))) ∙ item_again law kind value at [] fits

-- each status has a number that is listed
pub stat_fits : (s : YpStat) → Fits stat (stat_number s)
stat_fits True = (search rules, refl)
stat_fits Nomore = (search rules, refl)
stat_fits False = (search rules, refl)
stat_fits Nomap = (search rules, refl)
stat_fits Nodom = (search rules, refl)
stat_fits Nokey = (search rules, refl)
stat_fits Badop = (search rules, refl)
stat_fits Baddb = (search rules, refl)
stat_fits Yperr = (search rules, refl)
stat_fits Badargs = (search rules, refl)
stat_fits Vers = (search rules, refl)

-- a value behind TRUE, and the refusal by any other status
abbrev pub said_with : {V : Type 0} → YpStat → V → Result V ClientFault
said_with True value = Ok value
said_with s value = Err (Yp s)

by_number : (s : YpStat) (left : Remaining) → by_stat (stat_number s) left ≡ said_with s left
by_number True left = refl
by_number Nomore left = refl
by_number False left = refl
by_number Nomap left = refl
by_number Nodom left = refl
by_number Nokey left = refl
by_number Badop left = refl
by_number Baddb left = refl
by_number Yperr left = refl
by_number Badargs left = refl
by_number Vers left = refl

-- what is behind a status
pub behind_again : WrittenIsReadAgain → (s : YpStat) (at : ℕ) (rest : List ℕ)
    → behind_true (record { at = at; bytes = spelling stat (stat_number s) ++ rest }) ≡ said_with s (record { at = at + 4; bytes = rest })
behind_again law s at rest =
    ap (λ (read : Result (ℤ × Remaining) ClientFault). read >>= λ status. by_stat status.0 status.1) (item_again law stat (stat_number s) at rest (stat_fits s))
    ∙ by_number s (record { at = at + 4; bytes = rest })

-- what is read behind a status is said
pub then_said : {V : Type 0} (s : YpStat) (left : Remaining) (value : V) (read : Remaining → Result V ClientFault) → read left ≡ Ok value
    → (said_with s left >>= read) ≡ said_with s value
then_said True left value read is = is
then_said Nomore left value read is = refl
then_said False left value read is = refl
then_said Nomap left value read is = refl
then_said Nodom left value read is = refl
then_said Nokey left value read is = refl
then_said Badop left value read is = refl
then_said Baddb left value read is = refl
then_said Yperr left value read is = refl
then_said Badargs left value read is = refl
then_said Vers left value read is = refl

-- the results of a reply: a status, and what a client reads behind it
abbrev pub by_results : {V : Type 0} → ℕ → List ℕ → (Remaining → Result V ClientFault) → Result V ClientFault
by_results xid message read = results_of xid message >>= λ left. behind_true left >>= read

pub results_said : {V : Type 0} → WrittenIsReadAgain → (other : Kind) (xid : ℕ) (s : YpStat) (results : Value other) (value : V) (read : Remaining → Result V ClientFault) → IsWord xid
    → read (record { at = 28; bytes = spelling other results }) ≡ Ok value
    → by_results xid (success xid (Sequence stat other) (stat_number s, results)) read ≡ said_with s value
results_said {V} law other xid s results value read x is =
    ap (λ (left : Result Remaining ClientFault). left >>= λ l. behind_true l >>= read) (results_again law (Sequence stat other) xid (stat_number s, results) x)
    ∙ ap (λ (rest : Result Remaining ClientFault). rest >>= read) (behind_again law s 24 (spelling other results))
    ∙ then_said s (record { at = 28; bytes = spelling other results }) value read is

-- one value
abbrev pub one_item : (kind : Kind) → Remaining → Result (Value kind) ClientFault
one_item kind rest = item kind rest >>= λ value. Ok value.0

pub one_again : WrittenIsReadAgain → (kind : Kind) (value : Value kind) (at : ℕ) → Fits kind value → one_item kind (record { at = at; bytes = spelling kind value }) ≡ Ok value
one_again law kind value at fits = ap (λ (read : Result (Value kind × Remaining) ClientFault). read >>= λ value. Ok value.0) (last_again law kind value at fits)

pub value_said : WrittenIsReadAgain → (kind : Kind) (xid : ℕ) (s : YpStat) (value : Value kind) → IsWord xid → Fits kind value
    → by_results xid (success xid (Sequence stat kind) (stat_number s, value)) (one_item kind) ≡ said_with s value
value_said law kind xid s value x fits = results_said law kind xid s value value (one_item kind) x (one_again law kind value 28 fits)

-- a value and its key
abbrev row_items : Remaining → Result (List ℕ × List ℕ) ClientFault
row_items rest = item (Opaque value_max) rest >>= λ value. item (Opaque key_max) value.1 >>= λ key. Ok (value.0, key.0)

row_again : WrittenIsReadAgain → (value key : List ℕ) (at : ℕ) → length value ≤ value_max → length key ≤ key_max
    → row_items (record { at = at; bytes = spelling (Opaque value_max) value ++ spelling (Opaque key_max) key }) ≡ Ok (value, key)
row_again law value key at v k =
    let there = at + length (spelling (Opaque value_max) value) in
    ap (λ (read : Result (List ℕ × Remaining) ClientFault). read >>= λ value. item (Opaque key_max) value.1 >>= λ key. Ok (value.0, key.0))
    (item_again law (Opaque value_max) value at (spelling (Opaque key_max) key) (v, omega arith))
    ∙ ap (λ (read : Result (List ℕ × Remaining) ClientFault). read >>= λ key. Ok (value, key.0)) (last_again law (Opaque key_max) key there (k, omega arith))

pub row_said : WrittenIsReadAgain → (xid : ℕ) (s : YpStat) (value key : List ℕ) → IsWord xid → length value ≤ value_max → length key ≤ key_max
    → row_of xid (success xid key_val (stat_number s, (value, key))) ≡ said_with s (value, key)
row_said law xid s value key x v k =
    results_said law (Sequence (Opaque value_max) (Opaque key_max)) xid s (value, key) (value, key) row_items x (row_again law value key 28 v k)
