-- What a client reads of a reply is what it says.
use Rattle.std.proofs.Common.{◌≡◌, ◌⊎◌, ℕ, ℤ, zero, suc, ◌+◌, pos, negsuc, Bool, true, false, cond, List, [], ◌∷◌, length, Option, Some, None, Result, Ok, Err, refl, sym, ap, ◌∙◌, subst, inl, inr, eqb, ⊎_elim}
use Rattle.std.specs.Prelude.{◌==◌}
use Rattle.std.specs.Ordering.{int_eq}
use Rattle.std.proofs.lemmas.Bool.Decides.{eqb_tells}
use Rattle.yp_xdr.specs.declared.fault.XdrFault.{XdrFault}
use Rattle.yp_xdr.specs.Kind.{Kind, U32, Boolean, Opaque, Sequence, Value}
use Rattle.yp_xdr.specs.Reading.{Remaining, reading}
use Rattle.yp_rpc.specs.declared.reply.ReplyHead.{ReplyHead}
use Rattle.yp_rpc.specs.declared.reply.ReplyHead.TheVariants.{Success}
use Rattle.yp_rpc.specs.Read.{reply_at}
use Rattle.yp_messages.specs.Numbers.{key_max, value_max}
use Rattle.yp_messages.specs.declared.stat.YpStat.{YpStat}
use Rattle.yp_messages.specs.declared.stat.YpStat.TheVariants as stats
use Rattle.yp_messages.specs.Messages.{name, resp_order, resp_master, key_val}
use Rattle.yp_messages.specs.Statuses.{stat}
use Rattle.yp_version.specs.Rows.{Row}
use Rattle.yp_version.specs.declared.builder.VersionFault.{VersionFault}
use Rattle.yp_version.specs.Drafts.{Draft, refused, with_row, with_rows}
use Rattle.yp_client.specs.declared.fault.ClientFault.{ClientFault}
use Rattle.yp_client.specs.declared.fault.ClientFault.TheVariants.{BadXid, Yp}
use Rattle.yp_client.specs.Results.{◌>>=◌, of_reply, item, by_head, by_xid, results_of, stat_with, by_stat, behind_true, order_of, master_of, row_of}
use Rattle.yp_client.specs.All.{ItemRead, AllSaid, row_at, by_row_stat, status_at, all_item_at, by_refusal, by_item, filled, filled_by, all_said}
use Rattle.yp_headline.specs.Fetching.{Reads, Says, RowsAre}
use Rattle.yp_headline.proofs.Heads.{same_int, read_both, HasHead, results_are}

-- ---- steps

bind_ok : {A B : Type 0} (r : Result A ClientFault) (f : A → Result B ClientFault) (y : B) → (r >>= f) ≡ Ok y
    → (x : A) × (r ≡ Ok x) × (f x ≡ Ok y)
bind_ok (Ok x) f y is = (x, refl, is)
bind_ok (Err fault) f y is = absurd cc

of_ok : {A : Type 0} (r : Result A XdrFault) (x : A) → of_reply r ≡ Ok x → r ≡ Ok x
of_ok (Ok y) x is = cc
of_ok (Err fault) x is = absurd cc

same_ok : {A : Type 0} (x y : A) → (let r : Result A ClientFault = Ok x in r) ≡ Ok y → x ≡ y
same_ok x y is = cc

success_head : (head : ReplyHead) (left next : Remaining) → by_head head left ≡ Ok next → (head ≡ Success) × (left ≡ next)
success_head Success left next is = (refl, same_ok left next is)
success_head _ left next is = absurd cc

by_number : (b : Bool) (x : Result Remaining ClientFault) (fault : ClientFault) (next : Remaining)
    → cond b x (Err fault) ≡ Ok next → (b ≡ true) × (x ≡ Ok next)
by_number true x fault next is = (refl, is)
by_number false x fault next is = absurd cc

number_is : (got xid : ℕ) → eqb got xid ≡ true → got ≡ xid
number_is got xid is = elim (eqb_tells got xid) [
  | inl same ↦ same.1
  | inr differ ↦ absurd (let e : false ≡ true = sym differ.0 ∙ is in cc)
]

results : (xid : ℕ) (message : List ℕ) (left : Remaining) → results_of xid message ≡ Ok left → HasHead xid message left
results xid message left is =
    let start : Remaining = record { at = 0; bytes = message } in
    let a = bind_ok (of_reply (reply_at start)) (λ read. by_xid xid read.0.0 read.0.1 read.1) left is in
    let b = by_number (a.0.0.0 == xid) (by_head a.0.0.1 a.0.1) (BadXid xid a.0.0.0) left a.2 in
    let c = success_head a.0.0.1 a.0.1 left b.1 in
    results_are message xid left (of_ok (reply_at start) a.0 a.1
    ∙ ap (λ (n : ℕ). Ok ((n, a.0.0.1), a.0.1)) (number_is a.0.0.0 xid b.0)
    ∙ ap (λ (h : ReplyHead). Ok ((xid, h), a.0.1)) c.0 ∙ ap (λ (r : Remaining). Ok ((xid, Success), r)) c.1)

-- a status that is TRUE
true_behind : (left next : Remaining) → behind_true left ≡ Ok next → reading stat left ≡ Ok (pos 1, next)
true_behind left next is =
    let a = bind_ok (item stat left) (λ status. by_stat status.0 status.1) next is in
    let b = by_number (int_eq a.0.0 (pos 1)) (Ok a.0.1) (Yp (stat_with a.0.0)) next a.2 in
    of_ok (reading stat left) a.0 a.1
    ∙ ap (λ (z : ℤ). Ok (z, a.0.1)) (same_int a.0.0 (pos 1) b.0) ∙ ap (λ (r : Remaining). Ok (pos 1, r)) (same_ok a.0.1 next b.1)

-- a value behind it
said : (kind : Kind) (xid : ℕ) (message : List ℕ) (value : Value kind)
    → (results_of xid message >>= λ left. behind_true left >>= λ rest. item kind rest >>= λ read. Ok read.0) ≡ Ok value
    → Says xid (Reads (Sequence stat kind) (pos 1, value)) message
said kind xid message value is =
    let a = bind_ok (results_of xid message) (λ left. behind_true left >>= λ rest. item kind rest >>= λ read. Ok read.0) value is in
    let b = bind_ok (behind_true a.0) (λ rest. item kind rest >>= λ read. Ok read.0) value a.2 in
    let c = bind_ok (item kind b.0) (λ read. Ok read.0) value b.2 in
    let head = results xid message a.0 a.1 in
    record {
      left = a.0;
      verifier = head.0;
      head = head.1;
      results = (
        c.0.1,
        read_both stat kind a.0 b.0 c.0.1 (pos 1) value (true_behind a.0 b.0 b.1)
            (of_ok (reading kind b.0) c.0 c.1 ∙ ap (λ (v : Value kind). Ok (v, c.0.1)) (same_ok c.0.0 value c.2)),
      );
    }

pub order_said : (xid : ℕ) (message : List ℕ) (order : ℕ) → order_of xid message ≡ Ok order
    → Says xid (Reads resp_order (pos 1, order)) message
order_said xid message order is = said U32 xid message order is

pub master_said : (xid : ℕ) (message master : List ℕ) → master_of xid message ≡ Ok master
    → Says xid (Reads resp_master (pos 1, master)) message
master_said xid message master is = said name xid message master is

-- a row, its value before its key
pub row_said : (xid : ℕ) (message : List ℕ) (found : List ℕ × List ℕ) → row_of xid message ≡ Ok found
    → Says xid (Reads key_val (pos 1, found)) message
row_said xid message found is =
    let a = bind_ok (results_of xid message) (λ left. behind_true left >>= λ rest. item (Opaque value_max) rest
    >>= λ value. item (Opaque key_max) value.1 >>= λ key. Ok (value.0, key.0)) found is in
    let b = bind_ok (behind_true a.0) (λ rest. item (Opaque value_max) rest >>= λ value. item (Opaque key_max) value.1
    >>= λ key. Ok (value.0, key.0)) found a.2 in
    let c = bind_ok (item (Opaque value_max) b.0) (λ value. item (Opaque key_max) value.1 >>= λ key. Ok (value.0, key.0)) found b.2 in
    let d = bind_ok (item (Opaque key_max) c.0.1) (λ key. Ok (c.0.0, key.0)) found c.2 in
    let head = results xid message a.0 a.1 in
    record {
      left = a.0;
      verifier = head.0;
      head = head.1;
      results = (
        d.0.1,
        read_both stat (Sequence (Opaque value_max) (Opaque key_max)) a.0 b.0 d.0.1 (pos 1) found (true_behind a.0 b.0 b.1)
            (read_both (Opaque value_max) (Opaque key_max) b.0 c.0.1 d.0.1 c.0.0 d.0.0 (of_ok (reading (Opaque value_max) b.0) c.0 c.1)
            (of_ok (reading (Opaque key_max) c.0.1) d.0 d.1)
            ∙ ap (λ (v : List ℕ × List ℕ). Ok (v, d.0.1)) (same_ok (c.0.0, d.0.0) found d.2)),
      );
    }

-- ---- no row

bind_err : {A B : Type 0} (r : Result A ClientFault) (f : A → Result B ClientFault) (fault : ClientFault) → (r >>= f) ≡ Err fault
    → (r ≡ Err fault) ⊎ ((x : A) × (r ≡ Ok x) × (f x ≡ Err fault))
bind_err (Ok x) f fault is = inr (x, refl, is)
bind_err (Err other) f fault is = let same : other ≡ fault = cc in inl (ap (λ (g : ClientFault). Err g) same)

never_yp : {A : Type 0} (r : Result A XdrFault) (s : YpStat) → of_reply r ≡ Err (Yp s) → ⊥
never_yp (Ok x) s is = cc
never_yp (Err fault) s is = cc

head_never : (head : ReplyHead) (left : Remaining) (s : YpStat) → by_head head left ≡ Err (Yp s) → ⊥
head_never Success left s is = cc
head_never _ left s is = cc

xid_never : (b : Bool) (head : ReplyHead) (left : Remaining) (xid got : ℕ) (s : YpStat)
    → cond b (by_head head left) (Err (BadXid xid got)) ≡ Err (Yp s) → ⊥
xid_never true head left xid got s is = head_never head left s is
xid_never false head left xid got s is = cc

results_never : (xid : ℕ) (message : List ℕ) (s : YpStat) → results_of xid message ≡ Err (Yp s) → ⊥
results_never xid message s is =
    let start : Remaining = record { at = 0; bytes = message } in
    ⊎_elim (λ e. never_yp (reply_at start) s e)
    (λ read. xid_never (read.0.0.0 == xid) read.0.0.1 read.0.1 xid read.0.0.0 s read.2)
    (bind_err (of_reply (reply_at start)) (λ read. by_xid xid read.0.0 read.0.1 read.1) (Yp s) is)

other_stat : {P : Type 0} (b : Bool) (x y z : YpStat) → cond b x y ≡ z → (x ≡ z → P) → (y ≡ z → P) → P
other_stat true x y z is then else = then is
other_stat false x y z is then else = else is

nomore_is : (number : ℤ) → stat_with number ≡ stats.Nomore → int_eq number (pos 2) ≡ true
nomore_is number is =
    other_stat (int_eq number (pos 1)) stats.True _ stats.Nomore is (λ e. absurd cc) (λ e.
    by_number_stat (int_eq number (pos 2)) e)
  where
    last : (b0 b1 b2 b3 b4 b5 b6 b7 : Bool)
        → cond b0 stats.False (cond b1 stats.Nomap (cond b2 stats.Nodom (cond b3 stats.Nokey (cond b4 stats.Badop
        (cond b5 stats.Baddb (cond b6 stats.Yperr (cond b7 stats.Badargs stats.Vers))))))) ≡ stats.Nomore → ⊥
    last true b1 b2 b3 b4 b5 b6 b7 e = cc
    last false true b2 b3 b4 b5 b6 b7 e = cc
    last false false true b3 b4 b5 b6 b7 e = cc
    last false false false true b4 b5 b6 b7 e = cc
    last false false false false true b5 b6 b7 e = cc
    last false false false false false true b6 b7 e = cc
    last false false false false false false true b7 e = cc
    last false false false false false false false true e = cc
    last false false false false false false false false e = cc

    by_number_stat : (b : Bool) → cond b stats.Nomore (cond (int_eq number (pos 0)) stats.False
        (cond (int_eq number (negsuc 0)) stats.Nomap (cond (int_eq number (negsuc 1)) stats.Nodom
        (cond (int_eq number (negsuc 2)) stats.Nokey (cond (int_eq number (negsuc 3)) stats.Badop
        (cond (int_eq number (negsuc 4)) stats.Baddb (cond (int_eq number (negsuc 5)) stats.Yperr
        (cond (int_eq number (negsuc 6)) stats.Badargs stats.Vers)))))))) ≡ stats.Nomore → b ≡ true
    by_number_stat true e = refl
    by_number_stat false e = absurd (last (int_eq number (pos 0)) (int_eq number (negsuc 0)) (int_eq number (negsuc 1))
        (int_eq number (negsuc 2)) (int_eq number (negsuc 3)) (int_eq number (negsuc 4)) (int_eq number (negsuc 5))
        (int_eq number (negsuc 6)) e)

by_stat_nomore : (b : Bool) (number : ℤ) (left : Remaining) → cond b (Ok left) (Err (Yp (stat_with number))) ≡ Err (Yp stats.Nomore)
    → stat_with number ≡ stats.Nomore
by_stat_nomore true number left is = absurd cc
by_stat_nomore false number left is = cc

-- the reply to FIRST or NEXT that there is no row
pub none_said : (xid : ℕ) (message : List ℕ) → row_of xid message ≡ Err (Yp stats.Nomore) → Says xid (Reads stat (pos 2)) message
none_said xid message is = ⊎_elim
    (λ e. absurd (results_never xid message stats.Nomore e))
    (λ a. ⊎_elim
    (λ e. ⊎_elim
    (λ f. absurd (never_yp (reading stat a.0) stats.Nomore f))
    (λ s.
    let number : s.0.0 ≡ pos 2 =
    same_int s.0.0 (pos 2) (nomore_is s.0.0 (by_stat_nomore (int_eq s.0.0 (pos 1)) s.0.0 s.0.1 s.2)) in
    let head = results xid message a.0 a.1 in
    record {
      left = a.0;
      verifier = head.0;
      head = head.1;
      results = (s.0.1, of_ok (reading stat a.0) s.0 s.1 ∙ ap (λ (z : ℤ). Ok (z, s.0.1)) number);
    })
    (bind_err (item stat a.0) (λ status. by_stat status.0 status.1) (Yp stats.Nomore) e))
    (λ b. ⊎_elim
    (λ e. absurd (never_yp (reading (Opaque value_max) b.0) stats.Nomore e))
    (λ c. ⊎_elim
    (λ e. absurd (never_yp (reading (Opaque key_max) c.0.1) stats.Nomore e))
    (λ d. absurd (let e = d.2 in cc))
    (bind_err (item (Opaque key_max) c.0.1) (λ key. Ok (c.0.0, key.0)) (Yp stats.Nomore) c.2))
    (bind_err (item (Opaque value_max) b.0) (λ value. item (Opaque key_max) value.1 >>= λ key. Ok (value.0, key.0))
    (Yp stats.Nomore) b.2))
    (bind_err (behind_true a.0) (λ rest. item (Opaque value_max) rest >>= λ value. item (Opaque key_max) value.1
    >>= λ key. Ok (value.0, key.0)) (Yp stats.Nomore) a.2))
    (bind_err (results_of xid message) (λ left. behind_true left >>= λ rest. item (Opaque value_max) rest
    >>= λ value. item (Opaque key_max) value.1 >>= λ key. Ok (value.0, key.0)) (Yp stats.Nomore) is)

-- ---- rows

by_cond : {A : Type 0} (b : Bool) (x y z : A) (P : Type 0) → (b ≡ true → x ≡ z → P) → (b ≡ false → y ≡ z → P) → cond b x y ≡ z → P
by_cond true x y z P then else is = then refl is
by_cond false x y z P then else is = else refl is

-- what stands at a row
row_parts : (left next : Remaining) (found : Option Row) → row_at left ≡ Ok (found, next)
    → (row : Row) × (found ≡ Some row)
    × (reading (Sequence (Opaque value_max) (Opaque key_max)) left ≡ Ok ((row.1, row.0), next))
unfolding row_at
row_parts left next found is =
    let a = bind_ok (item (Opaque value_max) left)
    (λ value. item (Opaque key_max) value.1 >>= λ key. Ok (Some (key.0, value.0), key.1)) (found, next) is in
    let b = bind_ok (item (Opaque key_max) a.0.1) (λ key. Ok (Some (key.0, a.0.0), key.1)) (found, next) a.2 in
    let c = same_ok (Some (b.0.0, a.0.0), b.0.1) (found, next) b.2 in (
      (b.0.0, a.0.0),
      sym (ap (λ (r : Option Row × Remaining). r.0) c),
      read_both (Opaque value_max) (Opaque key_max) left a.0.1 next a.0.0 b.0.0 (of_ok (reading (Opaque value_max) left) a.0 a.1)
          (of_ok (reading (Opaque key_max) a.0.1) b.0 b.1 ∙ ap (λ (r : Option Row × Remaining). Ok (b.0.0, r.1)) c),
    )

-- what an item is
abbrev IsItem : Option Row → Remaining → Remaining → Type 0
IsItem None left next = RowsAre [] left
IsItem (Some row) left next =
    reading (Sequence Boolean key_val) left ≡ Ok ((true, (pos 1, (row.1, row.0))), next)

row_item : (left first second next : Remaining) (found : Option Row) → reading Boolean left ≡ Ok (true, first)
    → reading stat first ≡ Ok (pos 1, second) → row_at second ≡ Ok (found, next) → IsItem found left next
row_item left first second next found more status is =
    let parts = row_parts second next found is in
    subst (λ (o : Option Row). IsItem o left next) (sym parts.1)
    (read_both Boolean key_val left first next true (pos 1, (parts.0.1, parts.0.0)) more
    (read_both stat (Sequence (Opaque value_max) (Opaque key_max)) first second next (pos 1) (parts.0.1, parts.0.0) status parts.2))

last_item : (left first second next : Remaining) (found : Option Row) → reading Boolean left ≡ Ok (true, first)
    → reading stat first ≡ Ok (pos 2, second) → None ≡ found → IsItem found left next
last_item left first second next found more status is =
    subst (λ (o : Option Row). IsItem o left next) is
    (inr (second, read_both Boolean stat left first second true (pos 2) more status))

status_item : (left first next : Remaining) (found : Option Row) → reading Boolean left ≡ Ok (true, first)
    → status_at first ≡ Ok (found, next) → IsItem found left next
unfolding status_at
status_item left first next found more is =
    let a = bind_ok (item stat first) (λ status. by_row_stat status.0 status.1) (found, next) is in
    let status = of_ok (reading stat first) a.0 a.1 in
    by_cond (int_eq a.0.0 (pos 1)) (row_at a.0.1) _ (Ok (found, next)) (IsItem found left next)
    (λ one e. row_item left first a.0.1 next found more (status ∙ ap (λ (z : ℤ). Ok (z, a.0.1)) (same_int a.0.0 (pos 1) one)) e)
    (λ not_one e. by_cond (int_eq a.0.0 (pos 2)) (Ok (None, a.0.1)) (Err (Yp (stat_with a.0.0))) (Ok (found, next)) (IsItem found left next)
    (λ two h. last_item left first a.0.1 next found more (status ∙ ap (λ (z : ℤ). Ok (z, a.0.1)) (same_int a.0.0 (pos 2) two))
    (ap (λ (r : Option Row × Remaining). r.0) (same_ok (None, a.0.1) (found, next) h)))
    (λ not_two h. absurd cc) e) a.2

item_is : (left next : Remaining) (found : Option Row) → all_item_at left ≡ Ok (found, next) → IsItem found left next
unfolding all_item_at
item_is left next found is =
    let a = bind_ok (item Boolean left) (λ more. cond more.0 (status_at more.1) (Ok (None, more.1))) (found, next) is in
    let more = of_ok (reading Boolean left) a.0 a.1 in
    by_cond a.0.0 (status_at a.0.1) (Ok (None, a.0.1)) (Ok (found, next)) (IsItem found left next)
    (λ yes e. status_item left a.0.1 next found (more ∙ ap (λ (b : Bool). Ok (b, a.0.1)) yes) e)
    (λ no e. subst (λ (o : Option Row). IsItem o left next)
    (ap (λ (r : Option Row × Remaining). r.0) (same_ok (None, a.0.1) (found, next) e))
    (inl (a.0.1, more ∙ ap (λ (b : Bool). Ok (b, a.0.1)) no))) a.2

-- rows that were pushed onto a draft
record Pushed (draft : Draft) (left : Remaining) (said : AllSaid) : Type 0 where
  rows : List Row
  rows_are : RowsAre rows left
  draft_is : said.draft ≡ with_rows draft rows

unrefused : (refusal : Option VersionFault) (draft : Draft) (count : ℕ) (others : AllSaid)
    → (by_refusal refusal draft count others).end ≡ Ok tt → by_refusal refusal draft count others ≡ others
unrefused None draft count others is = refl
unrefused (Some fault) draft count others is = absurd cc

pushed_by : (n : ℕ) (draft : Draft) (count : ℕ) (left : Remaining) (read : ItemRead) → all_item_at left ≡ read
    → ((draft : Draft) (count : ℕ) (left : Remaining) → (filled n draft count left).end ≡ Ok tt → Pushed draft left (filled n draft count left))
    → (by_item (filled n) draft count read).end ≡ Ok tt → Pushed draft left (by_item (filled n) draft count read)
pushed_by n draft count left (Err fault) read later is = absurd cc
pushed_by n draft count left (Ok (None, next)) read later is =
    record { rows = []; rows_are = item_is left next None read; draft_is = refl }
pushed_by n draft count left (Ok (Some row, next)) read later is =
    let others = filled n (with_row draft row) (count + 1) next in
    let same = unrefused (refused draft row) draft count others is in
    let rest = later (with_row draft row) (count + 1) next (ap (λ (s : AllSaid). s.end) (sym same) ∙ is) in
    record {
      rows = row ∷ rest.rows;
      rows_are = (next, item_is left next (Some row) read, rest.rows_are);
      draft_is = ap (λ (s : AllSaid). s.draft) same ∙ rest.draft_is;
    }

pushed : (n : ℕ) (draft : Draft) (count : ℕ) (left : Remaining) → (filled n draft count left).end ≡ Ok tt
    → Pushed draft left (filled n draft count left)
unfolding filled
pushed zero draft count left is = absurd cc
pushed (suc n) draft count left is = pushed_by n draft count left (all_item_at left) refl (pushed n) is

by_results : (draft : Draft) (xid : ℕ) (message : List ℕ) (read : Result Remaining ClientFault) → results_of xid message ≡ read
    → (filled_by draft read).end ≡ Ok tt → (rows : List Row) × Says xid (RowsAre rows) message × ((filled_by draft read).draft ≡ with_rows draft rows)
by_results draft xid message (Err fault) is end = absurd cc
by_results draft xid message (Ok left) is end =
    let rows = pushed (length left.bytes) draft 0 left end in
    let head = results xid message left is in
    (rows.rows, record { left = left; verifier = head.0; head = head.1; results = rows.rows_are }, rows.draft_is)

pub rows_said : (draft : Draft) (xid : ℕ) (message : List ℕ) → (all_said draft xid message).end ≡ Ok tt
    → (rows : List Row) × Says xid (RowsAre rows) message × ((all_said draft xid message).draft ≡ with_rows draft rows)
unfolding all_said
rows_said draft xid message end = by_results draft xid message (results_of xid message) refl end
