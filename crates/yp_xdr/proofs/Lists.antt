-- Optional values and lists, by what holds of the kind that they are made of.
use Rattle.std.proofs.Common.{◌≡◌, ℕ, zero, suc, ◌+◌, ◌<◌, ◌≤◌, Bool, true, false, cond, List, [], ◌∷◌, ◌++◌, length}
use Rattle.std.proofs.Common.{Option, Some, None, Result, Ok, Err, refl, sym, ap, subst, ◌∙◌, append_assoc, arith}
use Rattle.std.proofs.Common.{lit<}
use Rattle.std.specs.Prelude.{All, flat_map}
use Rattle.std.proofs.lemmas.List.{length-append}
use Rattle.std.proofs.lemmas.List.Elements.{All-cons, All-nil}
use Rattle.yp_xdr.specs.declared.fault.XdrFault.{XdrFault}
use Rattle.yp_xdr.specs.declared.fault.XdrFault.TheVariants.{Short}
use Rattle.yp_xdr.specs.Kind.{Kind, Boolean, Optional, ListOf, Value}
use Rattle.yp_xdr.specs.Spelling.{word, truth, present, spelling}
use Rattle.yp_xdr.specs.inside.Spelling.{Fits}
use Rattle.yp_xdr.specs.Reading.{Remaining, ◌>>=◌, bool_at, some_at, cons_at, elements_at, list_at, reading}
use Rattle.yp_xdr.specs.inside.Reading.{BeginsWith}
use Rattle.yp_xdr.specs.inside.Reading.{IsBytes}
use Rattle.yp_xdr.proofs.Words.{bind_ok, ok_is, IsBytes-behind}
use Rattle.yp_xdr.proofs.Items.{bool_again, bool_takes, bool_short}

-- what is spelled is read again, for one kind
abbrev pub Again : Kind → Type 0
Again kind = (value : Value kind) (at : ℕ) (rest : List ℕ) → Fits kind value
    → reading kind (record { at = at; bytes = spelling kind value ++ rest })
    ≡ Ok (value, record { at = at + length (spelling kind value); bytes = rest })

-- what is read is spelled, for one kind
abbrev pub Takes : Kind → Type 0
Takes kind = (old new : Remaining) (value : Value kind) → IsBytes old.bytes → reading kind old ≡ Ok (value, new)
    → BeginsWith kind value old new

-- ---- optional values

pub optional_again : (kind : Kind) → Again kind → Again (Optional kind)
optional_again kind again None at rest fits = rw (bool_again false at rest) refl
optional_again kind again (Some value) at rest fits =
    let a = spelling kind value in
    let split : (word 1 ++ a) ++ rest ≡ word 1 ++ (a ++ rest) = append_assoc (word 1) a rest in
    let end : at + 4 + length a ≡ at + length (word 1 ++ a) = omega (arith, length-append (word 1) a) in
    rw (split, bool_again true at (a ++ rest), again value (at + 4) rest fits)
    (ap (λ (k : ℕ). Ok (Some value, record { at = k; bytes = rest })) end)

-- what a boolean decides
pub cond_ok : {A : Type 0} (b : Bool) (one other : Result A XdrFault) (y : A) (P : Type 0) → cond b one other ≡ Ok y
    → (b ≡ true → one ≡ Ok y → P) → (b ≡ false → other ≡ Ok y → P) → P
cond_ok true one other y P e on_true on_false = on_true refl e
cond_ok false one other y P e on_true on_false = on_false refl e

begins_none : (kind : Kind) (b : Bool) (old new : Remaining) → b ≡ false → BeginsWith Boolean b old new
    → BeginsWith (Optional kind) None old new
begins_none kind b old new is one = record {
  front = one.front;
  spells = record { fits = tt; spelled = one.spells.spelled ∙ ap (λ (k : Bool). word (truth k)) is };
  parts = one.parts;
  place = one.place;
}

begins_some : (kind : Kind) (b : Bool) (v : Value kind) (old mid new : Remaining) → b ≡ true
    → BeginsWith Boolean b old mid → BeginsWith kind v mid new → BeginsWith (Optional kind) (Some v) old new
begins_some kind b v old mid new is one other = record {
  front = one.front ++ other.front;
  spells = record {
    fits = other.spells.fits;
    spelled =
        ap (λ (xs : List ℕ). xs ++ other.front) (one.spells.spelled ∙ ap (λ (k : Bool). word (truth k)) is)
        ∙ ap (λ (xs : List ℕ). word 1 ++ xs) other.spells.spelled;
  };
  parts = one.parts ∙ ap (λ (xs : List ℕ). one.front ++ xs) other.parts
      ∙ sym (append_assoc one.front other.front new.bytes);
  place = omega (arith, one.place, other.place, length-append one.front other.front);
}

pub optional_takes : (kind : Kind) → Takes kind → Takes (Optional kind)
optional_takes kind takes old new value are_bytes e =
    let b = bind_ok (bool_at old) (λ more. cond more.0 (some_at (reading kind) more.1) (Ok (None, more.1)))
    (value, new) e in
    let flag = bool_takes old b.0.1 b.0.0 are_bytes b.1 in
    let P : Option (Value kind) × Remaining → Type 0 = λ y. BeginsWith (Optional kind) y.0 old y.1 in
    cond_ok b.0.0 (some_at (reading kind) b.0.1) (Ok (None, b.0.1)) (value, new) (P (value, new)) b.2
    (λ is h.
    let s = bind_ok (reading kind b.0.1) (λ one. Ok (Some one.0, one.1)) (value, new) h in
    let rest = IsBytes-behind old.bytes flag.front b.0.1.bytes flag.parts are_bytes in
    subst P (ok_is (Some s.0.0, s.0.1) (value, new) _ _ refl refl s.2)
    (begins_some kind b.0.0 s.0.0 old b.0.1 s.0.1 is flag (takes b.0.1 s.0.1 s.0.0 rest s.1)))
    (λ is h. subst P (ok_is (None, b.0.1) (value, new) _ _ refl refl h) (begins_none kind b.0.0 old b.0.1 is flag))

-- ---- lists

-- a list has more bytes than elements
pub list_len : (kind : Kind) (values : List (Value kind)) → length values < length (spelling (ListOf kind) values)
list_len kind [] = lit< tt
list_len kind (v ∷ values) =
    let a = present (spelling kind) v in
    let b = flat_map (present (spelling kind)) values in
    omega (
      arith,
      list_len kind values,
      length-append (a ++ b) (word 0),
      length-append a b,
      length-append (word 1)
          (spelling kind v),
      length-append b (word 0),
    )

-- the spelling of a list begins with that of its first element
list_split : (kind : Kind) (v : Value kind) (values : List (Value kind))
    → spelling (ListOf kind) (v ∷ values) ≡ word 1 ++ (spelling kind v ++ spelling (ListOf kind) values)
list_split kind v values =
    let a = present (spelling kind) v in
    append_assoc a (flat_map (present (spelling kind)) values) (word 0)
    ∙ append_assoc (word 1) (spelling kind v) (spelling (ListOf kind) values)

list_again_in : (kind : Kind) → Again kind → (values : List (Value kind)) (n at : ℕ) (rest : List ℕ)
    → All (Fits kind) values → length values < n
    → list_at (reading kind) n (record { at = at; bytes = spelling (ListOf kind) values ++ rest })
    ≡ Ok (values, record { at = at + length (spelling (ListOf kind) values); bytes = rest })
list_again_in kind again values zero at rest fit few = absurd (omega arith)
list_again_in kind again [] (suc n) at rest fit few = rw (bool_again false at rest) refl
list_again_in kind again (v ∷ values) (suc n) at rest fit few =
    let a = spelling kind v in
    let b = spelling (ListOf kind) values in
    let split : spelling (ListOf kind) (v ∷ values) ++ rest ≡ word 1 ++ (a ++ (b ++ rest)) =
    ap (λ (xs : List ℕ). xs ++ rest) (list_split kind v values) ∙ append_assoc (word 1) (a ++ b) rest
    ∙ ap (λ (xs : List ℕ). word 1 ++ xs) (append_assoc a b rest) in
    let end : at + 4 + length a + length b ≡ at + length (spelling (ListOf kind) (v ∷ values)) =
    omega (arith, ap length (list_split kind v values), length-append (word 1) (a ++ b), length-append a b) in
    let first : Fits kind v = fit 0 v (omega arith) in
    let others : All (Fits kind) values = λ k d lt. fit (suc k) d (omega arith) in
    let P : List ℕ → Type 0 =
    λ bytes. list_at (reading kind) (suc n) (record { at = at; bytes = bytes })
    ≡ Ok (v ∷ values, record { at = at + length (spelling (ListOf kind) (v ∷ values)); bytes = rest }) in
    subst P (sym split) (rw (
      bool_again true at (a ++ (b ++ rest)),
      again v (at + 4)
          (b ++ rest) first,
      list_again_in kind again values n (at + 4 + length a) rest others (omega arith),
    )
    (ap (λ (k : ℕ). Ok (v ∷ values, record { at = k; bytes = rest })) end))

pub list_again : (kind : Kind) → Again kind → Again (ListOf kind)
list_again kind again values at rest fit =
    let bytes = spelling (ListOf kind) values ++ rest in
    list_again_in kind again values (length bytes) at rest fit
    (omega (arith, list_len kind values, length-append (spelling (ListOf kind) values) rest))

begins_nil : (kind : Kind) (b : Bool) (old new : Remaining) → b ≡ false → BeginsWith Boolean b old new
    → BeginsWith (ListOf kind) [] old new
begins_nil kind b old new is one = record {
  front = one.front;
  spells = record { fits = All-nil (Fits kind); spelled = one.spells.spelled ∙ ap (λ (k : Bool). word (truth k)) is };
  parts = one.parts;
  place = one.place;
}

begins_cons : (kind : Kind) (b : Bool) (v : Value kind) (values : List (Value kind)) (old mid half new : Remaining)
    → b ≡ true
    → BeginsWith Boolean b old mid → BeginsWith kind v mid half → BeginsWith (ListOf kind) values half new
    → BeginsWith (ListOf kind) (v ∷ values) old new
begins_cons kind b v values old mid half new is flag one others =
    let front : flag.front ≡ word 1 = flag.spells.spelled ∙ ap (λ (k : Bool). word (truth k)) is in
    let whole = flag.front ++ (one.front ++ others.front) in
    record {
      front = whole;
      spells = record {
        fits = All-cons (Fits kind) v values one.spells.fits others.spells.fits;
        spelled = rw (front, one.spells.spelled, others.spells.spelled) (sym (list_split kind v values));
      };
      parts = flag.parts ∙ ap (λ (xs : List ℕ). flag.front ++ xs)
          (one.parts ∙ ap (λ (xs : List ℕ). one.front ++ xs) others.parts
          ∙ sym (append_assoc one.front others.front new.bytes))
          ∙ sym (append_assoc flag.front (one.front ++ others.front) new.bytes);
      place = omega (
        arith,
        flag.place,
        one.place,
        others.place,
        length-append flag.front
            (one.front ++ others.front),
        length-append one.front others.front,
      );
    }

list_takes_in : (kind : Kind) → Takes kind → (n : ℕ) (old new : Remaining) (values : List (Value kind))
    → IsBytes old.bytes → list_at (reading kind) n old ≡ Ok (values, new) → BeginsWith (ListOf kind) values old new
list_takes_in kind takes zero old new values are_bytes e = absurd cc
list_takes_in kind takes (suc n) old new values are_bytes e =
    let b = bind_ok (bool_at old)
    (λ more. cond more.0 (cons_at (reading kind) (list_at (reading kind) n) more.1) (Ok ([], more.1)))
    (values, new) e in
    let flag = bool_takes old b.0.1 b.0.0 are_bytes b.1 in
    let rest = IsBytes-behind old.bytes flag.front b.0.1.bytes flag.parts are_bytes in
    let P : List (Value kind) × Remaining → Type 0 = λ y. BeginsWith (ListOf kind) y.0 old y.1 in
    cond_ok b.0.0 (cons_at (reading kind) (list_at (reading kind) n) b.0.1) (Ok ([], b.0.1)) (values, new)
    (P (values, new)) b.2
    (λ is h.
    let s = bind_ok (reading kind b.0.1)
    (λ one. list_at (reading kind) n one.1 >>= λ others. Ok (one.0 ∷ others.0, others.1)) (values, new) h in
    let t = bind_ok (list_at (reading kind) n s.0.1) (λ others. Ok (s.0.0 ∷ others.0, others.1)) (values, new) s.2 in
    let one = takes b.0.1 s.0.1 s.0.0 rest s.1 in
    let others = list_takes_in kind takes n s.0.1 t.0.1 t.0.0
    (IsBytes-behind b.0.1.bytes one.front s.0.1.bytes one.parts rest) t.1 in
    subst P (ok_is (s.0.0 ∷ t.0.0, t.0.1) (values, new) _ _ refl refl t.2)
    (begins_cons kind b.0.0 s.0.0 t.0.0 old b.0.1 s.0.1 t.0.1 is flag one others))
    (λ is h. subst P (ok_is ([], b.0.1) (values, new) _ _ refl refl h) (begins_nil kind b.0.0 old b.0.1 is flag))

pub list_takes : (kind : Kind) → Takes kind → Takes (ListOf kind)
list_takes kind takes old new values are_bytes e =
    list_takes_in kind takes (length old.bytes) old new values are_bytes e

-- ---- a list in turn

-- steps that agree on what they are given
bind_same : {A B : Type 0} (r : Result A XdrFault) (one other : A → Result B XdrFault)
    → ((x : A) → r ≡ Ok x → one x ≡ other x) → (r >>= one) ≡ (r >>= other)
bind_same (Ok x) one other same = same x refl
bind_same (Err fault) one other same = refl

-- the same of a choice
choice_same : {A : Type 0} (b : Bool) (one other none : A) → (b ≡ true → one ≡ other)
    → cond b one none ≡ cond b other none
choice_same true one other none same = same refl
choice_same false one other none same = refl

-- an element in front of what is read behind it
abbrev joined : {V : Type 0} → (Remaining → Result (List V × Remaining) XdrFault) → V × Remaining
    → Result (List V × Remaining) XdrFault
joined read_others one = read_others one.1 >>= λ others. Ok (one.0 ∷ others.0, others.1)

-- how a list goes on matters only behind its first element
elements_same : (kind : Kind) (left : Remaining) (one other : Remaining → Result (List (Value kind) × Remaining) XdrFault)
    → Takes kind → IsBytes left.bytes
    → ((rest : Remaining) → IsBytes rest.bytes → length rest.bytes < length left.bytes → one rest ≡ other rest)
    → elements_at (reading kind) one left ≡ elements_at (reading kind) other left
elements_same kind left one other takes are_bytes same =
    bind_same (bool_at left) _ _ (λ more e.
    let flag = bool_takes left more.1 more.0 are_bytes e in
    let rest = IsBytes-behind left.bytes flag.front more.1.bytes flag.parts are_bytes in
    let word_len : length flag.front ≡ 4 = ap length flag.spells.spelled in
    let shorter : length more.1.bytes + 4 ≡ length left.bytes =
    omega (arith, ap length flag.parts, length-append flag.front more.1.bytes) in
    choice_same more.0 _ _ (Ok ([], more.1)) (λ _.
    bind_same (reading kind more.1) (joined one) (joined other) (λ v h.
    let b = takes more.1 v.1 v.0 rest h in
    let less : length v.1.bytes < length left.bytes =
    omega (arith, ap length b.parts, length-append b.front v.1.bytes) in
    let behind = same v.1 (IsBytes-behind more.1.bytes b.front v.1.bytes b.parts rest) less in
    ap (λ (answer : Result (List (Value kind) × Remaining) XdrFault). answer >>= λ others. Ok (v.0 ∷ others.0, others.1))
    behind)))

-- where nothing is left, a list isn't whole
elements_short : (kind : Kind) (left : Remaining) (read_others : Remaining → Result (List (Value kind) × Remaining) XdrFault)
    → length left.bytes < 4
    → elements_at (reading kind) read_others left ≡ Err (Short left.at)
elements_short kind left read_others short = rw (bool_short left short) refl

-- more elements than bytes are not asked for
enough : (kind : Kind) → Takes kind → (n m : ℕ) (left : Remaining) → IsBytes left.bytes → length left.bytes ≤ n
    → length left.bytes ≤ m
    → list_at (reading kind) n left ≡ list_at (reading kind) m left
enough kind takes zero zero left are_bytes few many = refl
enough kind takes zero (suc m) left are_bytes few many =
    sym (elements_short kind left (list_at (reading kind) m) (omega arith))
enough kind takes (suc n) zero left are_bytes few many =
    elements_short kind left (list_at (reading kind) n) (omega arith)
enough kind takes (suc n) (suc m) left are_bytes few many =
    elements_same kind left (list_at (reading kind) n) (list_at (reading kind) m) takes are_bytes
    (λ rest rest_bytes less. enough kind takes n m rest rest_bytes (omega arith) (omega arith))

pub list_in_turn : (kind : Kind) → Takes kind → (left : Remaining) → IsBytes left.bytes
    → reading (ListOf kind) left ≡ elements_at (reading kind) (reading (ListOf kind)) left
list_in_turn kind takes left are_bytes =
    let n = length left.bytes in
    enough kind takes n (suc n) left are_bytes (omega arith) (omega arith) ∙
    elements_same kind left (list_at (reading kind) n) (reading (ListOf kind)) takes are_bytes
    (λ rest rest_bytes less. enough kind takes n (length rest.bytes) rest rest_bytes (omega arith) (omega arith))
