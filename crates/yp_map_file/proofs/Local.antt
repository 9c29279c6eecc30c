-- Readings that look at no more than some bytes: they give the same where more is behind these, and at another place.
use Rattle.std.proofs.Common.{◌≡◌, ℕ, ◌+◌, ◌-◌, ◌<◌, ◌≤◌, ℤ, Bool, true, false, cond, eqb, ltb, List, [], ◌++◌}
use Rattle.std.proofs.Common.{length, take, drop, Option, Some, None, Result, Ok, Err, refl, sym, ap, add-zero, ◌∙◌}
use Rattle.std.proofs.Common.{subst, arith, inl, inr}
use Rattle.std.specs.Prelude.{◌⊎◌}
use Rattle.std.specs.Int.{w32, from_be_bytes, cast_signed}
use Rattle.std.proofs.lemmas.Bool.{le-ltb, lt-ltb, ltb-false, ltb-true}
use Rattle.std.proofs.lemmas.List.{length-append, length-take, length-drop, take-append-le, drop-append-le, drop-drop}
use Rattle.std.proofs.lemmas.List.Quantifiers.{position-Some}
use Rattle.yp_xdr.specs.declared.fault.XdrFault.{XdrFault}
use Rattle.yp_xdr.specs.declared.fault.XdrFault.TheVariants.{Short, TooLong, Pad, BadBool, BadEnum}
use Rattle.yp_xdr.specs.Kind.{Kind, Sequence}
use Rattle.yp_xdr.specs.Spelling.{is_one_of, padding_len}
use Rattle.yp_xdr.specs.Reading.{Remaining, past, ◌>>=◌, word_at, bool_at, one_of_at, first_nonzero, padded}
use Rattle.yp_xdr.specs.inside.Reading.{end_of}
use Rattle.yp_xdr.specs.Reading.{content_at, opaque_at, reading}
use Rattle.yp_xdr.specs.Faults.{fault_place}

-- the same bytes and more behind them, n places further on
abbrev pub onward : ℕ → List ℕ → Remaining → Remaining
onward n more left = record { at = n + left.at; bytes = left.bytes ++ more }

-- a fault n places further on
abbrev pub shifted : ℕ → XdrFault → XdrFault
shifted n (Short at) = Short (n + at)
shifted n (TooLong at len) = TooLong (n + at) len
shifted n (Pad at) = Pad (n + at)
shifted n (BadBool at) = BadBool (n + at)
shifted n (BadEnum at) = BadEnum (n + at)

-- what a reading gives there
abbrev pub moved : {V : Type 0} → ℕ → List ℕ → Result (V × Remaining) XdrFault → Result (V × Remaining) XdrFault
moved n more (Ok read) = Ok (read.0, onward n more read.1)
moved n more (Err fault) = Err (shifted n fault)

-- some of the first bytes were read, from min to max of them
pub record IsCut (min max : ℕ) (left rest : Remaining) : Type 0 where
  pub count : ℕ
  pub least : min ≤ count
  pub most : count ≤ max
  pub there : count ≤ length left.bytes
  pub cut : rest ≡ past count left

-- A reading takes from min to max bytes, or finds its fault among those that there are.
abbrev pub Cuts : {V : Type 0} → ℕ → ℕ → Remaining → Result (V × Remaining) XdrFault → Type 0
Cuts min max left (Ok read) = IsCut min max left read.1
Cuts min max left (Err fault) = fault_place fault ≤ end_of left

-- There are as many bytes, or nothing is behind those that there are.
abbrev pub Enough : ℕ → Remaining → List ℕ → Type 0
Enough max left more = (max ≤ length left.bytes) ⊎ (more ≡ [])

pub enough_less : (less max : ℕ) (left : Remaining) (more : List ℕ) → less ≤ max → Enough max left more
    → Enough less left more
enough_less less max left more low (inl there) = inl (omega arith)
enough_less less max left more low (inr none) = inr none

pub enough_behind : (first second : ℕ) (left rest : Remaining) (more : List ℕ)
    → length left.bytes ≤ length rest.bytes + first → Enough (first + second) left more → Enough second rest more
enough_behind first second left rest more leaves (inl there) = inl (omega arith)
enough_behind first second left rest more leaves (inr none) = inr none

-- A reading looks at no more than max bytes, and takes at least min.
pub record IsLocal {V : Type 0} (min max : ℕ) (read : Remaining → Result (V × Remaining) XdrFault) : Type 0 where
  pub moves : (n : ℕ) (more : List ℕ) (left : Remaining) → Enough max left more
      → read (onward n more left) ≡ moved n more (read left)
  pub cuts : (left : Remaining) → Cuts min max left (read left)

-- ---- one reading after another

-- the second goes on where the first ended
bind_moved : {A B : Type 0} (n : ℕ) (more : List ℕ) (first : Result (A × Remaining) XdrFault)
    (f f' : A × Remaining → Result (B × Remaining) XdrFault)
    → ((read : A × Remaining) → first ≡ Ok read → f' (read.0, onward n more read.1) ≡ moved n more (f read))
    → (moved n more first >>= f') ≡ moved n more (first >>= f)
bind_moved n more (Ok read) f f' h = h read refl
bind_moved n more (Err fault) f f' h = refl

-- what is cut twice
cut_twice : (min max min' max' : ℕ) (left mid rest : Remaining) → IsCut min max left mid → IsCut min' max' mid rest
    → IsCut (min + min') (max + max') left rest
cut_twice min max min' max' left mid rest one other =
    let len : length mid.bytes ≡ length left.bytes - one.count =
    ap (λ (u : Remaining). length u.bytes) one.cut ∙ length-drop one.count left.bytes in
    let oc = one.count in
    let both : past other.count (past one.count left) ≡ past (one.count + other.count) left =
    let place : left.at + one.count + other.count ≡ left.at + (one.count + other.count) = omega arith in
    rw (place, drop-drop other.count one.count left.bytes) refl in
    record {
      count = one.count + other.count;
      least = omega (arith, one.least, other.least);
      most = omega (arith, one.most, other.most);
      there = omega (arith, len, one.there, other.there);
      cut = other.cut ∙ ap (past other.count) one.cut ∙ both;
    }

-- the end stays
cut_end : (min max : ℕ) (left rest : Remaining) → IsCut min max left rest → end_of rest ≡ end_of left
cut_end min max left rest one =
    omega (
      arith,
      ap (λ (u : Remaining). u.at) one.cut,
      ap
          (λ (u : Remaining). length u.bytes) one.cut,
      length-drop one.count left.bytes,
      one.there,
    )

pub cuts_behind : {B : Type 0} (min max min' max' : ℕ) (left mid : Remaining) (second : Result (B × Remaining) XdrFault)
    → IsCut min max left mid → Cuts min' max' mid second → Cuts (min + min') (max + max') left second
cuts_behind min max min' max' left mid (Ok read) one other = cut_twice min max min' max' left mid read.1 one other
cuts_behind min max min' max' left mid (Err fault) one other =
    let e = cut_end min max left mid one in omega (arith, e, other)

bind_cuts : {A B : Type 0} (min max min' max' : ℕ) (left : Remaining) (first : Result (A × Remaining) XdrFault)
    (f : A × Remaining → Result (B × Remaining) XdrFault)
    → Cuts min max left first → ((read : A × Remaining) → first ≡ Ok read → Cuts min' max' read.1 (f read))
    → Cuts (min + min') (max + max') left (first >>= f)
bind_cuts min max min' max' left (Ok read) f one h =
    cuts_behind min max min' max' left read.1 (f read) one (h read refl)
bind_cuts min max min' max' left (Err fault) f one h = one

-- how many bytes are left
cut_leaves : {A : Type 0} (min max : ℕ) (left : Remaining) (first : Result (A × Remaining) XdrFault) (read : A × Remaining)
    → Cuts min max left first → first ≡ Ok read → length left.bytes ≤ length read.1.bytes + max
cut_leaves {A = A} min max left first read one is =
    let c : IsCut min max left read.1 = let P : Result (A × Remaining) XdrFault → Type 0 =
    λ r. Cuts min max left r in subst P is one in
    omega (arith, ap (λ (u : Remaining). length u.bytes) c.cut, length-drop c.count left.bytes, c.there, c.most)

-- a reading behind another
pub local_then : {A B : Type 0} (min max min' max' : ℕ) (read : Remaining → Result (A × Remaining) XdrFault)
    (f : A → Remaining → Result (B × Remaining) XdrFault)
    → IsLocal min max read → ((value : A) → IsLocal min' max' (f value))
    → IsLocal (min + min') (max + max') (λ left. read left >>= (λ one. f one.0 one.1))
local_then min max min' max' read f one other = record {
  moves = λ n more left enough.
      ap (λ r. r >>= (λ x. f x.0 x.1))
      (one.moves n more left (enough_less max (max + max') left more (omega arith) enough))
      ∙ bind_moved n more (read left) (λ x. f x.0 x.1) (λ x. f x.0 x.1)
      (λ x is. let c = cut_leaves min max left (read left) x (one.cuts left) is in
      (other x.0).moves n more x.1 (enough_behind max max' left x.1 more c enough));
  cuts = λ left. bind_cuts min max min' max' left (read left) (λ x. f x.0 x.1) (one.cuts left)
      (λ x is. (other x.0).cuts x.1);
}

-- nothing more is read
pub local_ok : {V : Type 0} (value : V) → IsLocal 0 0 (λ left. Ok (value, left))
local_ok value = record {
  moves = λ n more left enough. refl;
  cuts = λ left. record {
    count = 0;
    least = omega arith;
    most = omega arith;
    there = omega arith;
    cut =
        ap (λ (k : ℕ). record { at = k; bytes = left.bytes }) (sym (add-zero left.at));
  };
}

-- one reading or another
pub local_choice : {V : Type 0} (min max : ℕ) (b : Bool) (one other : Remaining → Result (V × Remaining) XdrFault)
    → IsLocal min max one → IsLocal min max other
    → IsLocal min max (λ left. cond b (one left) (other left))
local_choice min max true one other h k = h
local_choice min max false one other h k = k

pub cuts_wider : {V : Type 0} (min max min' max' : ℕ) (left : Remaining) (read : Result (V × Remaining) XdrFault)
    → min' ≤ min → max ≤ max' → Cuts min max left read → Cuts min' max' left read
cuts_wider min max min' max' left (Ok read) low high c =
    record {
      count = c.count;
      least = omega (arith, c.least);
      most = omega
          (arith, c.most);
      there = c.there;
      cut = c.cut;
    }
cuts_wider min max min' max' left (Err fault) low high c = c

pub local_wider : {V : Type 0} (min max min' max' : ℕ) (read : Remaining → Result (V × Remaining) XdrFault) → min' ≤ min
    → max ≤ max' → IsLocal min max read → IsLocal min' max' read
local_wider min max min' max' read low high h = record {
  moves = λ n more left enough. h.moves n more left (enough_less max max' left more high enough);
  cuts = λ left. cuts_wider min max min' max' left (read left) low high (h.cuts left);
}

-- ---- the kinds

-- the first n bytes
cut_front : (n : ℕ) (left : Remaining) → n ≤ length left.bytes → IsCut n n left (past n left)
cut_front n left there = record { count = n; least = omega arith; most = omega arith; there = there; cut = refl }

word_move : (n : ℕ) (more : List ℕ) (left : Remaining) (b : Bool) → ltb (length left.bytes) 4 ≡ b → Enough 4 left more
    → word_at (onward n more left) ≡ moved n more (word_at left)
unfolding word_at
word_move n more left true e (inl enough) = absurd (omega (arith, ltb-true _ _ e))
word_move n more left true e (inr none) =
    let there : ltb (length (left.bytes ++ more)) 4 ≡ true =
    lt-ltb _ _ (omega (arith, ltb-true _ _ e, length-append left.bytes more, ap length none)) in
    rw (e, there) refl
word_move n more left false e enough =
    let whole : 4 ≤ length left.bytes = ltb-false _ _ e in
    let there : ltb (length (left.bytes ++ more)) 4 ≡ false =
    le-ltb _ _ (omega (arith, length-append left.bytes more)) in
    let place : n + left.at + 4 ≡ n + (left.at + 4) = omega arith in
    rw (e, there, take-append-le 4 left.bytes more whole, drop-append-le 4 left.bytes more whole, place) refl

word_moves : (n : ℕ) (more : List ℕ) (left : Remaining) → Enough 4 left more
    → word_at (onward n more left) ≡ moved n more (word_at left)
word_moves n more left enough = word_move n more left _ refl enough

word_cut : (left : Remaining) (b : Bool) → ltb (length left.bytes) 4 ≡ b
    → Cuts 4 4 left (cond b (Err (Short left.at)) (Ok (from_be_bytes w32 (take 4 left.bytes), past 4 left)))
word_cut left true e = omega arith
word_cut left false e = cut_front 4 left (ltb-false _ _ e)

word_cuts : (left : Remaining) → Cuts 4 4 left (word_at left)
unfolding word_at
word_cuts left = word_cut left (ltb (length left.bytes) 4) refl

pub local_word : IsLocal 4 4 word_at
local_word = record { moves = word_moves; cuts = word_cuts }

-- what a word says as a boolean, of an item at a place
abbrev bool_by : ℕ → ℕ × Remaining → Result (Bool × Remaining) XdrFault
bool_by at word = cond (eqb word.0 0) (Ok (false, word.1)) (cond (eqb word.0 1) (Ok (true, word.1)) (Err (BadBool at)))

bool_by_moves : (at n : ℕ) (more : List ℕ) (word : ℕ × Remaining) (b c : Bool) → eqb word.0 0 ≡ b → eqb word.0 1 ≡ c
    → bool_by (n + at) (word.0, onward n more word.1) ≡ moved n more (bool_by at word)
bool_by_moves at n more word true c e f = rw e refl
bool_by_moves at n more word false true e f = rw (e, f) refl
bool_by_moves at n more word false false e f = rw (e, f) refl

bool_by_cuts : (at : ℕ) (word : ℕ × Remaining) (b c : Bool) → eqb word.0 0 ≡ b → eqb word.0 1 ≡ c → at ≤ end_of word.1
    → Cuts 0 0 word.1 (bool_by at word)
bool_by_cuts at word true c e f within = rw e ((local_ok false).cuts word.1)
bool_by_cuts at word false true e f within = rw (e, f) ((local_ok true).cuts word.1)
bool_by_cuts at word false false e f within = rw (e, f) within

-- the place of an item is before the end of what is left behind its word
word_within : (left : Remaining) (read : ℕ × Remaining) → word_at left ≡ Ok read → left.at ≤ end_of read.1
word_within left read is =
    let c : IsCut 4 4 left read.1 = let P : Result (ℕ × Remaining) XdrFault → Type 0 =
    λ r. Cuts 4 4 left r in subst P is (word_cuts left) in
    let e = cut_end 4 4 left read.1 c in omega (arith, e)

bool_moves : (n : ℕ) (more : List ℕ) (left : Remaining) → Enough 4 left more
    → bool_at (onward n more left) ≡ moved n more (bool_at left)
unfolding bool_at
bool_moves n more left enough =
    ap (λ r. r >>= bool_by (n + left.at)) (word_moves n more left enough)
    ∙ bind_moved n more (word_at left) (bool_by left.at) (bool_by (n + left.at))
    (λ word is. bool_by_moves left.at n more word _ _ refl refl)

bool_cuts : (left : Remaining) → Cuts 4 4 left (bool_at left)
unfolding bool_at
bool_cuts left = bind_cuts 4 4 0 0 left (word_at left) (bool_by left.at) (word_cuts left)
    (λ word is. bool_by_cuts left.at word _ _ refl refl (word_within left word is))

pub local_bool : IsLocal 4 4 bool_at
local_bool = record { moves = bool_moves; cuts = bool_cuts }

-- what a word says as a number of an enum
abbrev one_of_by : List ℤ → ℕ → ℤ × Remaining → Result (ℤ × Remaining) XdrFault
one_of_by allowed at number = cond (is_one_of allowed number.0) (Ok number) (Err (BadEnum at))

abbrev signed_by : ℕ × Remaining → Result (ℤ × Remaining) XdrFault
signed_by word = Ok (cast_signed w32 word.0, word.1)

one_of_by_moves : (allowed : List ℤ) (at n : ℕ) (more : List ℕ) (number : ℤ × Remaining) (b : Bool)
    → is_one_of allowed number.0 ≡ b
    → one_of_by allowed (n + at) (number.0, onward n more number.1) ≡ moved n more (one_of_by allowed at number)
one_of_by_moves allowed at n more number true e = rw e refl
one_of_by_moves allowed at n more number false e = rw e refl

one_of_by_cuts : (allowed : List ℤ) (at : ℕ) (number : ℤ × Remaining) (b : Bool) → is_one_of allowed number.0 ≡ b
    → at ≤ end_of number.1 → Cuts 0 0 number.1 (one_of_by allowed at number)
one_of_by_cuts allowed at number true e within = rw e ((local_ok number.0).cuts number.1)
one_of_by_cuts allowed at number false e within = rw e within

one_of_moves : (allowed : List ℤ) (n : ℕ) (more : List ℕ) (left : Remaining) → Enough 4 left more
    → one_of_at allowed (onward n more left) ≡ moved n more (one_of_at allowed left)
unfolding one_of_at
one_of_moves allowed n more left enough =
    ap (λ r. r >>= signed_by >>= one_of_by allowed (n + left.at)) (word_moves n more left enough)
    ∙ ap (λ r. r >>= one_of_by allowed (n + left.at))
    (bind_moved n more (word_at left) signed_by signed_by (λ word is. refl))
    ∙ bind_moved n more (word_at left >>= signed_by) (one_of_by allowed left.at) (one_of_by allowed (n + left.at))
    (λ number is. one_of_by_moves allowed left.at n more number _ refl)

signed_within : (left : Remaining) (first : Result (ℕ × Remaining) XdrFault) (number : ℤ × Remaining) → Cuts 4 4 left first
    → (first >>= signed_by) ≡ Ok number → left.at ≤ end_of number.1
signed_within left (Ok word) number c is =
    let same : word.1 ≡ number.1 = let e : (cast_signed w32 word.0, word.1) ≡ number =
    cc in ap (λ (x : ℤ × Remaining). x.1) e in
    let e = cut_end 4 4 left word.1 c in omega (arith, e, ap end_of same)
signed_within left (Err fault) number c is = absurd cc

one_of_cuts : (allowed : List ℤ) (left : Remaining) → Cuts 4 4 left (one_of_at allowed left)
unfolding one_of_at
one_of_cuts allowed left =
    let signed : Cuts 4 4 left (word_at left >>= signed_by) =
    bind_cuts 4 4 0 0 left (word_at left) signed_by (word_cuts left)
    (λ word is. (local_ok (cast_signed w32 word.0)).cuts word.1) in
    bind_cuts 4 4 0 0 left (word_at left >>= signed_by) (one_of_by allowed left.at) signed
    (λ number is. one_of_by_cuts allowed left.at number _ refl
    (signed_within left (word_at left) number (word_cuts left) is))

pub local_one_of : (allowed : List ℤ) → IsLocal 4 4 (one_of_at allowed)
local_one_of allowed = record { moves = one_of_moves allowed; cuts = one_of_cuts allowed }

-- bytes and their padding, where the place of a byte that isn't zero is known
padded_moves : (k n : ℕ) (more : List ℕ) (left : Remaining) (place : Option ℕ) → k + padding_len k ≤ length left.bytes
    → padded k (onward n more left) place ≡ moved n more (padded k left place)
padded_moves k n more left None there =
    let len = k + padding_len k in
    let at : n + left.at + len ≡ n + (left.at + len) = omega arith in
    rw (take-append-le k left.bytes more (omega arith), drop-append-le len left.bytes more there, at) refl
padded_moves k n more left (Some place) there = ap (λ (at : ℕ). Err (Pad at)) (omega arith)

padded_cuts : (k : ℕ) (left : Remaining) (place : Option ℕ) → k + padding_len k ≤ length left.bytes
    → ((i : ℕ) → place ≡ Some i → i < padding_len k)
    → Cuts 0 (k + padding_len k) left (padded k left place)
padded_cuts k left None there within =
    record { count = k + padding_len k; least = omega arith; most = omega arith; there = there; cut = refl }
padded_cuts k left (Some place) there within = omega (arith, within place refl)

content_move : (start k n : ℕ) (more : List ℕ) (left : Remaining) (b : Bool)
    → ltb (length left.bytes) (k + padding_len k) ≡ b → Enough (k + padding_len k) left more
    → content_at (n + start) k (onward n more left) ≡ moved n more (content_at start k left)
unfolding content_at
content_move start k n more left true e (inl enough) = absurd (omega (arith, ltb-true _ _ e))
content_move start k n more left true e (inr none) =
    let there : ltb (length (left.bytes ++ more)) (k + padding_len k) ≡ true =
    lt-ltb _ _ (omega (arith, ltb-true _ _ e, length-append left.bytes more, ap length none)) in
    rw (e, there) refl
content_move start k n more left false e enough =
    let pad = padding_len k in
    let whole : k + pad ≤ length left.bytes = ltb-false _ _ e in
    let there : ltb (length (left.bytes ++ more)) (k + pad) ≡ false =
    le-ltb _ _ (omega (arith, length-append left.bytes more)) in
    let zeros : take pad (drop k (left.bytes ++ more)) ≡ take pad (drop k left.bytes) =
    ap (take pad) (drop-append-le k left.bytes more (omega arith))
    ∙ take-append-le pad (drop k left.bytes) more (omega (arith, length-drop k left.bytes)) in
    rw (e, there, zeros) (padded_moves k n more left (first_nonzero (take pad (drop k left.bytes))) whole)

content_cut : (start k : ℕ) (left : Remaining) (b : Bool) → ltb (length left.bytes) (k + padding_len k) ≡ b
    → start ≤ end_of left
    → Cuts 0 (k + padding_len k) left
    (cond b (Err (Short start)) (padded k left (first_nonzero (take (padding_len k) (drop k left.bytes)))))
content_cut start k left true e within = within
content_cut start k left false e within =
    padded_cuts k left _ (ltb-false _ _ e)
    (λ i is. let p = position-Some _ (take (padding_len k) (drop k left.bytes)) i 0 is in
    omega (arith, p.0, length-take (padding_len k) (drop k left.bytes)))

content_cuts : (start k : ℕ) (left : Remaining) → start ≤ end_of left
    → Cuts 0 (k + padding_len k) left (content_at start k left)
unfolding content_at
content_cuts start k left within = content_cut start k left _ refl within

-- opaque bytes of a length that was read, of an item at a place
abbrev opaque_by : ℕ → ℕ → ℕ × Remaining → Result (List ℕ × Remaining) XdrFault
opaque_by max at len = cond (ltb max len.0) (Err (TooLong at len.0)) (content_at at len.0 len.1)

opaque_by_moves : (max at n : ℕ) (more : List ℕ) (len : ℕ × Remaining) (b : Bool) → ltb max len.0 ≡ b
    → (b ≡ false → Enough (len.0 + padding_len len.0) len.1 more)
    → opaque_by max (n + at) (len.0, onward n more len.1) ≡ moved n more (opaque_by max at len)
opaque_by_moves max at n more len true e enough = rw e refl
opaque_by_moves max at n more len false e enough = rw e (content_move at len.0 n more len.1 _ refl (enough refl))

opaque_by_cuts : (max size at : ℕ) (len : ℕ × Remaining) (b : Bool) → ltb max len.0 ≡ b
    → (b ≡ false → len.0 + padding_len len.0 ≤ size) → at ≤ end_of len.1 → Cuts 0 size len.1 (opaque_by max at len)
opaque_by_cuts max size at len true e enough within = rw e within
opaque_by_cuts max size at len false e enough within =
    rw e (cuts_wider 0 (len.0 + padding_len len.0) 0 size len.1 _ (omega arith) (enough refl)
    (content_cuts at len.0 len.1 within))

-- as many bytes as some length takes with its padding
abbrev pub Takes : ℕ → ℕ → Type 0
Takes max size = (k : ℕ) → k ≤ max → k + padding_len k ≤ size

opaque_moves : (max size : ℕ) → Takes max size → (n : ℕ) (more : List ℕ) (left : Remaining) → Enough (4 + size) left more
    → opaque_at max (onward n more left) ≡ moved n more (opaque_at max left)
unfolding opaque_at
opaque_moves max size takes n more left enough =
    ap (λ r. r >>= opaque_by max (n + left.at))
    (word_moves n more left (enough_less 4 (4 + size) left more (omega arith) enough))
    ∙ bind_moved n more (word_at left) (opaque_by max left.at) (opaque_by max (n + left.at))
    (λ len is. opaque_by_moves max left.at n more len _ refl
    (λ short. enough_less (len.0 + padding_len len.0) size len.1 more (takes len.0 (ltb-false _ _ short))
    (enough_behind 4 size left len.1 more (cut_leaves 4 4 left (word_at left) len (word_cuts left) is) enough)))

opaque_cuts : (max size : ℕ) → Takes max size → (left : Remaining) → Cuts 4 (4 + size) left (opaque_at max left)
unfolding opaque_at
opaque_cuts max size takes left =
    bind_cuts 4 4 0 size left (word_at left) (opaque_by max left.at) (word_cuts left)
    (λ len is. opaque_by_cuts max size left.at len _ refl (λ short. takes len.0 (ltb-false _ _ short))
    (word_within left len is))

pub local_opaque : (max size : ℕ) → Takes max size → IsLocal 4 (4 + size) (opaque_at max)
local_opaque max size takes = record { moves = opaque_moves max size takes; cuts = opaque_cuts max size takes }

-- two values
pub local_sequence : (min max min' max' : ℕ) (first second : Kind) → IsLocal min max (reading first)
    → IsLocal min' max' (reading second) → IsLocal (min + min') (max + max') (reading (Sequence first second))
local_sequence min max min' max' first second one other =
    local_wider (min + (min' + 0)) (max + (max' + 0)) (min + min') (max + max') (reading (Sequence first second))
    (omega arith) (omega arith)
    (local_then min max (min' + 0) (max' + 0) (reading first)
    (λ value left. reading second left >>= (λ two. Ok ((value, two.0), two.1))) one
    (λ value. local_then min' max' 0 0 (reading second) (λ two left. Ok ((value, two), left)) other
    (λ two. local_ok (value, two))))
