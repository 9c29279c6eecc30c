-- What joins writing and reading, by induction on the kind.
use Rattle.std.proofs.Common.{◌≡◌, ℕ, ◌+◌, ◌^◌, ◌<◌, ◌≤◌, false, cond, ltb, List, [], ◌++◌, length, Ok, Err, refl}
use Rattle.std.proofs.Common.{sym, ap, subst, ◌∙◌, append_assoc, arith}
use Rattle.std.proofs.lemmas.Bool.{ltb-false, le-ltb}
use Rattle.std.proofs.lemmas.List.{append-nil, length-append}
use Rattle.yp_xdr.specs.declared.fault.XdrFault.TheVariants.{TooLong}
use Rattle.yp_xdr.specs.Kind.{Kind, U32, I32, Boolean, Enum, Fixed, Opaque, Sequence, Union, Optional, ListOf, Value}
use Rattle.yp_xdr.specs.Spelling.{word, fixed, opaque, spelling}
use Rattle.yp_xdr.specs.inside.Spelling.{Fits}
use Rattle.yp_xdr.specs.Reading.{Remaining, ◌>>=◌, word_at, content_at, opaque_at, reading}
use Rattle.yp_xdr.specs.inside.Reading.{BeginsWith, IsBytes}
use Rattle.yp_xdr.specs.inside.Laws.{OneSpelling, NoSpellingBeginsAnother, WrittenIsReadAgain, ReadIsSpelled}
use Rattle.yp_xdr.specs.inside.Laws.{RefusedIsNotSpelled, ListIsReadInTurn}
use Rattle.yp_xdr.proofs.Words.{bind_ok, guard_ok, ok_is, IsBytes-behind, word_takes, word_again}
use Rattle.yp_xdr.proofs.Items.{signed_again, signed_takes, bool_again, bool_takes, one_of_again, one_of_takes}
use Rattle.yp_xdr.proofs.Items.{fixed_again, fixed_takes}
use Rattle.yp_xdr.proofs.Lists.{optional_again, optional_takes, list_again, list_takes, list_in_turn}
use Rattle.yp_xdr.proofs.Unions.{union_again, union_takes}

-- two spellings of a value are the one that the definition gives
pub one_spelling : OneSpelling
one_spelling kind value a b one other = one.spelled ∙ sym other.spelled

-- ---- what was written is read again

-- opaque bytes that were written are read again
opaque_again : (max at : ℕ) (content rest : List ℕ) → Fits (Opaque max) content
    → opaque_at max (record { at = at; bytes = spelling (Opaque max) content ++ rest })
    ≡ Ok (content, record { at = at + length (spelling (Opaque max) content); bytes = rest })
unfolding opaque_at opaque
opaque_again max at content rest fits =
    let n = length content in
    let behind = fixed content ++ rest in
    let within : ltb max n ≡ false = le-ltb _ _ fits.0 in
    let end : at + 4 + length (fixed content) ≡ at + length (spelling (Opaque max) content) =
    omega (arith, length-append (word n) (fixed content)) in
    rw (word_again n at behind fits.1, within, fixed_again at n (at + 4) content rest refl)
    (ap (λ (k : ℕ). Ok (content, record { at = k; bytes = rest })) end)

-- the spelling of a value that fits is read again
again : (kind : Kind) (value : Value kind) (at : ℕ) (rest : List ℕ) → Fits kind value
    → reading kind (record { at = at; bytes = spelling kind value ++ rest })
    ≡ Ok (value, record { at = at + length (spelling kind value); bytes = rest })
again U32 n at rest fits = word_again n at rest fits
again I32 z at rest fits = signed_again z at rest fits
again Boolean b at rest fits = bool_again b at rest
again (Enum allowed) z at rest fits = one_of_again allowed z at rest fits.0 fits.1
again (Fixed n) content at rest fits = fixed_again at n at content rest fits
again (Opaque max) content at rest fits = opaque_again max at content rest fits
again (Sequence first second) value at rest fits =
    let a = spelling first value.0 in
    let b = spelling second value.1 in
    let split : (a ++ b) ++ rest ≡ a ++ (b ++ rest) = append_assoc a b rest in
    let end : at + length a + length b ≡ at + length (a ++ b) = omega (arith, length-append a b) in
    rw (split, again first value.0 at (b ++ rest) fits.0, again second value.1 (at + length a) rest fits.1)
    (ap (λ (k : ℕ). Ok (value, record { at = k; bytes = rest })) end)
again (Union one first other second) value at rest fits =
    union_again one other first second (again first) (again second) value at rest fits
again (Optional kind) value at rest fits = optional_again kind (again kind) value at rest fits
again (ListOf kind) values at rest fits = list_again kind (again kind) values at rest fits

-- any bytes that spell a value are its spelling
pub written_is_read_again : WrittenIsReadAgain
written_is_read_again kind value bytes rest at spells =
    let P : List ℕ → Type 0 =
    λ xs. reading kind (record { at = at; bytes = xs ++ rest })
    ≡ Ok (value, record { at = at + length xs; bytes = rest }) in
    subst P (sym spells.spelled) (again kind value at rest spells.fits)

-- ---- no spelling begins another

-- both values are what reading the longer spelling gives
pub no_spelling_begins_another : NoSpellingBeginsAnother
no_spelling_begins_another kind v w a b rest one other same =
    let same_bytes : b ++ [] ≡ a ++ rest = append-nil b ∙ sym same in
    let same_answer : reading kind (record { at = 0; bytes = b ++ [] })
    ≡ reading kind (record { at = 0; bytes = a ++ rest }) = ap
    (λ (xs : List ℕ). reading kind (record { at = 0; bytes = xs })) same_bytes in
    let answer_b : Value kind × Remaining = (w, record { at = 0 + length b; bytes = [] }) in
    let answer_a : Value kind × Remaining = (v, record { at = 0 + length a; bytes = rest }) in
    let answer = ok_is answer_b answer_a _ _ same_answer (written_is_read_again kind w b [] 0 other)
    (written_is_read_again kind v a rest 0 one) in
    (sym (ap (λ (y : Value kind × Remaining). y.1.bytes) answer), sym (ap (λ (y : Value kind × Remaining). y.0) answer))

-- ---- what is read is spelled

-- a length and padded content of that length spell the content
begins_opaque : (max n : ℕ) (old mid new : Remaining) (content : List ℕ) → n ≤ max → BeginsWith U32 n old mid
    → BeginsWith (Fixed n) content mid new → BeginsWith (Opaque max) content old new
unfolding opaque
begins_opaque max n old mid new content le one taken =
    let len : length content ≡ n = taken.spells.fits in
    let below : n < 2 ^ 32 = one.spells.fits in
    record {
      front = one.front ++ taken.front;
      spells = record {
        fits = (omega arith, omega arith);
        spelled =
            rw (one.spells.spelled, taken.spells.spelled, len) refl;
      };
      parts = one.parts ∙ ap (λ (xs : List ℕ). one.front ++ xs) taken.parts
          ∙ sym (append_assoc one.front taken.front new.bytes);
      place = omega (arith, one.place, taken.place, length-append one.front taken.front);
    }

-- two values spell their sequence
begins_sequence : (first second : Kind) (v : Value first) (w : Value second) (old mid new : Remaining)
    → BeginsWith first v old mid → BeginsWith second w mid new → BeginsWith (Sequence first second) (v, w) old new
begins_sequence first second v w old mid new one other = record {
  front = one.front ++ other.front;
  spells = record {
    fits = (one.spells.fits, other.spells.fits);
    spelled =
        rw (one.spells.spelled, other.spells.spelled) refl;
  };
  parts = one.parts ∙ ap (λ (xs : List ℕ). one.front ++ xs) other.parts
      ∙ sym (append_assoc one.front other.front new.bytes);
  place = omega (arith, one.place, other.place, length-append one.front other.front);
}

-- opaque bytes that are read are spelled
opaque_takes : (max : ℕ) (old new : Remaining) (content : List ℕ) → IsBytes old.bytes
    → opaque_at max old ≡ Ok (content, new) → BeginsWith (Opaque max) content old new
unfolding opaque_at
opaque_takes max old new content are_bytes e =
    let b = bind_ok (word_at old)
    (λ len. cond (ltb max len.0) (Err (TooLong old.at len.0)) (content_at old.at len.0 len.1)) (content, new) e in
    let g = guard_ok (ltb max b.0.0) (TooLong old.at b.0.0) (content_at old.at b.0.0 b.0.1) (content, new) b.2 in
    begins_opaque max b.0.0 old b.0.1 new content (ltb-false _ _ g.0) (word_takes old b.0.1 b.0.0 are_bytes b.1)
    (fixed_takes old.at b.0.0 b.0.1 new content g.1)

-- each kind reads its parts in turn, and their spellings join
pub read_is_spelled : ReadIsSpelled
read_is_spelled U32 old new value are_bytes e = word_takes old new value are_bytes e
read_is_spelled I32 old new value are_bytes e = signed_takes old new value are_bytes e
read_is_spelled Boolean old new value are_bytes e = bool_takes old new value are_bytes e
read_is_spelled (Enum allowed) old new value are_bytes e = one_of_takes allowed old new value are_bytes e
read_is_spelled (Fixed n) old new value are_bytes e = fixed_takes old.at n old new value e
read_is_spelled (Opaque max) old new value are_bytes e = opaque_takes max old new value are_bytes e
read_is_spelled (Sequence first second) old new value are_bytes e =
    let a = bind_ok (reading first old) (λ one. reading second one.1 >>= λ other. Ok ((one.0, other.0), other.1))
    (value, new) e in
    let b = bind_ok (reading second a.0.1) (λ other. Ok ((a.0.0, other.0), other.1)) (value, new) a.2 in
    let one = read_is_spelled first old a.0.1 a.0.0 are_bytes a.1 in
    let other = read_is_spelled second a.0.1 b.0.1 b.0.0
    (IsBytes-behind old.bytes one.front a.0.1.bytes one.parts are_bytes) b.1 in
    let P : Value (Sequence first second) × Remaining → Type 0 = λ y. BeginsWith (Sequence first second) y.0 old y.1 in
    subst P (ok_is _ (value, new) _ _ refl refl b.2)
    (begins_sequence first second a.0.0 b.0.0 old a.0.1 b.0.1 one other)
read_is_spelled (Union one first other second) old new value are_bytes e =
    union_takes one other first second (read_is_spelled first) (read_is_spelled second) old new value are_bytes e
read_is_spelled (Optional kind) old new value are_bytes e =
    optional_takes kind (read_is_spelled kind) old new value are_bytes e
read_is_spelled (ListOf kind) old new values are_bytes e =
    list_takes kind (read_is_spelled kind) old new values are_bytes e

-- ---- what is refused is not spelled

-- a value that a front spelled would have been read
pub refused_is_not_spelled : RefusedIsNotSpelled
refused_is_not_spelled kind old fault e value front rest spells parts =
    let read : reading kind old ≡ Ok (value, record { at = old.at + length front; bytes = rest }) =
    ap (λ (xs : List ℕ). reading kind (record { at = old.at; bytes = xs })) parts
    ∙ written_is_read_again kind value front rest old.at spells in
    cc

-- ---- a list in turn

pub list_is_read_in_turn : ListIsReadInTurn
list_is_read_in_turn kind left are_bytes = list_in_turn kind (read_is_spelled kind) left are_bytes
