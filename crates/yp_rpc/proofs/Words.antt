-- Words, one behind the other.
use Rattle.std.proofs.Common.{◌≡◌, ℕ, ◌+◌, ◌*◌, ◌<◌, ◌≤◌, List, [], ◌∷◌, ◌++◌, length, take, get_or, Ok, refl, sym}
use Rattle.std.proofs.Common.{ap, ◌∙◌, subst, arith, append_assoc}
use Rattle.std.proofs.lemmas.List.{take_more, take_all, length-append}
use Rattle.std.proofs.lemmas.Grind.{flat_map-append}
use Rattle.yp_xdr.specs.Spelling.{word}
use Rattle.yp_xdr.specs.inside.Writing.{written, Writes, Sets}
use Rattle.yp_rpc.specs.Reply.{words}

-- each word takes four bytes
pub length-words : (numbers : List ℕ) → length (words numbers) ≡ 4 * length numbers
length-words [] = refl
length-words (n ∷ numbers) = omega (arith, length-words numbers)

-- one more word
pub words_more : (numbers : List ℕ) (i : ℕ) → i < length numbers
    → words (take (i + 1) numbers) ≡ words (take i numbers) ++ word (get_or numbers i 0)
words_more numbers i h = rw (take_more numbers i 0 h) (flat_map-append word (take i numbers) (get_or numbers i 0 ∷ []))

-- nothing was written
pub sets_none : (buf : List ℕ) → Sets [] 0 0 buf buf
sets_none buf = record { place = refl; bytes_there = refl; with_more = λ more last is. is }

-- bytes were written behind others
sets_more : (bytes others : List ℕ) (at mid end : ℕ) (old now new : List ℕ) → Sets bytes at mid old now
    → Sets others mid end now new → Sets (bytes ++ others) at end old new
sets_more bytes others at mid end old now new one other = record {
  place = omega (arith, one.place, other.place, length-append bytes others);
  bytes_there = one.with_more others new other.bytes_there;
  with_more = λ more last is.
      one.with_more (others ++ more) last (other.with_more more last is)
      ∙ ap (written old at) (sym (append_assoc bytes others more));
}

-- the first words, and one more behind them
pub words_set : (buf now new : List ℕ) (numbers : List ℕ) (i at end : ℕ) → i < length numbers
    → Sets (words (take i numbers)) 0 at buf now
    → Sets (word (get_or numbers i 0)) at end now new → Sets (words (take (i + 1) numbers)) 0 end buf new
words_set buf now new numbers i at end h so_far step =
    subst (λ bytes. Sets bytes 0 end buf new) (sym (words_more numbers i h))
    (sets_more (words (take i numbers)) (word (get_or numbers i 0)) 0 at end buf now new so_far step)

-- words that fit are written without a refusal
pub words_done : (buf now : List ℕ) (numbers : List ℕ) (i at : ℕ) → length numbers ≤ i
    → 4 * length numbers ≤ length buf → Sets (words (take i numbers)) 0 at buf now
    → Writes (words numbers) 0 (Ok at) buf now
words_done buf now numbers i at all room so_far =
    let whole : take i numbers ≡ numbers = take_all i numbers all in record {
      place = (
        so_far.place ∙ ap (λ ns. 0 + length (words ns)) whole,
        omega
            (arith, so_far.place, ap (λ ns. length (words ns)) whole, length-words numbers),
      );
      bytes_there = so_far.bytes_there ∙ ap (λ ns. written buf 0 (words ns)) whole;
      no_room = tt;
      unchanged = tt;
    }
