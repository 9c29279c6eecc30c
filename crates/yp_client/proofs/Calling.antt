-- A call that is put into a buffer, and the room that it takes.
use Rattle.std.proofs.Common.{◌≡◌, ℕ, ◌+◌, ◌<◌, ◌≤◌, List, [], ◌∷◌, ◌++◌, length, take, drop, Err, refl, sym}
use Rattle.std.proofs.Common.{ap, ◌∙◌, arith}
use Rattle.std.proofs.lemmas.List.{length-append, length-replicate, length-take, take_at, append-nil, take-append-drop}
use Rattle.std.specs.Prelude.{IsTrue}
use Rattle.std.specs.Io.KnownBytes.{Appends}
use Rattle.yp_io.specs.Dials.{WireState}
use Rattle.yp_xdr.specs.Kind.{Value}
use Rattle.yp_xdr.specs.Spelling.{word, padding_len, padding, opaque, fixed, spelling}
use Rattle.yp_messages.specs.Numbers.{name_max, key_max}
use Rattle.yp_messages.specs.Messages.{req_domain, req_nokey, req_key}
use Rattle.yp_messages.specs.Transfers.{req_xfr, req_make}
use Rattle.yp_client.specs.Limits.{reply_max}
use Rattle.yp_xdr.specs.inside.Writing.{Sets, written}
use Rattle.yp_xdr.specs.inside.Laws.{WrittenIsJoined}
use Rattle.yp_rpc.specs.declared.record.RecordFault.{RecordFault}
use Rattle.yp_rpc.specs.declared.record.RecordFault.TheVariants.{Torn, TooLong, ReadFault}
use Rattle.yp_rpc.specs.Records.{sent}
use Rattle.yp_client.specs.Calls.{SendsCall}
use Rattle.yp_client.specs.inside.Calls.{of_record}

take_none : (xs : List ℕ) → take 0 xs ≡ []
take_none [] = refl
take_none (x ∷ xs) = refl

-- a head and arguments behind it, at the front of a buffer
pub call_set : WrittenIsJoined → (old half new head arguments : List ℕ) (at end : ℕ) → half ≡ written old 0 head
    → at ≡ 0 + length head → new ≡ written half at arguments → end ≡ at + length arguments
    → take end new ≡ head ++ arguments
call_set law old half new head arguments at end first place second finish =
    let all = head ++ arguments in
    let joined : new ≡ written old 0 all =
    second ∙ ap (λ (buf : List ℕ). written buf at arguments) first
    ∙ ap (λ (n : ℕ). written (written old 0 head) n arguments) place ∙ law old 0 head arguments (omega arith) in
    ap (take end) joined
    ∙ take_at (take 0 old ++ all) (drop (0 + length all) old) end
    (omega (arith, length-append (take 0 old) all, length-append head arguments, length-take 0 old))
    ∙ ap (λ (front : List ℕ). front ++ all) (take_none old)

-- no bytes were set
pub sets_none : (at : ℕ) (old : List ℕ) → Sets (fixed []) at at old old
unfolding fixed
sets_none at old = record {
  place = omega arith;
  bytes_there = sym (ap (λ (front : List ℕ). front ++ drop (at + 0) old) (append-nil (take at old))
      ∙ ap (λ (n : ℕ). take at old ++ drop n old) (omega arith) ∙ take-append-drop at old);
  with_more = λ more last is. is;
}

-- a record that can't be read leaves what was sent
pub sends_record : (X : Type 0) (call : List ℕ) (fault : RecordFault) (before after : WireState)
    → Appends before.output after.output (sent call) × IsTrue after.flushed
    → SendsCall {X = X} call (Err (of_record fault)) before after
sends_record X call (Torn at) before after h = h
sends_record X call (TooLong at) before after h = h
sends_record X call ReadFault before after h = h

-- bytes with their length and padding
pub opaque_short : (content : List ℕ) → length (opaque content) < length content + 8
unfolding opaque fixed
opaque_short content =
    let n = length content in
    let pad : length (padding n) ≡ padding_len n = length-replicate (padding_len n) 0 in
    omega (arith, length-append (word n) (content ++ padding n), length-append content (padding n))

-- the rooms of the calls
pub room_domain : (domain : List ℕ) → length domain ≤ name_max → 40 + length (spelling req_domain domain) ≤ reply_max
room_domain domain d = omega (arith, opaque_short domain)

pub room_map : (domain map : List ℕ) → length domain ≤ name_max → length map ≤ name_max
    → 40 + length (spelling req_nokey (domain, map)) ≤ reply_max
room_map domain map d m =
    omega (arith, length-append (opaque domain) (opaque map), opaque_short domain, opaque_short map)

pub room_key : (domain map key : List ℕ) → length domain ≤ name_max → length map ≤ name_max → length key ≤ key_max
    → 40 + length (spelling req_key (domain, (map, key))) ≤ reply_max
room_key domain map key d m k =
    omega (
      arith,
      length-append (opaque domain) (opaque map ++ opaque key),
      length-append (opaque map)
          (opaque key),
      opaque_short domain,
      opaque_short map,
      opaque_short key,
    )

pub room_xfr : (asked : Value req_xfr) → length asked.0 ≤ name_max → length asked.1.0 ≤ name_max
    → length asked.1.1.1.0 ≤ name_max → 40 + length (spelling req_xfr asked) ≤ reply_max
room_xfr asked d m p =
    let last = word asked.1.1.1.1.0 ++ (word asked.1.1.1.1.1.0 ++ word asked.1.1.1.1.1.1) in
    let peer = opaque asked.1.1.1.0 ++ last in
    let order = word asked.1.1.0 ++ peer in
    omega (
      arith,
      length-append (opaque asked.0) (opaque asked.1.0 ++ order),
      length-append
          (opaque asked.1.0) order,
      length-append (word asked.1.1.0) peer,
      length-append
          (opaque asked.1.1.1.0) last,
      opaque_short asked.0,
      opaque_short asked.1.0,
      opaque_short asked.1.1.1.0,
    )

pub room_make : (domain : List ℕ) (kind : ℕ) → length domain ≤ name_max
    → 40 + length (spelling req_make (domain, kind)) ≤ reply_max
room_make domain kind d = omega (arith, length-append (opaque domain) (word kind), opaque_short domain)
