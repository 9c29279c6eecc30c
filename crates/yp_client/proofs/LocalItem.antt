-- An item of the reply to ALL is read from its first 131088 bytes, and the results of a reply begin in its first 432.
use Rattle.std.proofs.Common.{◌≡◌, ℕ, ◌+◌, ◌≤◌, ℤ, Bool, true, false, cond, eqb, List, ◌++◌, length, Option, Some}
use Rattle.std.proofs.Common.{None, Result, Ok, Err, refl, sym, ap, ◌∙◌, subst, add-zero, zero-add, arith}
use Rattle.std.proofs.lemmas.List.{length-drop}
use Rattle.yp_xdr.specs.declared.fault.XdrFault.{XdrFault}
use Rattle.yp_xdr.specs.declared.fault.XdrFault.TheVariants.{Short, TooLong as OverLimit, Pad, BadBool, BadEnum}
use Rattle.yp_xdr.specs.Kind.{Boolean, Opaque}
use Rattle.yp_xdr.specs.Reading.{Remaining, reading}
use Rattle.yp_xdr.specs.inside.Reading.{end_of}
use Rattle.yp_rpc.specs.declared.reply.ReplyHead.{ReplyHead}
use Rattle.yp_rpc.specs.declared.reply.ReplyHead.TheVariants.{Success, ProgUnavail, ProgMismatch, ProcUnavail}
use Rattle.yp_rpc.specs.declared.reply.ReplyHead.TheVariants.{GarbageArgs, SystemErr, RpcMismatch, AuthError}
use Rattle.yp_rpc.specs.Read.{reply_at}
use Rattle.yp_messages.specs.Numbers.{key_max, value_max}
use Rattle.yp_messages.specs.Statuses.{stat}
use Rattle.yp_version.specs.Rows.{Row}
use Rattle.yp_client.specs.declared.fault.ClientFault.{ClientFault}
use Rattle.yp_client.specs.declared.fault.ClientFault.TheVariants.{Yp, BadReply}
use Rattle.yp_client.specs.Results.{◌>>=◌, of_reply, item, by_head, by_xid, results_of, stat_with}
use Rattle.yp_client.specs.inside.Results.{further, IsIn}
use Rattle.yp_xdr.specs.Faults.{fault_place}
use Rattle.yp_client.specs.All.{row_at, by_row_stat, status_at, all_item_at}
use Rattle.yp_client.proofs.Local.{Enough, enough_less, enough_behind, onward, shifted, moved, IsCut, Cuts, IsLocal}
use Rattle.yp_client.proofs.Local.{Takes, cuts_behind, cuts_wider, local_bool, local_one_of, local_opaque}
use Rattle.yp_client.proofs.LocalHead.{local_reply}

-- ---- readings of a reply

-- what a reading gives further on, with more behind
abbrev pub moved_reply : {V : Type 0} → ℕ → List ℕ → Result (V × Remaining) ClientFault → Result (V × Remaining) ClientFault
moved_reply n more (Ok read) = Ok (read.0, onward n more read.1)
moved_reply n more (Err fault) = Err (further n fault)

-- A reading takes from min to max bytes, or finds its fault among those that there are.
abbrev pub CutsReply : {V : Type 0} → ℕ → ℕ → Remaining → Result (V × Remaining) ClientFault → Type 0
CutsReply min max left (Ok read) = IsCut min max left read.1
CutsReply min max left (Err fault) = IsIn (end_of left) fault

pub record IsLocalReply {V : Type 0} (min max : ℕ) (read : Remaining → Result (V × Remaining) ClientFault) : Type 0 where
  pub moves : (n : ℕ) (more : List ℕ) (left : Remaining) → Enough max left more
      → read (onward n more left) ≡ moved_reply n more (read left)
  pub cuts : (left : Remaining) → CutsReply min max left (read left)

place_shifted : (n : ℕ) (fault : XdrFault) → fault_place (shifted n fault) ≡ n + fault_place fault
place_shifted n (Short at) = refl
place_shifted n (OverLimit at len) = refl
place_shifted n (Pad at) = refl
place_shifted n (BadBool at) = refl
place_shifted n (BadEnum at) = refl

of_reply_moved : {V : Type 0} (n : ℕ) (more : List ℕ) (read : Result (V × Remaining) XdrFault)
    → of_reply (moved n more read) ≡ moved_reply n more (of_reply read)
of_reply_moved n more (Ok read) = refl
of_reply_moved n more (Err fault) = ap (λ (at : ℕ). Err (BadReply at)) (place_shifted n fault)

of_reply_cuts : {V : Type 0} (min max : ℕ) (left : Remaining) (read : Result (V × Remaining) XdrFault)
    → Cuts min max left read → CutsReply min max left (of_reply read)
of_reply_cuts min max left (Ok read) c = c
of_reply_cuts min max left (Err fault) c = c

local_of_reply : {V : Type 0} (min max : ℕ) (read : Remaining → Result (V × Remaining) XdrFault) → IsLocal min max read
    → IsLocalReply min max (λ left. of_reply (read left))
local_of_reply min max read h = record {
  moves = λ n more left enough. ap of_reply (h.moves n more left enough) ∙ of_reply_moved n more (read left);
  cuts = λ left. of_reply_cuts min max left (read left) (h.cuts left);
}

bind_moved_reply : {A B : Type 0} (n : ℕ) (more : List ℕ) (first : Result (A × Remaining) ClientFault)
    (f f' : A × Remaining → Result (B × Remaining) ClientFault)
    → ((read : A × Remaining) → first ≡ Ok read → f' (read.0, onward n more read.1) ≡ moved_reply n more (f read))
    → (moved_reply n more first >>= f') ≡ moved_reply n more (first >>= f)
bind_moved_reply n more (Ok read) f f' h = h read refl
bind_moved_reply n more (Err fault) f f' h = refl

is_in_end : (end end' : ℕ) (fault : ClientFault) → end ≡ end' → IsIn end fault → IsIn end' fault
is_in_end end end' fault same h = let P : ℕ → Type 0 = λ n. IsIn n fault in subst P same h

cuts_reply_behind : {B : Type 0} (min max min' max' : ℕ) (left mid : Remaining)
    (second : Result (B × Remaining) ClientFault) → IsCut min max left mid → CutsReply min' max' mid second
    → CutsReply (min + min') (max + max') left second
cuts_reply_behind {B = B} min max min' max' left mid (Ok read) one other =
    cuts_behind {B = B} min max min' max' left mid (Ok read) one other
cuts_reply_behind min max min' max' left mid (Err fault) one other =
    is_in_end (end_of mid) (end_of left) fault
    (omega (
      arith,
      ap (λ (u : Remaining). u.at) one.cut,
      ap
          (λ (u : Remaining). length u.bytes) one.cut,
      length-drop one.count left.bytes,
      one.there,
    )) other

bind_cuts_reply : {A B : Type 0} (min max min' max' : ℕ) (left : Remaining) (first : Result (A × Remaining) ClientFault)
    (f : A × Remaining → Result (B × Remaining) ClientFault)
    → CutsReply min max left first → ((read : A × Remaining) → CutsReply min' max' read.1 (f read))
    → CutsReply (min + min') (max + max') left (first >>= f)
bind_cuts_reply min max min' max' left (Ok read) f one h =
    cuts_reply_behind min max min' max' left read.1 (f read) one (h read)
bind_cuts_reply min max min' max' left (Err fault) f one h = one

cut_reply_leaves : {A : Type 0} (min max : ℕ) (left : Remaining) (first : Result (A × Remaining) ClientFault)
    (read : A × Remaining) → CutsReply min max left first → first ≡ Ok read
    → length left.bytes ≤ length read.1.bytes + max
cut_reply_leaves {A = A} min max left first read one is =
    let c : IsCut min max left read.1 = let P : Result (A × Remaining) ClientFault → Type 0 =
    λ r. CutsReply min max left r in subst P is one in
    omega (arith, ap (λ (u : Remaining). length u.bytes) c.cut, length-drop c.count left.bytes, c.there, c.most)

reply_then : {A B : Type 0} (min max min' max' : ℕ) (read : Remaining → Result (A × Remaining) ClientFault)
    (f : A → Remaining → Result (B × Remaining) ClientFault)
    → IsLocalReply min max read → ((value : A) → IsLocalReply min' max' (f value))
    → IsLocalReply (min + min') (max + max') (λ left. read left >>= (λ one. f one.0 one.1))
reply_then min max min' max' read f one other = record {
  moves = λ n more left enough.
      ap (λ r. r >>= (λ x. f x.0 x.1))
      (one.moves n more left (enough_less max (max + max') left more (omega arith) enough))
      ∙ bind_moved_reply n more (read left) (λ x. f x.0 x.1) (λ x. f x.0 x.1)
      (λ x is. let c = cut_reply_leaves min max left (read left) x (one.cuts left) is in
      (other x.0).moves n more x.1 (enough_behind max max' left x.1 more c enough));
  cuts = λ left. bind_cuts_reply min max min' max' left (read left) (λ x. f x.0 x.1) (one.cuts left)
      (λ x. (other x.0).cuts x.1);
}

reply_ok : {V : Type 0} (max : ℕ) (value : V) → IsLocalReply 0 max (λ left. Ok (value, left))
reply_ok max value = record {
  moves = λ n more left enough. refl;
  cuts = λ left. record {
    count = 0;
    least = omega arith;
    most = omega arith;
    there = omega arith;
    cut =
        ap (λ (k : ℕ). record { at = k; bytes = left.bytes }) (sym (add-zero left.at));
  };
}

reply_choice : {V : Type 0} (min max : ℕ) (b : Bool) (one other : Remaining → Result (V × Remaining) ClientFault)
    → IsLocalReply min max one → IsLocalReply min max other
    → IsLocalReply min max (λ left. cond b (one left) (other left))
reply_choice min max true one other h k = h
reply_choice min max false one other h k = k

cuts_reply_wider : {V : Type 0} (min max min' max' : ℕ) (left : Remaining) (read : Result (V × Remaining) ClientFault)
    → min' ≤ min → max ≤ max' → CutsReply min max left read → CutsReply min' max' left read
cuts_reply_wider {V = V} min max min' max' left (Ok read) low high c =
    cuts_wider {V = V} min max min' max' left (Ok read) low high c
cuts_reply_wider min max min' max' left (Err fault) low high c = c

reply_wider : {V : Type 0} (min max min' max' : ℕ) (read : Remaining → Result (V × Remaining) ClientFault) → min' ≤ min
    → max ≤ max' → IsLocalReply min max read → IsLocalReply min' max' read
reply_wider min max min' max' read low high h = record {
  moves = λ n more left enough. h.moves n more left (enough_less max max' left more high enough);
  cuts = λ left. cuts_reply_wider min max min' max' left (read left) low high (h.cuts left);
}

-- ---- an item

takes_value : Takes value_max 65536
takes_value k few = omega arith

local_bytes : IsLocalReply 4 65540 (item (Opaque 65536))
local_bytes = local_of_reply 4 65540 (reading (Opaque 65536)) (local_opaque 65536 65536 takes_value)

local_row : IsLocalReply 0 131080 row_at
unfolding row_at
local_row =
    reply_wider 8 131080 0 131080 row_at (omega arith) (omega arith)
    (reply_then 4 65540 4 65540 (item (Opaque value_max))
    (λ value left. item (Opaque key_max) left >>= (λ key. Ok (Some (key.0, value), key.1))) local_bytes
    (λ value. reply_then 4 65540 0 0 (item (Opaque key_max)) (λ key left. Ok (Some (key, value), left)) local_bytes
    (λ key. reply_ok 0 _)))

-- a status that is neither TRUE nor NOMORE
local_refusal : (number : ℤ) → IsLocalReply {V = Option Row} 0 131080 (λ left. Err (Yp (stat_with number)))
local_refusal number = record { moves = λ n more left enough. refl; cuts = λ left. tt }

local_row_stat : (number : ℤ) → IsLocalReply 0 131080 (by_row_stat number)
local_row_stat number = reply_choice 0 131080 _ _ _ local_row
    (reply_choice 0 131080 _ _ _ (reply_ok 131080 None) (local_refusal number))

local_status : IsLocalReply 0 131084 status_at
unfolding status_at
local_status =
    reply_wider 4 131084 0 131084 status_at (omega arith) (omega arith)
    (reply_then 4 4 0 131080 (item stat) (λ status left. by_row_stat status left)
    (local_of_reply 4 4 (reading stat) (local_one_of _)) (λ status. local_row_stat status))

pub local_item : IsLocalReply 4 131088 all_item_at
unfolding all_item_at
local_item =
    reply_then 4 4 0 131084 (item Boolean) (λ more left. cond more (status_at left) (Ok (None, left)))
    (local_of_reply 4 4 (reading Boolean) local_bool)
    (λ more. reply_choice 0 131084 more _ _ local_status (reply_ok 131084 None))

-- ---- the head

-- what is left there, where a head was read
abbrev pub moved_head : List ℕ → Result Remaining ClientFault → Result Remaining ClientFault
moved_head more (Ok left) = Ok (record { at = left.at; bytes = left.bytes ++ more })
moved_head more (Err fault) = Err fault

by_head_moved : (more : List ℕ) (head : ReplyHead) (left : Remaining)
    → by_head head (onward 0 more left) ≡ moved_head more (by_head head left)
by_head_moved more Success left =
    ap (λ (at : ℕ). Ok (record { at = at; bytes = left.bytes ++ more })) (zero-add left.at)
by_head_moved more ProgUnavail left = refl
by_head_moved more (ProgMismatch low high) left = refl
by_head_moved more ProcUnavail left = refl
by_head_moved more GarbageArgs left = refl
by_head_moved more SystemErr left = refl
by_head_moved more (RpcMismatch low high) left = refl
by_head_moved more (AuthError number) left = refl

by_xid_moved : (more : List ℕ) (xid got : ℕ) (head : ReplyHead) (left : Remaining) (b : Bool) → eqb got xid ≡ b
    → by_xid xid got head (onward 0 more left) ≡ moved_head more (by_xid xid got head left)
by_xid_moved more xid got head left true e = rw e (by_head_moved more head left)
by_xid_moved more xid got head left false e = rw e refl

-- the results, by what was read of the reply's head
abbrev pub results_by : ℕ → Result ((ℕ × ReplyHead) × Remaining) ClientFault → Result Remaining ClientFault
results_by xid read = read >>= (λ x. by_xid xid x.0.0 x.0.1 x.1)

results_by_moved : (xid : ℕ) (more : List ℕ) (read : Result ((ℕ × ReplyHead) × Remaining) XdrFault)
    → results_by xid (of_reply (moved 0 more read)) ≡ moved_head more (results_by xid (of_reply read))
results_by_moved xid more (Ok read) = by_xid_moved more xid read.0.0 read.0.1 read.1 _ refl
results_by_moved xid more (Err fault) =
    ap (λ (at : ℕ). Err (BadReply at)) (place_shifted 0 fault ∙ zero-add (fault_place fault))

-- the head and what is behind it, where more bytes come
pub results_moved : (xid : ℕ) (front more : List ℕ) → Enough 432 (record { at = 0; bytes = front }) more
    → results_of xid (front ++ more) ≡ moved_head more (results_of xid front)
results_moved xid front more enough =
    ap (λ r. results_by xid (of_reply r)) (local_reply.moves 0 more (record { at = 0; bytes = front }) enough)
    ∙ results_by_moved xid more (reply_at (record { at = 0; bytes = front }))

-- the results are what is behind the first bytes of the reply
by_xid_left : (xid got : ℕ) (head : ReplyHead) (left rest : Remaining) (b : Bool) → eqb got xid ≡ b
    → by_xid xid got head left ≡ Ok rest → left ≡ rest
by_xid_left xid got Success left rest true e is = let h = rw e at is in cc
by_xid_left xid got ProgUnavail left rest true e is = let h = rw e at is in absurd cc
by_xid_left xid got (ProgMismatch low high) left rest true e is = let h = rw e at is in absurd cc
by_xid_left xid got ProcUnavail left rest true e is = let h = rw e at is in absurd cc
by_xid_left xid got GarbageArgs left rest true e is = let h = rw e at is in absurd cc
by_xid_left xid got SystemErr left rest true e is = let h = rw e at is in absurd cc
by_xid_left xid got (RpcMismatch low high) left rest true e is = let h = rw e at is in absurd cc
by_xid_left xid got (AuthError number) left rest true e is = let h = rw e at is in absurd cc
by_xid_left xid got head left rest false e is = let h = rw e at is in absurd cc

results_by_cut : (xid : ℕ) (left rest : Remaining) (read : Result ((ℕ × ReplyHead) × Remaining) XdrFault)
    → Cuts 12 432 left read → results_by xid (of_reply read) ≡ Ok rest → IsCut 12 432 left rest
results_by_cut xid left rest (Ok read) c is =
    subst (λ (u : Remaining). IsCut 12 432 left u) (by_xid_left xid read.0.0 read.0.1 read.1 rest _ refl is) c
results_by_cut xid left rest (Err fault) c is = absurd cc

pub results_cut : (xid : ℕ) (front : List ℕ) (rest : Remaining) → results_of xid front ≡ Ok rest
    → IsCut 12 432 (record { at = 0; bytes = front }) rest
results_cut xid front rest is =
    results_by_cut xid (record { at = 0; bytes = front }) rest (reply_at (record { at = 0; bytes = front }))
    (local_reply.cuts (record { at = 0; bytes = front })) is
