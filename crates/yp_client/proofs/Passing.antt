-- Bytes that stand in the buffer and are read: the head, and an item.
use Rattle.std.proofs.Common.{◌≡◌, ℕ, ◌+◌, ◌≤◌, List, ◌++◌, length, drop, Option, Ok, Err, refl, sym, ap, ◌∙◌, subst}
use Rattle.std.proofs.Common.{add-zero, zero-add, arith, inl, inr}
use Rattle.std.proofs.lemmas.List.{length-drop}
use Rattle.yp_xdr.specs.Reading.{Remaining}
use Rattle.yp_version.specs.Rows.{Row}
use Rattle.yp_client.specs.declared.fault.ClientFault.{ClientFault}
use Rattle.yp_client.specs.declared.all.AllReply.{AllReply}
use Rattle.yp_client.specs.Results.{results_of}
use Rattle.yp_client.specs.inside.Results.{further, IsIn}
use Rattle.yp_client.specs.All.{ItemRead, all_item_at}
use Rattle.yp_client.specs.inside.Windows.{item_max, waiting, ahead, StandsIn, HasItem, MayCome}
use Rattle.yp_client.proofs.Local.{Enough, IsCut}
use Rattle.yp_client.proofs.LocalItem.{moved_reply, CutsReply, local_item, moved_head, results_moved, results_cut}
use Rattle.yp_client.proofs.Waiting.{length-waiting, waiting-passed}

-- a reply of which so many bytes more were read
abbrev pub passed_by : ℕ → AllReply → AllReply
passed_by count reply = record reply { start = reply.start + count; at = reply.at + count }

pub record Passed (old new : AllReply) (buf : List ℕ) (count : ℕ) : Type 0 where
  pub waits : waiting new buf ≡ drop count (waiting old buf)
  pub total : new.at + length (waiting new buf) ≡ old.at + length (waiting old buf)
  pub stands : StandsIn new buf

-- there are so many
pub pass_within : (old : AllReply) (buf : List ℕ) (count : ℕ) → StandsIn old buf → count ≤ length (waiting old buf)
    → old.start + count ≤ old.end
pass_within old buf count stands within =
    let order : old.start ≤ old.end = stands.order in
    let len = length-waiting old.start old.end buf order stands.fits in
    omega (arith, len)

passed_there : (old : AllReply) (buf : List ℕ) (count : ℕ) → StandsIn old buf → count ≤ length (waiting old buf)
    → Passed old (passed_by count old) buf count
passed_there old buf count stands within =
    let room : old.start + count ≤ old.end = pass_within old buf count stands within in
    let behind = waiting-passed old.start old.end count buf room in
    record {
      waits = behind;
      total = omega (arith, ap length behind, length-drop count (waiting old buf));
      stands = record { order = room; fits = stands.fits };
    }

pub passed : (old new : AllReply) (buf : List ℕ) (count : ℕ) → StandsIn old buf → count ≤ length (waiting old buf)
    → new ≡ passed_by count old → Passed old new buf count
passed old new buf count stands within is =
    subst (λ (reply : AllReply). Passed old reply buf count) (sym is) (passed_there old buf count stands within)

-- the first bytes of what stands there
abbrev pub from_start : AllReply → List ℕ → Remaining
from_start reply buf = record { at = 0; bytes = waiting reply buf }

pub has_enough : (less : ℕ) (reply : AllReply) (buf more : List ℕ) → less ≤ item_max → HasItem reply buf
    → MayCome more reply.whole → Enough less (from_start reply buf) more
has_enough less reply buf more low (inl there) may = inl (omega arith)
has_enough less reply buf more low (inr whole) may = inr (may whole)

-- what was read is as many bytes as the place behind it says
pub cut_count : (min max : ℕ) (bytes : List ℕ) (left : Remaining) (count : ℕ)
    → IsCut min max (record { at = 0; bytes = bytes }) left → count ≡ left.at
    → (count ≤ length bytes) × (min ≤ count) × (left.bytes ≡ drop count bytes)
cut_count min max bytes left count cut is =
    let at : count ≡ cut.count = is ∙ ap (λ (u : Remaining). u.at) cut.cut ∙ zero-add cut.count in (
      omega (arith, at, cut.there),
      omega (arith, at, cut.least),
      ap (λ (u : Remaining). u.bytes) cut.cut
          ∙ ap (λ (k : ℕ). drop k bytes) (sym at),
    )

-- what is left there, with more behind
pub left_ahead : (old new : AllReply) (buf more : List ℕ) (left : Remaining) (count : ℕ) → Passed old new buf count
    → new.at ≡ old.at + count → count ≡ left.at → left.bytes ≡ drop count (waiting old buf)
    → record { at = old.at + left.at; bytes = left.bytes ++ more } ≡ ahead new buf more
left_ahead old new buf more left count there at is rest =
    let bytes : left.bytes ≡ waiting new buf = rest ∙ sym there.waits in
    let place : old.at + left.at ≡ new.at = ap (λ (k : ℕ). old.at + k) (sym is) ∙ sym at in
    rw (bytes, place) refl

-- ---- the head

pub head_ahead : (xid : ℕ) (old new : AllReply) (buf more : List ℕ) (left : Remaining) (count : ℕ) → HasItem old buf
    → MayCome more old.whole → old.at ≡ 0 → Passed old new buf count → new.at ≡ old.at + count
    → count ≡ left.at → results_of xid (waiting old buf) ≡ Ok left
    → results_of xid (waiting old buf ++ more) ≡ Ok (ahead new buf more)
head_ahead xid old new buf more left count item may begin there at is says =
    let cut = cut_count 12 432 (waiting old buf) left count (results_cut xid (waiting old buf) left says) is in
    let place : left.at ≡ old.at + left.at = sym (zero-add left.at) ∙ ap (λ (k : ℕ). k + left.at) (sym begin) in
    results_moved xid (waiting old buf) more (has_enough 432 old buf more (omega arith) item may)
    ∙ ap (moved_head more) says
    ∙ ap (λ (k : ℕ). Ok (record { at = k; bytes = left.bytes ++ more })) place
    ∙ ap Ok (left_ahead old new buf more left count there at is cut.2)

pub head_refused : (xid : ℕ) (old : AllReply) (buf more : List ℕ) (fault : ClientFault) → HasItem old buf
    → MayCome more old.whole → results_of xid (waiting old buf) ≡ Err fault
    → results_of xid (waiting old buf ++ more) ≡ Err fault
head_refused xid old buf more fault item may says =
    results_moved xid (waiting old buf) more (has_enough 432 old buf more (omega arith) item may)
    ∙ ap (moved_head more) says

-- ---- an item

item_moves : (old : AllReply) (buf more : List ℕ) → HasItem old buf → MayCome more old.whole
    → all_item_at (ahead old buf more) ≡ moved_reply old.at more (all_item_at (from_start old buf))
item_moves old buf more item may =
    ap (λ (k : ℕ). all_item_at (record { at = k; bytes = waiting old buf ++ more })) (sym (add-zero old.at))
    ∙ local_item.moves old.at more (from_start old buf) (has_enough 131088 old buf more (omega arith) item may)

pub item_cut : (bytes : List ℕ) (found : Option Row) (left : Remaining)
    → all_item_at (record { at = 0; bytes = bytes }) ≡ Ok (found, left)
    → IsCut 4 131088 (record { at = 0; bytes = bytes }) left
item_cut bytes found left says =
    subst (λ (read : ItemRead). CutsReply 4 131088 (record { at = 0; bytes = bytes }) read) says
    (local_item.cuts (record { at = 0; bytes = bytes }))

pub item_in : (bytes : List ℕ) (fault : ClientFault) → all_item_at (record { at = 0; bytes = bytes }) ≡ Err fault
    → IsIn (0 + length bytes) fault
item_in bytes fault says =
    subst (λ (read : ItemRead). CutsReply 4 131088 (record { at = 0; bytes = bytes }) read) says
    (local_item.cuts (record { at = 0; bytes = bytes }))

pub item_ahead : (old new : AllReply) (buf more : List ℕ) (found : Option Row) (left : Remaining) (count : ℕ)
    → HasItem old buf → MayCome more old.whole → Passed old new buf count → new.at ≡ old.at + count
    → count ≡ left.at → all_item_at (from_start old buf) ≡ Ok (found, left)
    → all_item_at (ahead old buf more) ≡ Ok (found, ahead new buf more)
item_ahead old new buf more found left count item may there at is says =
    let cut = cut_count 4 131088 (waiting old buf) left count (item_cut (waiting old buf) found left says) is in
    item_moves old buf more item may ∙ ap (moved_reply old.at more) says
    ∙ ap (λ (u : Remaining). Ok (found, u)) (left_ahead old new buf more left count there at is cut.2)

pub item_refused : (old : AllReply) (buf more : List ℕ) (fault : ClientFault) → HasItem old buf
    → MayCome more old.whole → all_item_at (from_start old buf) ≡ Err fault
    → all_item_at (ahead old buf more) ≡ Err (further old.at fault)
item_refused old buf more fault item may says = item_moves old buf more item may ∙ ap (moved_reply old.at more) says
