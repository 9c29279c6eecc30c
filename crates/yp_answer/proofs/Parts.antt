-- The parts of ALL's reply are the reply.
use Rattle.std.proofs.Common.{◌≡◌, ℕ, ◌+◌, ◌-◌, ◌<◌, ◌≤◌, List, [], ◌∷◌, ◌++◌, length, take, drop, map, zero, suc, add-one, Some, None, Result, refl, sym, ap, ◌∙◌, append_assoc, arith, slice_get, get_or}
use Rattle.std.proofs.lemmas.List.{append-nil, length-drop, drop-drop, get_or-drop, take_more}
use Rattle.std.proofs.lemmas.Option.{slice_get_within, get_or_from_slice_get}
use Rattle.std.proofs.lemmas.Grind.{flat_map-append}
use Rattle.std.proofs.Math.Nat.{sub_self}
use Rattle.yp_xdr.specs.Kind.{Value, ListOf}
use Rattle.yp_xdr.specs.Spelling.{spelling}
use Rattle.yp_messages.specs.Messages.{key_val}
use Rattle.yp_messages.specs.inside.Messages.{all_item}
use Rattle.yp_messages.specs.declared.stat.YpStat.{YpStat}
use Rattle.yp_rpc.specs.Reply.{reply_head}
use Rattle.yp_rpc.specs.declared.reply.ReplyHead.TheVariants.{Success}
use Rattle.yp_version.specs.Versions.{MapVersion}
use Rattle.yp_answer.specs.Reply.{success}
use Rattle.yp_answer.specs.Results.{all_items}
use Rattle.yp_rpc.specs.Records.{joined}
use Rattle.yp_answer.specs.inside.Streams.{parts, item_parts, between, GivesParts}

-- items behind the word that says that they are there, and then the end, are a list
joined_items : (items : List (Value key_val)) → joined (map (spelling all_item) (map (λ item. Some item) items ++ None ∷ [])) ≡ spelling (ListOf key_val) items
joined_items [] = refl
joined_items (item ∷ items) =
    ap (λ (rest : List ℕ). spelling all_item (Some item) ++ rest) (joined_items items)
    ∙ sym (append_assoc (spelling all_item (Some item)) _ _)

-- so the parts, joined, are the reply with the list
pub joined_parts : (xid : ℕ) (source : Result MapVersion YpStat) → joined (parts xid source) ≡ success xid (ListOf key_val) (all_items source)
joined_parts xid source = ap (λ (rest : List ℕ). reply_head xid Success ++ rest) (joined_items (all_items source))

-- ---- what is given from one place to another

-- nothing lies between a place and itself
pub between_none : (at : ℕ) (list : List (List ℕ)) → joined (between at at list) ≡ []
between_none at list = ap (λ (n : ℕ). joined (take n (drop at list))) (sub_self at)

-- one part more
pub between_more : (start at : ℕ) (list : List (List ℕ)) (part : List ℕ) → start ≤ at → slice_get list at ≡ Some part
    → joined (between start (at + 1) list) ≡ joined (between start at list) ++ part
between_more start at list part le there =
    let n = at - start in
    let rest = drop start list in
    let within : at < length list = slice_get_within list at part there in
    let inside : n < length rest = omega (arith, length-drop start list) in
    let place : start + n ≡ at = omega arith in
    let this : get_or rest n part ≡ part = get_or-drop start list n part ∙ ap (λ (i : ℕ). get_or list i part) place ∙ get_or_from_slice_get list at part part there in
    let next : at + 1 - start ≡ n + 1 = omega arith in
    ap (λ (k : ℕ). joined (take k rest)) next ∙ ap joined (take_more rest n part inside)
    ∙ flat_map-append (λ (x : List ℕ). x) (take n rest) (get_or rest n part ∷ []) ∙ ap (λ (x : List ℕ). joined (take n rest) ++ (x ++ [])) this
    ∙ ap (λ (x : List ℕ). joined (take n rest) ++ x) (append-nil part)

-- ---- what a piece gives

-- the head, and items from the first one on
pub gives_first : (xid : ℕ) (source : Result MapVersion YpStat) (next : ℕ) (bytes : List ℕ) → bytes ≡ reply_head xid Success ++ joined (between 0 next (item_parts source))
    → GivesParts bytes (parts xid source) (drop (next + 1) (parts xid source))
gives_first xid source next bytes is =
    let all : next - 0 ≡ next = omega arith in
    record {
      count = next + 1;
      given = is ∙ ap (λ (n : ℕ). reply_head xid Success ++ joined (take n (item_parts source))) all ∙ ap (λ (n : ℕ). joined (take n (parts xid source))) (sym (add-one next));
      left = refl;
    }

-- items behind those that were given
pub gives_later : (xid : ℕ) (source : Result MapVersion YpStat) (given next : ℕ) (bytes : List ℕ) → 0 < given → given - 1 ≤ next → bytes ≡ joined (between (given - 1) next (item_parts source))
    → GivesParts bytes (drop given (parts xid source)) (drop (next + 1) (parts xid source))
gives_later xid source zero next bytes some le is = absurd (omega arith)
gives_later xid source (suc before) next bytes some le is =
    let same : suc before - 1 ≡ before = omega arith in
    let count = next - before in
    let all : suc before + count ≡ next + 1 = omega (arith, le, same) in
    record {
      count = count;
      given = is ∙ ap (λ (n : ℕ). joined (between n next (item_parts source))) same;
      left = ap (λ (n : ℕ). drop n (parts xid source)) (sym all) ∙ sym (drop-drop count (suc before) (parts xid source));
    }

-- there are items left where the place is before the end
pub left_len : (xid : ℕ) (source : Result MapVersion YpStat) (given : ℕ) → 0 < given → length (drop given (parts xid source)) ≡ length (item_parts source) - (given - 1)
left_len xid source given some = omega (arith, length-drop given (parts xid source))
