-- Transfers that are told as done, and weren't: of a server that refused, and of one whose version isn't what the file
-- stands for.
use Rattle.std.proofs.Common.{◌≡◌, ℕ, ℤ, pos, Bool, true, false, List, [], ◌∷◌, ◌++◌, length, Option, Some, None, Result, Ok, Err, refl, sym, ap, ◌∙◌, subst, arith, ⊎_elim}
use Rattle.std.specs.Prelude.{slice_index, is_err}
use Rattle.std.specs.Ordering.{int_eq}
use Rattle.std.proofs.lemmas.List.{append-nil}
use Rattle.std.proofs.lemmas.List.Elements.{All-nil, All-cons}
use Rattle.yp_xdr.specs.declared.fault.XdrFault.{XdrFault}
use Rattle.yp_xdr.specs.Kind.{Kind, Boolean, Sequence, Value}
use Rattle.yp_xdr.specs.Reading.{Remaining, reading, word_at, content_at, opaque_at, bool_at, one_of_at}
use Rattle.yp_rpc.specs.Records.{Fragments, IsShort, sent, sent_within}
use Rattle.yp_rpc.specs.Reply.{words}
use Rattle.yp_rpc.specs.inside.Laws.{FirstIsOne}
use Rattle.yp_messages.specs.Statuses.{stat}
use Rattle.yp_messages.specs.Messages.{resp_order, resp_master, key_val}
use Rattle.yp_version.specs.Rows.{Row}
use Rattle.yp_version.specs.Versions.{MapVersion}
use Rattle.yp_client.specs.Limits.{reply_max}
use Rattle.yp_answer.specs.declared.procedure.Path.TheVariants.{Stream}
use Rattle.yp_headline.specs.World.{Dialed}
use Rattle.yp_headline.specs.Storing.{stood_for}
use Rattle.yp_headline.specs.Listing.{AreListed}
use Rattle.yp_headline.specs.Fetching.{head_kind, Reads, Says, RowsAre, Hears, Gives}
use Rattle.yp_headline.specs.inside.Files.{streamed}
use Rattle.yp_headline.specs.inside.Tried.{somebody, version_with, whole_file, IsWrongTransfer, order_reply, master_reply, all_reply, fetched_bytes}
use Rattle.yp_headline.specs.inside.TriedFiles.{transfer_of, refused_reply, no_row_file, two_row_file, stored_of, IsWrongStored}
use Rattle.yp_headline.proofs.Heads.{same_pair}
use Rattle.yp_headline.proofs.Torn.{is_image, stands_none}
use Rattle.yp_headline.proofs.Listing.{one_listed, listed_once}
use Rattle.yp_headline.proofs.Lost.{same_held, stored_same, order_same}
use Rattle.yp_headline.proofs.Fetching.{left_at, master_record, rows_record, its_master}
use Rattle.yp_headline.proofs.Skewed.{one_server, says_one, behind, two_more, after_order, undone}

-- ---- a server that refused

refused_record : Fragments reply_max refused_reply (sent refused_reply)
unfolding sent_within
refused_record = record {
  pieces = [];
  last = refused_reply;
  whole = refl;
  spelled = refl;
  within = record {
    len = omega arith;
    empty = omega arith;
    short = All-cons IsShort refused_reply [] (omega arith) (All-nil IsShort);
  };
}

refused_head : reading head_kind (record { at = 0; bytes = refused_reply })
    ≡ Ok ((1, (pos 1, (pos 0, ((0, []), pos 0)))), left_at (words (4294967295 ∷ 0 ∷ [])))
unfolding word_at content_at opaque_at
refused_head = refl

abbrev is_true : Result ((ℤ × ℕ) × Remaining) XdrFault → Bool
is_true (Ok read) = int_eq read.0.0 (pos 1)
is_true (Err fault) = false

never_true : (order : ℕ) (rest : Remaining)
    → reading resp_order (left_at (words (4294967295 ∷ 0 ∷ []))) ≡ Ok ((pos 1, order), rest) → ⊥
unfolding word_at content_at opaque_at one_of_at
never_true order rest is = let e : false ≡ true = ap is_true is in cc

refusal_says : (order : ℕ) → Says 1 (Reads resp_order (pos 1, order)) refused_reply → ⊥
refusal_says order says =
    let heads = same_pair _ _ (sym says.head ∙ refused_head) in
    let left : says.left ≡ left_at (words (4294967295 ∷ 0 ∷ [])) = ap (λ (r : Value head_kind × Remaining). r.1) heads in
    never_true order says.results.0
    (subst (λ (r : Remaining). reading resp_order r ≡ Ok ((pos 1, order), says.results.0)) left says.results.1)

-- ---- one that answered another call

other_record : Fragments reply_max (order_reply 8 9) (sent (order_reply 8 9))
unfolding sent_within
other_record = record {
  pieces = [];
  last = order_reply 8 9;
  whole = refl;
  spelled = refl;
  within = record {
    len = omega arith;
    empty = omega arith;
    short = All-cons IsShort (order_reply 8 9) [] (omega arith) (All-nil IsShort);
  };
}

other_head : reading head_kind (record { at = 0; bytes = order_reply 8 9 })
    ≡ Ok ((8, (pos 1, (pos 0, ((0, []), pos 0)))), left_at (words (1 ∷ 9 ∷ [])))
unfolding word_at content_at opaque_at
other_head = refl

other_says : (order : ℕ) → Says 1 (Reads resp_order (pos 1, order)) (order_reply 8 9) → ⊥
other_says order says =
    let heads = same_pair _ _ (sym says.head ∙ other_head) in
    let e : 1 ≡ 8 = ap (λ (r : Value head_kind × Remaining). r.0.0) heads in omega (arith, e)

-- ---- the rows of a reply

abbrev row_kind : Kind
row_kind = Sequence Boolean key_val

abbrev rows_left : Remaining
rows_left = left_at (0 ∷ 0 ∷ 0 ∷ 1 ∷ 0 ∷ 0 ∷ 0 ∷ 1 ∷ 0 ∷ 0 ∷ 0 ∷ 1 ∷ 119 ∷ 0 ∷ 0 ∷ 0
    ∷ 0 ∷ 0 ∷ 0 ∷ 1 ∷ 107 ∷ 0 ∷ 0 ∷ 0 ∷ 0 ∷ 0 ∷ 0 ∷ 0 ∷ [])

abbrev last_left : Remaining
last_left = record { at = 48; bytes = 0 ∷ 0 ∷ 0 ∷ 0 ∷ [] }

rows_head : reading head_kind (record { at = 0; bytes = all_reply 3 }) ≡ Ok ((3, (pos 1, (pos 0, ((0, []), pos 0)))), rows_left)
unfolding word_at content_at opaque_at
rows_head = refl

one_row : reading row_kind rows_left ≡ Ok ((true, (pos 1, (119 ∷ [], 107 ∷ []))), last_left)
unfolding word_at content_at opaque_at bool_at one_of_at
one_row = refl

abbrev says_more : Result (Bool × Remaining) XdrFault → Bool
says_more (Ok read) = read.0
says_more (Err fault) = false

more_stands : (rest : Remaining) → reading Boolean rows_left ≡ Ok (false, rest) → ⊥
unfolding word_at content_at opaque_at bool_at
more_stands rest is = let e : true ≡ false = ap says_more is in cc

abbrev says_end : Result ((Bool × ℤ) × Remaining) XdrFault → Bool
says_end (Ok read) = int_eq read.0.1 (pos 2)
says_end (Err fault) = false

no_end : (rest : Remaining) → reading (Sequence Boolean stat) rows_left ≡ Ok ((true, pos 2), rest) → ⊥
unfolding word_at content_at opaque_at bool_at one_of_at
no_end rest is = let e : false ≡ true = ap says_end is in cc

no_other_row : (row : Value row_kind × Remaining) → reading row_kind last_left ≡ Ok row → ⊥
unfolding word_at content_at opaque_at bool_at one_of_at
no_other_row row is = let e : true ≡ false = ap is_err is in cc

no_more_rows : (rows : List Row) → RowsAre rows last_left → rows ≡ []
no_more_rows [] are = refl
no_more_rows (row ∷ rows) are = absurd (no_other_row ((true, (pos 1, (row.1, row.0))), are.0) are.1)

rows_from : (rows : List Row) → RowsAre rows rows_left → rows ≡ (107 ∷ [], 119 ∷ []) ∷ []
rows_from [] are = absurd (⊎_elim (λ none. more_stands none.0 none.1) (λ end. no_end end.0 end.1) are)
rows_from (row ∷ rows) are =
    let read = same_pair _ _ (sym are.1 ∙ one_row) in
    let value : row.1 ≡ 119 ∷ [] = ap (λ (r : Value row_kind × Remaining). r.0.1.1.0) read in
    let key : row.0 ≡ 107 ∷ [] = ap (λ (r : Value row_kind × Remaining). r.0.1.1.1) read in
    let next : are.0 ≡ last_left = ap (λ (r : Value row_kind × Remaining). r.1) read in
    let none : rows ≡ [] = no_more_rows rows (subst (λ (r : Remaining). RowsAre rows r) next are.2) in
    ap (λ (k : List ℕ). (k, row.1) ∷ rows) key ∙ ap (λ (v : List ℕ). (107 ∷ [], v) ∷ rows) value
    ∙ ap (λ (l : List Row). (107 ∷ [], 119 ∷ []) ∷ l) none

rows_one : (rows : List Row) → Says 3 (RowsAre rows) (all_reply 3) → rows ≡ (107 ∷ [], 119 ∷ []) ∷ []
rows_one rows says =
    let heads = same_pair _ _ (sym says.head ∙ rows_head) in
    let left : says.left ≡ rows_left = ap (λ (r : Value head_kind × Remaining). r.1) heads in
    rows_from rows (subst (λ (r : Remaining). RowsAre rows r) left says.results)

-- ---- what files stand for

stands_row : stood_for (whole_file 9 118) ≡ Some (Some (version_with 9 118))
unfolding word_at content_at opaque_at
stands_row = refl

stands_order : stood_for (whole_file 10 119) ≡ Some (Some (version_with 10 119))
unfolding word_at content_at opaque_at
stands_order = refl

stands_missing : stood_for (no_row_file 9) ≡ Some (Some (record { order = 9; master = 109 ∷ []; secure = false; rows = [] }))
unfolding word_at content_at opaque_at
stands_missing = refl

stands_added : stood_for (two_row_file 9 119) ≡ Some (Some (record {
  order = 9;
  master = 109 ∷ [];
  secure = false;
  rows = (107 ∷ [], 119 ∷ []) ∷ (108 ∷ [], 119 ∷ []) ∷ [];
}))
unfolding word_at content_at opaque_at
stands_added = refl

abbrev of_parts : ℕ → List ℕ → Bool → List Row → MapVersion
of_parts order master secure rows = record { order = order; master = master; secure = secure; rows = rows }

-- the version that the server gave, marked or not
abbrev marked : Bool → MapVersion
marked secure = record { order = 9; master = 109 ∷ []; secure = secure; rows = (107 ∷ [], 119 ∷ []) ∷ [] }

rows_same : (a b : MapVersion) → Some (Some a) ≡ Some (Some b) → a.rows ≡ b.rows
rows_same a b is = ap (λ (v : MapVersion). v.rows) (stored_same a b is)

abbrev first_value : List Row → ℕ
first_value [] = 0
first_value (row ∷ rows) = slice_index row.1 0

never_nothing : (secure : Bool) → Some None ≡ Some (Some (marked secure)) → ⊥
never_nothing secure is = let e : None ≡ Some (marked secure) = same_held None (Some (marked secure)) is in cc

module _ (first_one : FirstIsOne) where
  -- it gives one version
  pub gives_one : (version : MapVersion) → Gives (streamed somebody fetched_bytes) version → version ≡ version_with 9 119
  gives_one version gives =
      let last = sent (order_reply 4 9) in
      let third = sent (all_reply 3) ++ last in
      let second = sent (master_reply 2) ++ third in
      let one = after_order first_one second fetched_bytes version refl gives in
      let two = behind first_one 2 (master_reply 2) third second gives.master gives.others master_record refl one.1 in
      let more = two_more first_one version.order gives.rows gives.others gives.says_rows in
      let three = behind first_one 3 (all_reply 3) last third more.all (more.again ∷ []) rows_record refl
      (subst (λ (l : List (List ℕ)). Hears Stream 3 third l) more.are two.1) in
      let master : version.master ≡ 109 ∷ [] = ap (λ (v : Value resp_master). v.1)
      (says_one 2 resp_master (pos 1, version.master) (pos 1, 109 ∷ []) (master_reply 2)
      (subst (λ (l : List ℕ). Says 2 (Reads resp_master (pos 1, version.master)) l) two.0 gives.says_master) its_master) in
      let came : gives.rows ≡ (107 ∷ [], 119 ∷ []) ∷ [] = rows_one gives.rows
      (subst (λ (l : List ℕ). Says 3 (RowsAre gives.rows) l) three.0 more.says) in
      let rows : version.rows ≡ (107 ∷ [], 119 ∷ []) ∷ [] =
      listed_once ((107 ∷ [], 119 ∷ []) ∷ []) version.rows ((107 ∷ [], 119 ∷ []) ∷ [])
      (subst (λ (l : List Row). AreListed l version.rows) came gives.listed) (one_listed (107 ∷ [], 119 ∷ [])) in
      ap (λ (n : ℕ). of_parts n version.master version.secure version.rows) one.0
      ∙ ap (λ (m : List ℕ). of_parts 9 m version.secure version.rows) master
      ∙ ap (λ (s : Bool). of_parts 9 (109 ∷ []) s version.rows) gives.not_secure
      ∙ ap (λ (l : List Row). of_parts 9 (109 ∷ []) false l) rows

  -- a file that stands for anything else
  stored_false : (file : List ℕ) (there : Option (Option MapVersion)) → stood_for file ≡ there
      → ((secure : Bool) → there ≡ Some (Some (marked secure)) → ⊥)
      → IsWrongStored (stored_of file)
  stored_false file there is never begun log crashes transfers =
      let done = transfers.done 0 ([], [], refl) in
      let server = one_server (streamed somebody fetched_bytes) done.fetched.server done.fetched.among in
      let given = gives_one done.fetched.fetched (subst (λ (d : Dialed). Gives d done.fetched.fetched) server done.fetched.gives) in
      let kept = crashes.stored 0 ([], [], refl) file (is_image file) in
      let stored : done.stored ≡ marked done.stored.secure =
      done.fetched.marked ∙ ap (λ (v : MapVersion). record v { secure = done.stored.secure }) given in
      never done.stored.secure
      (sym is ∙ kept ∙ ap (λ (o : Option MapVersion). Some o) done.shows ∙ ap (λ (v : MapVersion). Some (Some v)) stored)

  pub stored_nothing : IsWrongStored (stored_of [])
  stored_nothing = stored_false [] (Some None) stands_none never_nothing

  pub stored_another_row : IsWrongStored (stored_of (whole_file 9 118))
  stored_another_row = stored_false (whole_file 9 118) (Some (Some (version_with 9 118))) stands_row
      (λ secure is. let e : 118 ≡ 119 = ap first_value (rows_same (version_with 9 118) (marked secure) is) in omega (arith, e))

  pub stored_another_order : IsWrongStored (stored_of (whole_file 10 119))
  stored_another_order = stored_false (whole_file 10 119) (Some (Some (version_with 10 119))) stands_order
      (λ secure is. let e : 10 ≡ 9 = order_same (version_with 10 119) (marked secure) is in omega (arith, e))

  pub row_missing : IsWrongStored (stored_of (no_row_file 9))
  row_missing = stored_false (no_row_file 9) _ stands_missing
      (λ secure is. let e : 0 ≡ 1 = ap length (rows_same _ (marked secure) is) in omega (arith, e))

  pub row_added : IsWrongStored (stored_of (two_row_file 9 119))
  row_added = stored_false (two_row_file 9 119) _ stands_added
      (λ secure is. let e : 2 ≡ 1 = ap length (rows_same _ (marked secure) is) in omega (arith, e))

  pub gave_refusal : IsWrongTransfer (transfer_of (sent refused_reply))
  gave_refusal = undone first_one (sent refused_reply) (λ version gives.
      let one = behind first_one 1 refused_reply [] (sent refused_reply) gives.order (gives.master ∷ gives.others) refused_record
      (sym (append-nil (sent refused_reply))) gives.heard in
      refusal_says version.order (subst (λ (l : List ℕ). Says 1 (Reads resp_order (pos 1, version.order)) l) one.0 gives.says_order))

  pub of_another_call : IsWrongTransfer (transfer_of (sent (order_reply 8 9)))
  of_another_call = undone first_one (sent (order_reply 8 9)) (λ version gives.
      let one = behind first_one 1 (order_reply 8 9) [] (sent (order_reply 8 9)) gives.order (gives.master ∷ gives.others) other_record
      (sym (append-nil (sent (order_reply 8 9)))) gives.heard in
      other_says version.order (subst (λ (l : List ℕ). Says 1 (Reads resp_order (pos 1, version.order)) l) one.0 gives.says_order))
