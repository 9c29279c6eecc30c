-- Walks that are told as done, and weren't.
use Rattle.std.proofs.Common.{◌≡◌, ℕ, ℤ, ◌+◌, ◌%◌, ◌^◌, pos, true, false, List, [], ◌∷◌, ◌++◌, drop, Option, Some, Ok, refl, sym, ap, ◌∙◌, subst, arith}
use Rattle.std.specs.Prelude.{slice_index, is_some}
use Rattle.std.specs.Ordering.{int_eq}
use Rattle.yp_xdr.specs.Kind.{Kind, U32, Opaque, Sequence, Value}
use Rattle.yp_xdr.specs.Reading.{Remaining, reading, word_at, content_at, opaque_at, one_of_at}
use Rattle.yp_messages.specs.Statuses.{stat}
use Rattle.yp_messages.specs.Messages.{resp_order, key_val}
use Rattle.yp_version.specs.Rows.{Row, value_of}
use Rattle.yp_version.specs.Versions.{MapVersion}
use Rattle.yp_answer.specs.declared.procedure.Path.TheVariants.{Datagram as Mail}
use Rattle.yp_headline.specs.World.{Dialed}
use Rattle.yp_headline.specs.Storing.{stood_for}
use Rattle.yp_headline.specs.Listing.{AreListed}
use Rattle.yp_headline.specs.Fetching.{Reads, Says, SayRows, IsAwaited, Hears, Gives}
use Rattle.yp_headline.specs.inside.Files.{mailed}
use Rattle.yp_headline.specs.inside.Tried.{somebody, version_with, whole_file, IsWrongTransfer, order_reply, master_reply}
use Rattle.yp_headline.specs.inside.TriedFiles.{two_row_file, IsWrongStored}
use Rattle.yp_headline.specs.inside.TriedWalks.{row_reply, end_reply, walk_of, two_mails, mixed_mails, copied_mails}
use Rattle.yp_headline.proofs.Heads.{same_pair, both_read}
use Rattle.yp_headline.proofs.Torn.{is_image, stands_second}
use Rattle.yp_headline.proofs.Lost.{stored_same}
use Rattle.yp_headline.proofs.Listing.{one_listed, listed_once}
use Rattle.yp_headline.proofs.Fetching.{first_order}
use Rattle.yp_headline.proofs.Skewed.{one_server, says_one, order_one}

-- ---- the datagrams, one by one

first_same : (a b : List ℕ) (more others : List (List ℕ)) → a ∷ more ≡ b ∷ others → (a ≡ b) × (more ≡ others)
first_same a b more others is = (cc, cc)

-- the awaited one
next_mail : (xid : ℕ) (mail : List ℕ) (mails : List (List ℕ)) (reply : List ℕ) (others : List (List ℕ)) → IsAwaited xid mail
    → Hears Mail xid (mail ∷ mails) (reply ∷ others) → (reply ≡ mail) × Hears Mail ((xid + 1) % 2 ^ 32) mails others
next_mail xid mail mails reply others awaited ([], behind, is, none, so, rest) =
    let parts = first_same mail reply mails behind is in
    (sym parts.0, subst (λ (l : List (List ℕ)). Hears Mail ((xid + 1) % 2 ^ 32) l others) (sym parts.1) rest)
next_mail xid mail mails reply others awaited (one ∷ before, behind, is, none, so, rest) =
    let parts = first_same mail one mails (before ++ reply ∷ behind) is in
    absurd (none.0 (subst (IsAwaited xid) parts.0 awaited))

-- one that isn't
other_mail : (xid : ℕ) (mail : List ℕ) (mails others : List (List ℕ)) → (IsAwaited xid mail → ⊥)
    → Hears Mail xid (mail ∷ mails) others → Hears Mail xid mails others
other_mail xid mail mails [] not hears = tt
other_mail xid mail mails (reply ∷ others) not ([], behind, is, none, so, rest) =
    let parts = first_same mail reply mails behind is in
    absurd (not (subst (IsAwaited xid) (sym parts.0) so))
other_mail xid mail mails (reply ∷ others) not (one ∷ before, behind, is, none, so, rest) =
    let parts = first_same mail one mails (before ++ reply ∷ behind) is in
    (before, behind, parts.1, none.1, so, rest)

no_mail : (xid : ℕ) (reply : List ℕ) (others : List (List ℕ)) → Hears Mail xid [] (reply ∷ others) → ⊥
no_mail xid reply others ([], behind, is, none, so, rest) = cc
no_mail xid reply others (one ∷ before, behind, is, none, so, rest) = cc

-- ---- what they say

pub first_says : (xid : ℕ) (other : Kind) (number : ℤ) (value : Value other) (reply : List ℕ)
    → Says xid (Reads (Sequence stat other) (number, value)) reply → Says xid (Reads stat number) reply
first_says xid other number value reply says =
    let both = both_read stat other says.left (number, value) says.results.0 says.results.1 in
    record { left = says.left; verifier = says.verifier; head = says.head; results = (both.0, both.1) }

two_statuses : (xid : ℕ) (reply : List ℕ) → Says xid (Reads stat (pos 1)) reply → Says xid (Reads stat (pos 2)) reply → ⊥
two_statuses xid reply one other =
    let e : true ≡ false = ap (λ (z : ℤ). int_eq z (pos 1)) (says_one xid stat (pos 1) (pos 2) reply one other) in cc

record RowCame (xid order : ℕ) (found : List ℕ × List ℕ) (rows : List Row) (mails : List (List ℕ)) : Type 0 where
  later : List Row
  more : List (List ℕ)
  are : rows ≡ (found.1, found.0) ∷ later
  say : SayRows Mail ((xid + 1) % 2 ^ 32) order later more
  hears : Hears Mail ((xid + 1) % 2 ^ 32) mails more

row_came : (xid order : ℕ) (found : List ℕ × List ℕ) (rows : List Row) (mail : List ℕ) (mails others : List (List ℕ))
    → Says xid (Reads key_val (pos 1, found)) mail → IsAwaited xid mail → SayRows Mail xid order rows others
    → Hears Mail xid (mail ∷ mails) others → RowCame xid order found rows mails
row_came xid order found [] mail mails (none ∷ again ∷ []) says awaited say hears =
    let one = next_mail xid mail mails none (again ∷ []) awaited hears in
    absurd (two_statuses xid mail (first_says xid (Sequence (Opaque 65536) (Opaque 65536)) (pos 1) found mail says)
    (subst (λ (l : List ℕ). Says xid (Reads stat (pos 2)) l) one.0 say.0))
row_came xid order found (row ∷ rows) mail mails (reply ∷ more) says awaited say hears =
    let one = next_mail xid mail mails reply more awaited hears in
    let values = says_one xid key_val (pos 1, (row.1, row.0)) (pos 1, found) mail
    (subst (λ (l : List ℕ). Says xid (Reads key_val (pos 1, (row.1, row.0))) l) one.0 say.0) says in
    record {
      later = rows;
      more = more;
      are = ap (λ (v : Value key_val). (v.1.1, v.1.0) ∷ rows) values;
      say = say.1;
      hears = one.1;
    }
row_came xid order found [] mail mails [] says awaited say hears = absurd say
row_came xid order found [] mail mails (none ∷ []) says awaited say hears = absurd say
row_came xid order found [] mail mails (none ∷ again ∷ one ∷ more) says awaited say hears = absurd say
row_came xid order found (row ∷ rows) mail mails [] says awaited say hears = absurd say

record EndCame (xid order : ℕ) (rows : List Row) (mails : List (List ℕ)) : Type 0 where
  again : List ℕ
  none : rows ≡ []
  says : Says ((xid + 1) % 2 ^ 32) (Reads resp_order (pos 1, order)) again
  hears : Hears Mail ((xid + 1) % 2 ^ 32) mails (again ∷ [])

end_came : (xid order : ℕ) (rows : List Row) (mail : List ℕ) (mails others : List (List ℕ))
    → Says xid (Reads stat (pos 2)) mail → IsAwaited xid mail → SayRows Mail xid order rows others
    → Hears Mail xid (mail ∷ mails) others → EndCame xid order rows mails
end_came xid order [] mail mails (none ∷ again ∷ []) says awaited say hears =
    let one = next_mail xid mail mails none (again ∷ []) awaited hears in
    record { again = again; none = refl; says = say.1; hears = one.1 }
end_came xid order (row ∷ rows) mail mails (reply ∷ more) says awaited say hears =
    let one = next_mail xid mail mails reply more awaited hears in
    absurd (two_statuses xid mail (first_says xid (Sequence (Opaque 65536) (Opaque 65536)) (pos 1) (row.1, row.0) mail
    (subst (λ (l : List ℕ). Says xid (Reads key_val (pos 1, (row.1, row.0))) l) one.0 say.0)) says)
end_came xid order [] mail mails [] says awaited say hears = absurd say
end_came xid order [] mail mails (none ∷ []) says awaited say hears = absurd say
end_came xid order [] mail mails (none ∷ again ∷ one ∷ more) says awaited say hears = absurd say
end_came xid order (row ∷ rows) mail mails [] says awaited say hears = absurd say

-- ---- these replies

abbrev left_of : List ℕ → Remaining
left_of bytes = record { at = 24; bytes = bytes }

order_awaited : IsAwaited 1 (order_reply 1 9)
unfolding word_at
order_awaited = (omega arith, (record { at = 8; bytes = _ }, refl))

master_awaited : IsAwaited 2 (master_reply 2)
unfolding word_at
master_awaited = (omega arith, (record { at = 8; bytes = _ }, refl))

third_awaited : IsAwaited 3 (row_reply 3 107 119)
unfolding word_at
third_awaited = (omega arith, (record { at = 8; bytes = _ }, refl))

fourth_awaited : (value : ℕ) → IsAwaited 4 (row_reply 4 108 value)
unfolding word_at
fourth_awaited value = (omega arith, (record { at = 8; bytes = _ }, refl))

end_awaited : IsAwaited 5 (end_reply 5)
unfolding word_at
end_awaited = (omega arith, (record { at = 8; bytes = _ }, refl))

early_awaited : IsAwaited 4 (end_reply 4)
unfolding word_at
early_awaited = (omega arith, (record { at = 8; bytes = _ }, refl))

last_awaited : IsAwaited 6 (order_reply 6 10)
unfolding word_at
last_awaited = (omega arith, (record { at = 8; bytes = _ }, refl))

late_read : reading (Sequence U32 U32) (record { at = 0; bytes = row_reply 3 107 118 })
    ≡ Ok ((3, 1), record { at = 8; bytes = drop 8 (row_reply 3 107 118) })
unfolding word_at
late_read = refl

late_isnt : IsAwaited 4 (row_reply 3 107 118) → ⊥
late_isnt is =
    let same = same_pair _ _ (sym is.1.1 ∙ late_read) in
    let e : 4 ≡ 3 = ap (λ (r : Value (Sequence U32 U32) × Remaining). r.0.0) same in omega (arith, e)

pub third_row : Says 3 (Reads key_val (pos 1, (119 ∷ [], 107 ∷ []))) (row_reply 3 107 119)
unfolding word_at content_at opaque_at one_of_at
third_row = record { left = left_of _; verifier = (0, []); head = refl; results = (record { at = 44; bytes = [] }, refl) }

fourth_row : Says 4 (Reads key_val (pos 1, (119 ∷ [], 108 ∷ []))) (row_reply 4 108 119)
unfolding word_at content_at opaque_at one_of_at
fourth_row = record { left = left_of _; verifier = (0, []); head = refl; results = (record { at = 44; bytes = [] }, refl) }

other_row : Says 4 (Reads key_val (pos 1, (118 ∷ [], 108 ∷ []))) (row_reply 4 108 118)
unfolding word_at content_at opaque_at one_of_at
other_row = record { left = left_of _; verifier = (0, []); head = refl; results = (record { at = 44; bytes = [] }, refl) }

its_end : Says 5 (Reads stat (pos 2)) (end_reply 5)
unfolding word_at content_at opaque_at one_of_at
its_end = record { left = left_of _; verifier = (0, []); head = refl; results = (record { at = 28; bytes = _ }, refl) }

early_end : Says 4 (Reads stat (pos 2)) (end_reply 4)
unfolding word_at content_at opaque_at one_of_at
early_end = record { left = left_of _; verifier = (0, []); head = refl; results = (record { at = 28; bytes = _ }, refl) }

last_order : Says 6 (Reads resp_order (pos 1, 10)) (order_reply 6 10)
unfolding word_at content_at opaque_at one_of_at
last_order = record { left = left_of _; verifier = (0, []); head = refl; results = (record { at = 32; bytes = [] }, refl) }

-- ---- what a server gave

-- behind the replies to ORDER and MASTER
begins : (mails : List (List ℕ)) (version : MapVersion)
    → (gives : Gives (mailed somebody (order_reply 1 9 ∷ master_reply 2 ∷ mails)) version)
    → (version.order ≡ 9) × Hears Mail 3 mails gives.others
begins mails version gives =
    let one = next_mail 1 (order_reply 1 9) (master_reply 2 ∷ mails) gives.order (gives.master ∷ gives.others) order_awaited gives.heard in
    let two = next_mail 2 (master_reply 2) mails gives.master gives.others master_awaited one.1 in (
      order_one 1 version.order 9 (order_reply 1 9)
          (subst (λ (l : List ℕ). Says 1 (Reads resp_order (pos 1, version.order)) l) one.0 gives.says_order) first_order,
      two.1,
    )

mixed_never : (version : MapVersion) → Gives (mailed somebody mixed_mails) version → ⊥
mixed_never version gives =
    let first = begins _ version gives in
    let third = row_came 3 version.order (119 ∷ [], 107 ∷ []) gives.rows (row_reply 3 107 119) _ gives.others third_row third_awaited
    gives.says_rows first.1 in
    let fourth = row_came 4 version.order (118 ∷ [], 108 ∷ []) third.later (row_reply 4 108 118) _ third.more other_row
    (fourth_awaited 118) third.say third.hears in
    let fifth = end_came 5 version.order fourth.later (end_reply 5) _ fourth.more its_end end_awaited fourth.say fourth.hears in
    let last = next_mail 6 (order_reply 6 10) [] fifth.again [] last_awaited fifth.hears in
    let order : version.order ≡ 10 = order_one 6 version.order 10 (order_reply 6 10)
    (subst (λ (l : List ℕ). Says 6 (Reads resp_order (pos 1, version.order)) l) last.0 fifth.says) last_order in
    let e : 9 ≡ 10 = sym first.0 ∙ order in omega (arith, e)

two_rows : (version : MapVersion) → (gives : Gives (mailed somebody two_mails) version)
    → gives.rows ≡ (107 ∷ [], 119 ∷ []) ∷ (108 ∷ [], 119 ∷ []) ∷ []
two_rows version gives =
    let first = begins _ version gives in
    let third = row_came 3 version.order (119 ∷ [], 107 ∷ []) gives.rows (row_reply 3 107 119) _ gives.others third_row third_awaited
    gives.says_rows first.1 in
    let fourth = row_came 4 version.order (119 ∷ [], 108 ∷ []) third.later (row_reply 4 108 119) _ third.more fourth_row
    (fourth_awaited 119) third.say third.hears in
    let fifth = end_came 5 version.order fourth.later (end_reply 5) _ fourth.more its_end end_awaited fourth.say fourth.hears in
    third.are ∙ ap (λ (l : List Row). (107 ∷ [], 119 ∷ []) ∷ l) (fourth.are ∙ ap (λ (l : List Row). (108 ∷ [], 119 ∷ []) ∷ l) fifth.none)

copied_row : (version : MapVersion) → (gives : Gives (mailed somebody copied_mails) version)
    → gives.rows ≡ (107 ∷ [], 119 ∷ []) ∷ []
copied_row version gives =
    let first = begins _ version gives in
    let third = row_came 3 version.order (119 ∷ [], 107 ∷ []) gives.rows (row_reply 3 107 119) _ gives.others third_row third_awaited
    gives.says_rows first.1 in
    let behind = other_mail 4 (row_reply 3 107 118) (end_reply 4 ∷ order_reply 5 9 ∷ []) third.more late_isnt third.hears in
    let fourth = end_came 4 version.order third.later (end_reply 4) _ third.more early_end early_awaited third.say behind in
    third.are ∙ ap (λ (l : List Row). (107 ∷ [], 119 ∷ []) ∷ l) fourth.none

-- ---- the worlds

undone : (file : List ℕ) (mails : List (List ℕ)) → ((version : MapVersion) → Gives (mailed somebody mails) version → ⊥)
    → IsWrongTransfer (walk_of file mails)
undone file mails never begun log transfers =
    let done = transfers.done 0 ([], [], refl) in
    let server = one_server (mailed somebody mails) done.fetched.server done.fetched.among in
    never done.fetched.fetched (subst (λ (d : Dialed). Gives d done.fetched.fetched) server done.fetched.gives)

-- a file that stands for a version with other rows than those that came
stored_false : (file : List ℕ) (mails : List (List ℕ)) (there : MapVersion) → stood_for file ≡ Some (Some there)
    → ((version : MapVersion) → Gives (mailed somebody mails) version → there.rows ≡ version.rows → ⊥)
    → IsWrongStored (walk_of file mails)
stored_false file mails there is never begun log crashes transfers =
    let done = transfers.done 0 ([], [], refl) in
    let server = one_server (mailed somebody mails) done.fetched.server done.fetched.among in
    let kept = crashes.stored 0 ([], [], refl) file (is_image file) in
    let same : there ≡ done.stored = stored_same there done.stored
    (sym is ∙ kept ∙ ap (λ (o : Option MapVersion). Some o) done.shows) in
    never done.fetched.fetched (subst (λ (d : Dialed). Gives d done.fetched.fetched) server done.fetched.gives)
    (ap (λ (v : MapVersion). v.rows) (same ∙ done.fetched.marked))

pub gave_nothing : IsWrongTransfer (walk_of (whole_file 9 119) [])
gave_nothing = undone (whole_file 9 119) [] (λ version gives. no_mail 1 gives.order (gives.master ∷ gives.others) gives.heard)

pub rows_mixed : IsWrongTransfer (walk_of (two_row_file 9 119) mixed_mails)
rows_mixed = undone (two_row_file 9 119) mixed_mails mixed_never

-- a version that has one row has not both
not_both : (rows : List Row) → AreListed ((107 ∷ [], 119 ∷ []) ∷ (108 ∷ [], 119 ∷ []) ∷ []) rows → (107 ∷ [], 119 ∷ []) ∷ [] ≡ rows → ⊥
not_both rows are is =
    let e : false ≡ true = ap (λ (l : List Row). is_some (value_of (108 ∷ []) l)) is
    ∙ ap (λ (o : Option (List ℕ)). is_some o) (are.values (108 ∷ [])) in cc

pub row_skipped : IsWrongStored (walk_of (whole_file 9 119) two_mails)
row_skipped = stored_false (whole_file 9 119) two_mails (version_with 9 119) stands_second
    (λ version gives same.
    not_both version.rows (subst (λ (l : List Row). AreListed l version.rows) (two_rows version gives) gives.listed) same)

stands_other : stood_for (whole_file 9 118) ≡ Some (Some (version_with 9 118))
unfolding word_at content_at opaque_at
stands_other = refl

abbrev first_value : List Row → ℕ
first_value [] = 0
first_value (row ∷ rows) = slice_index row.1 0

pub copy_taken : IsWrongStored (walk_of (whole_file 9 118) copied_mails)
copy_taken = stored_false (whole_file 9 118) copied_mails (version_with 9 118) stands_other
    (λ version gives same.
    let rows : version.rows ≡ (107 ∷ [], 119 ∷ []) ∷ [] = listed_once ((107 ∷ [], 119 ∷ []) ∷ []) version.rows ((107 ∷ [], 119 ∷ []) ∷ [])
    (subst (λ (l : List Row). AreListed l version.rows) (copied_row version gives) gives.listed) (one_listed (107 ∷ [], 119 ∷ [])) in
    let e : 118 ≡ 119 = ap first_value (same ∙ rows) in omega (arith, e))
