-- Worlds of makes that are answered late: a right one, and wrong ones.
use Rattle.std.proofs.Common.{◌≡◌, ◌⊎◌, inl, inr, ⊎_elim, ℕ, ◌+◌, ◌<◌, ◌≤◌, true, List, [], ◌∷◌, ◌++◌, length, Option, Some, None, refl, sym, ap, ◌∙◌, subst, arith}
use Rattle.std.specs.Prelude.{slice_index, ◌==◌}
use Rattle.std.proofs.lemmas.List.{length-append}
use Rattle.yp_io.specs.declared.stream.Peer.{Peer}
use Rattle.yp_io.specs.Inboxes.{Sent}
use Rattle.yp_xdr.specs.Reading.{word_at, content_at, opaque_at}
use Rattle.yp_xdr.specs.Spelling.{fixed, opaque}
use Rattle.yp_rpc.specs.Judging.{judged}
use Rattle.yp_rpc.specs.declared.call.CallHead.{CallHead}
use Rattle.yp_rpc.specs.declared.judging.Judged.{Judged}
use Rattle.yp_rpc.specs.declared.judging.Judged.TheVariants.{Admitted}
use Rattle.yp_messages.specs.declared.transfer.XfrStat.{XfrStat}
use Rattle.yp_messages.specs.declared.transfer.XfrStat.TheVariants.{Succ, Age, Nomap, Nodom, Rsrc, Rpc, Maddr, Yperr, Badargs, Dbm, File, Skew, Clear, Force, Xfrerr, Refused}
use Rattle.yp_version.specs.Versions.{MapVersion}
use Rattle.yp_board.specs.Logs.{Log, shown}
use Rattle.yp_board.specs.Views.{IsFront}
use Rattle.yp_texts.specs.After.{HasLaterOrder}
use Rattle.yp_answer.specs.declared.procedure.Path.TheVariants.{Datagram as Mail}
use Rattle.yp_answer.specs.declared.procedure.Procedure.{Procedure}
use Rattle.yp_answer.specs.declared.procedure.Procedure.TheVariants.{Match, Make, MakeNamed}
use Rattle.yp_answer.specs.Make.{job_of}
use Rattle.yp_answer.specs.Served.{maps_on}
use Rattle.yp_answer.specs.Reply.{Response, Open, make_reply}
use Rattle.yp_headline.specs.World.{Datagram}
use Rattle.yp_headline.specs.Answering.{answer, programs}
use Rattle.yp_headline.specs.Serving.{IsPublished, IsReply, IsMake, AreServed}
use Rattle.yp_headline.specs.Headline.{Replies}
use Rattle.yp_headline.specs.inside.Server.{AreLate}
use Rattle.yp_headline.specs.inside.Tried.{IsWrong, version_with, match_call, match_reply, own_map, own_caller, low_caller, make_call, matched_mail, late_make, late_match, mails_world, first_log, made_log}
use Rattle.yp_headline.proofs.Runs.{front_self}
use Rattle.yp_headline.proofs.Steps.{front_then}
use Rattle.yp_headline.proofs.Wrong.{replied}
use Rattle.yp_headline.proofs.Worked.{two_rise}
use Rattle.yp_headline.proofs.Mailed.{matched_on, differ, reply_on, matched_before, grown, made}

-- the make is open, whatever is known
make_open : (log : Log) → answer Mail (maps_on own_map log) own_caller make_call ≡ Open 7 (job_of own_map 0)
unfolding word_at content_at opaque_at
make_open log = refl

opened : (log next : Log) (reply : Option (List ℕ)) → IsReply (answer Mail (maps_on own_map log) own_caller make_call) reply log next
    → (stat : XfrStat) × (reply ≡ Some (make_reply 7 stat)) × (stat ≡ Succ → IsPublished 0 log next)
opened log next reply is = subst (λ (r : Response). IsReply r reply log next) (make_open log) is

-- ---- one that isn't answered

pub late_unanswered : IsWrong (mails_world ((late_make None ∷ []) ∷ []))
late_unanswered begun log replies =
    let on = replies.datagrams.0 in
    let gets = on.holds.holds in
    let answered = opened on.log on.holds.log gets.0 gets.1 in
    let none : None ≡ Some (make_reply 7 answered.0) = gets.2 ∙ answered.1 in cc

-- ---- what is no make

match_head : CallHead
match_head = record { xid = 7; prog = 100004; vers = 2; procedure = 3; flavor = 0; body = 40 }

match_judged : judged (programs Mail) match_call ≡ Admitted match_head Match
unfolding word_at content_at opaque_at match_head
match_judged = refl

same_procedure : (a b : CallHead) (p q : Procedure) → (let one : Judged Procedure = Admitted a p in one) ≡ Admitted b q → p ≡ q
same_procedure a b p q is = cc

no_make : (procedure : Procedure) → Match ≡ procedure → (procedure ≡ Make) ⊎ (procedure ≡ MakeNamed) → ⊥
no_make procedure is (inl make) = let e : Match ≡ Make = is ∙ make in cc
no_make procedure is (inr make) = let e : Match ≡ MakeNamed = is ∙ make in cc

pub late_of_no_make : IsWrong (mails_world ((late_match ∷ []) ∷ []))
late_of_no_make begun log replies =
    let make = replies.datagrams.0.holds.holds.3 refl in
    no_make make.2 (same_procedure match_head make.1 Match make.2 (sym match_judged ∙ make.3)) make.4

-- ---- a reply to nobody

pub late_to_nobody : (to : Peer) (reply : List ℕ)
    → AreLate (record { before = []; more = Sent to reply ∷ [] }) ((matched_mail 118 ∷ []) ∷ []) → ⊥
late_to_nobody to reply late = let e : 1 ≡ 0 = late (λ one. 1) in omega (arith, e)

-- ---- one that is answered by a version that its server knew before

-- the last byte of a reply tells its status
last_byte : (stat : XfrStat) → slice_index (make_reply 7 Succ) 27 ≡ slice_index (make_reply 7 stat) 27 → stat ≡ Succ
unfolding fixed
last_byte Succ e = refl
last_byte Age e = let differ : 1 ≡ 2 = e in absurd (omega (arith, differ))
last_byte Nomap e = let differ : 1 ≡ 255 = e in absurd (omega (arith, differ))
last_byte Nodom e = let differ : 1 ≡ 254 = e in absurd (omega (arith, differ))
last_byte Rsrc e = let differ : 1 ≡ 253 = e in absurd (omega (arith, differ))
last_byte Rpc e = let differ : 1 ≡ 252 = e in absurd (omega (arith, differ))
last_byte Maddr e = let differ : 1 ≡ 251 = e in absurd (omega (arith, differ))
last_byte Yperr e = let differ : 1 ≡ 250 = e in absurd (omega (arith, differ))
last_byte Badargs e = let differ : 1 ≡ 249 = e in absurd (omega (arith, differ))
last_byte Dbm e = let differ : 1 ≡ 248 = e in absurd (omega (arith, differ))
last_byte File e = let differ : 1 ≡ 247 = e in absurd (omega (arith, differ))
last_byte Skew e = let differ : 1 ≡ 246 = e in absurd (omega (arith, differ))
last_byte Clear e = let differ : 1 ≡ 245 = e in absurd (omega (arith, differ))
last_byte Force e = let differ : 1 ≡ 244 = e in absurd (omega (arith, differ))
last_byte Xfrerr e = let differ : 1 ≡ 243 = e in absurd (omega (arith, differ))
last_byte Refused e = let differ : 1 ≡ 242 = e in absurd (omega (arith, differ))

same_bytes : (a b : List ℕ) → (let one : Option (List ℕ) = Some a in one) ≡ Some b → a ≡ b
same_bytes a b is = cc

stat_is : (stat : XfrStat) → Some (make_reply 7 Succ) ≡ Some (make_reply 7 stat) → stat ≡ Succ
stat_is stat is =
    last_byte stat (ap (λ (l : List ℕ). slice_index l 27) (same_bytes (make_reply 7 Succ) (make_reply 7 stat) is))

first_is : {A : Type 0} (a b : A) (more rest : List A) → a ∷ more ≡ b ∷ rest → a ≡ b
first_is a b more rest is = cc

second_is : {A : Type 0} (a b c d : A) (rest : List A) → a ∷ b ∷ [] ≡ c ∷ d ∷ rest → b ≡ d
second_is a b c d rest is = cc

-- a front of the whole log is the first one, or the whole
fronts : (front : Log) → IsFront first_log front → IsFront front made_log → (front ≡ first_log) ⊎ (front ≡ made_log)
fronts front ([], is) goes = inl is
fronts front (x ∷ [], is) goes =
    let whole : made_log ≡ (0, version_with 7 118) ∷ x ∷ goes.0 = goes.1 ∙ ap (λ (l : Log). l ++ goes.0) is in
    inr (is ∙ ap (λ (e : ℕ × MapVersion). (0, version_with 7 118) ∷ e ∷ [])
    (sym (second_is (0, version_with 7 118) (0, version_with 8 119) (0, version_with 7 118) x goes.0 whole)))
fronts front (x ∷ y ∷ more, is) goes =
    let whole = ap length (goes.1 ∙ ap (λ (l : Log). l ++ goes.0) is) in absurd (omega (arith, whole))

-- and one behind the whole is that
whole_front : (log : Log) → IsFront made_log log → IsFront log made_log → log ≡ made_log
whole_front log ([], is) goes = is
whole_front log (x ∷ more, is) goes =
    let whole = ap length (goes.1 ∙ ap (λ (l : Log). l ++ goes.0) is) in absurd (omega (arith, whole))

-- the orders in it are 8 at most
order_within : (before : Log) (version : MapVersion) (rest : Log) → made_log ≡ before ++ (0, version) ∷ rest → version.order ≤ 8
order_within [] version rest is =
    let e : 7 ≡ version.order = ap (λ (v : ℕ × MapVersion). v.1.order)
    (first_is (0, version_with 7 118) (0, version) ((0, version_with 8 119) ∷ []) rest is) in omega (arith, e)
order_within (x ∷ []) version rest is =
    let e : 8 ≡ version.order = ap (λ (v : ℕ × MapVersion). v.1.order)
    (second_is (0, version_with 7 118) (0, version_with 8 119) x (0, version) rest is) in omega (arith, e)
order_within (x ∷ y ∷ more) version rest is =
    let whole = ap length is in
    let long = length-append more ((0, version) ∷ rest) in
    absurd (omega (arith, whole, long))

behind : (before : Log) (entry : ℕ × MapVersion) (rest : Log) → (before ++ entry ∷ []) ++ rest ≡ before ++ entry ∷ rest
behind [] entry rest = refl
behind (x ∷ before) entry rest = ap (λ (l : Log). x ∷ l) (behind before entry rest)

none_newer : (front next : Log) → IsFront made_log front → IsFront next made_log → IsPublished 0 front next → ⊥
none_newer front next begins goes published =
    let newer = published.newer in
    let at = whole_front newer.log (front_then made_log front newer.log begins newer.begins)
    (front_then newer.log next made_log newer.goes_on goes) in
    let over : 8 < published.version.order =
    subst (λ (l : Log). HasLaterOrder (shown 0 l) published.version) at newer.holds in
    let entry = front_then (published.before ++ (0, published.version) ∷ []) next made_log published.entry goes in
    let within = order_within published.before published.version entry.0
    (entry.1 ∙ behind published.before (0, published.version) entry.0) in
    omega (arith, over, within)

pub late_and_known : Replies (mails_world ((matched_mail 119 ∷ late_make (Some (make_reply 7 Succ)) ∷ []) ∷ []))
    first_log made_log → ⊥
late_and_known replies =
    let on = replies.datagrams.0 in
    let next = on.holds in
    let one = next.holds in
    let late = one.4 in
    let made_next = late.holds in
    let two = made_next.holds in
    elim (fronts on.log on.begins on.goes_on) [
      | inl first ↦
          let shows = ap (shown 0) first in
          let back : one.0 ≡ Some (match_reply 118) =
          replied (answer Mail (maps_on own_map on.log) low_caller match_call) (match_reply 118) one.0 on.log next.log
          (matched_on on.log 7 118 shows) one.1 in
          let e : 119 ≡ 118 = differ 119 118 one.0 one.2 back in omega (arith, e)
      | inr whole ↦
          let answered = opened late.log made_next.log two.0 two.1 in
          let begins : IsFront made_log late.log =
          subst (λ (l : Log). IsFront l late.log) whole (front_then on.log next.log late.log next.begins late.begins) in
          none_newer late.log made_next.log begins made_next.goes_on (answered.2 (stat_is answered.0 (two.2 ∙ answered.1)))
    ]

-- ---- a right one

make_judged : (call : CallHead) × (judged (programs Mail) make_call ≡ Admitted call MakeNamed)
unfolding word_at content_at opaque_at
make_judged = (record { xid = 7; prog = 536890953; vers = 1; procedure = 2; flavor = 0; body = 40 }, refl)

make_so : (answer : Option (List ℕ)) → IsMake (late_make answer)
make_so answer = (refl, make_judged.0, MakeNamed, make_judged.1, inr refl)

abbrev between : List (List Datagram)
between = (matched_mail 118 ∷ late_make (Some (make_reply 7 Succ)) ∷ matched_mail 118 ∷ []) ∷ []

late_before : (mails : List Datagram) → AreServed own_map first_log made_log mails
    → AreServed own_map first_log made_log (late_make (Some (make_reply 7 Succ)) ∷ mails)
late_before mails served = record {
  log = first_log;
  begins = front_self first_log;
  goes_on = grown;
  holds = record {
    log = made_log;
    begins = grown;
    goes_on = front_self made_log;
    holds = (
      Some (make_reply 7 Succ),
      subst (λ (r : Response). IsReply r (Some (make_reply 7 Succ)) first_log made_log) (sym (make_open first_log)) (
        Succ,
        refl,
        λ done. record {
          version = version_with 8 119;
          before = first_log;
          entry = front_self made_log;
          newer = record { log = first_log; begins = front_self first_log; goes_on = grown; holds = omega arith };
        },
      ),
      refl,
      λ is. make_so (Some (make_reply 7 Succ)),
      served,
    );
  };
}

-- a make that is answered late, between two MATCH that tell the value before
pub make_between : Replies (mails_world between) first_log made_log
make_between = record {
  published = made between;
  rises = λ number. two_rise (0 == number);
  connections = tt;
  datagrams = (
    matched_before 118 first_log first_log (late_make (Some (make_reply 7 Succ)) ∷ matched_mail 118 ∷ [])
        (front_self first_log) grown (reply_on first_log 7 118 refl)
        (late_before (matched_mail 118 ∷ [])
        (matched_before 118 first_log first_log [] (front_self first_log) grown (reply_on first_log 7 118 refl) grown)),
    tt,
  );
}
