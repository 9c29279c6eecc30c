-- What was put of a reply.
use Rattle.std.proofs.Common.{◌≡◌, ◌<◌, ◌≤◌, ℕ, Bool, true, false, List, [], ◌++◌, length, take, Option, None, Some, Result, Ok, Err, refl, sym, ap, ◌∙◌, subst, append_assoc, arith}
use Rattle.std.specs.Prelude.{OnOk, OnErr, IfOk, IfSome, is_err}
use Rattle.std.specs.Result.{result_ok}
use Rattle.std.specs.Io.KnownBytes.{Appends}
use Rattle.std.proofs.lemmas.List.{append-nil, length-append, length-take-le}
use Rattle.yp_rpc.specs.Records.{sent, joined}
use Rattle.yp_board.specs.Logs.{Log}
use Rattle.yp_board.specs.Views.{Seen}
use Rattle.yp_answer.specs.session.Hosts.{Conduct, Fulfils}
use Rattle.yp_messages.specs.declared.transfer.XfrStat.{XfrStat}
use Rattle.yp_answer.specs.declared.make.MakeJob.{MakeJob}
use Rattle.yp_answer.specs.Answers.{StepsWhere}
use Rattle.yp_answer.specs.inside.Streams.{Streamed, GivesParts, held_of, held_parts, parts_left}
use Rattle.yp_answer.specs.inside.session.Cuts.{OpenReply, IsBegun, rest_of, SeesOn}
use Rattle.yp_answer.specs.inside.session.Puts.{Puts}
use Rattle.yp_answer.proofs.session.Sending.{Appends-none}
use Rattle.yp_answer.proofs.session.Streaming.{gives_joined}
use Rattle.yp_answer.proofs.session.Cutting.{sees_same, sees_then}

-- a reply was sent whole, or memory ran out in it
pub puts_sent : {T E : Type 0} (message : List ℕ) (r : Result T E) (old new : Option (List ℕ)) → OnOk r (Appends old new (sent message))
    → OnErr r ((n : ℕ) × Appends old new (take n (sent message))) → Puts (Some message) (is_err r) None old new
puts_sent message (Ok x) old new whole front = (sent message, whole, sym (append-nil (sent message)))
puts_sent message (Err e) old new whole front = (refl, front.0, front.1)

-- nothing is sent for silence
pub puts_none : (output : Option (List ℕ)) → Puts None false None output output
puts_none output = ([], Appends-none output, refl)

-- a reply is open, or memory ran out before its first byte
pub puts_open : {E : Type 0} (log : Log) (stream : Streamed) (r : Result OpenReply E) (output : Option (List ℕ))
    → IfOk r (λ reply. reply ≡ record { held = held_of log stream; waits = [] })
    → Puts (Some (joined (parts_left log stream))) (is_err r) (result_ok r) output output
puts_open log stream (Ok reply) output is =
    ([], Appends-none output, ap (λ (o : OpenReply). rest_of (Some o)) (sym is))
puts_open log stream (Err e) output is = (refl, 0, Appends-none output)

pub begins_open : {E : Type 0} (log : Log) (stream : Streamed) (r : Result OpenReply E) → (parts_left log stream ≡ [] → ⊥)
    → IfOk r (λ reply. reply ≡ record { held = held_of log stream; waits = [] }) → IfSome (result_ok r) IsBegun
begins_open log stream (Ok reply) some is = λ none end. some (sym (ap (λ (o : OpenReply). held_parts o.held) is) ∙ end)
begins_open log stream (Err e) some is = tt

-- ---- what a host sees behind it

pub steps_see : {H : Type 0} (stepped : H → H → Type 0) (seen : H → Seen) (asked : Bool) (old new : H) → StepsWhere asked stepped seen old new
    → SeesOn (seen old) (seen new)
steps_see stepped seen true old new h = record { catalogue = h.1.catalogue; grown = h.1.grown }
steps_see stepped seen false old new h =
    let P : Seen → Type 0 = λ s. SeesOn (seen old) s in subst P (ap seen (sym h)) (sees_same (seen old))

pub made_sees : {H : Type 0} (conduct : Conduct H) (asked : Bool) (job : MakeJob) (stat : XfrStat) (old mid new : H)
    → StepsWhere asked conduct.stepped conduct.seen old mid → Fulfils conduct job stat mid new → SeesOn (conduct.seen old) (conduct.seen new)
made_sees conduct asked job stat old mid new step made =
    sees_then (conduct.seen old) (conduct.seen mid) (conduct.seen new) (steps_see conduct.stepped conduct.seen asked old mid step)
    (record { catalogue = made.catalogue; grown = made.grown })

-- ---- a piece more

-- what is still to be sent behind a piece that was put
pub rest_behind : (old new : OpenReply) (bytes out : List ℕ) → GivesParts bytes (held_parts old.held) (held_parts new.held) → 0 < length new.waits
    → ((more : List ℕ) → 0 < length (new.waits ++ more) → sent (old.waits ++ bytes ++ more) ≡ out ++ sent (new.waits ++ more))
    → rest_of (Some old) ≡ out ++ rest_of (Some new)
rest_behind old new bytes out gives some put =
    let more = joined (held_parts new.held) in
    ap (λ (l : List ℕ). sent (old.waits ++ l)) (gives_joined bytes (held_parts old.held) (held_parts new.held) gives)
    ∙ ap sent (sym (append_assoc old.waits bytes more))
    ∙ put more (omega (arith, some, length-append new.waits more))

-- what was still to be sent, with a piece that is put
pub rest_in : (waits bytes : List ℕ) (old new : List (List ℕ)) → GivesParts bytes old new → sent (waits ++ joined old) ≡ sent (waits ++ bytes ++ joined new)
rest_in waits bytes old new gives =
    ap (λ (l : List ℕ). sent (waits ++ l)) (gives_joined bytes old new gives) ∙ ap sent (sym (append_assoc waits bytes (joined new)))

-- where a piece has bytes, something is put
pub some_put : (waits buf : List ℕ) (n : ℕ) → 0 < n → n ≤ length buf → 0 < length (waits ++ take n buf)
some_put waits buf n some within = omega (arith, some, length-append waits (take n buf), length-take-le n buf within)

pub not_none : (xs : List ℕ) → 0 < length xs → xs ≡ [] → ⊥
not_none xs some none = let e : length xs ≡ 0 = ap length none in omega (arith, some, e)
