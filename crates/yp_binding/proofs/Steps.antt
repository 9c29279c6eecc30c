-- What one more event does to the standing of a domain, and to the round.
use Rattle.std.proofs.Common.{◌≡◌, ℕ, ◌+◌, min, false, ltb, List, [], ◌∷◌}
use Rattle.std.proofs.Common.{length, drop, Some, None, refl, ap, ◌∙◌, arith}
use Rattle.std.specs.Prelude.{filter, is_some}
use Rattle.std.proofs.lemmas.Bool.Decides.{nat_tests}
use Rattle.yp_io.specs.declared.stream.Peer.{Peer}
use Rattle.yp_binding.specs.declared.event.Event.{Event}
use Rattle.yp_binding.specs.declared.event.Event.TheVariants.{Called, Pinged, Offered, Quiet}
use Rattle.yp_binding.specs.Events.{binds, is_quiet, is_ping, latest, quiet_turns, binding_of}
use Rattle.yp_binding.specs.Rounds.{this_round, round_begin, ping_count, out, first_number}
use Rattle.yp_binding.specs.inside.Standings.{bound_by, rested, bound_to, standing_of}
use Rattle.yp_binding.proofs.Lists.{before_first-yes, before_first-no}

-- ---- an event that binds the domain

latest_bound : (d : ℕ) (e : Event) (es : List Event) (p : Peer) → binds d e ≡ Some p → latest d (e ∷ es) ≡ Some p
unfolding latest
latest_bound d e es p is = rw is refl

turns_bound : (d : ℕ) (e : Event) (es : List Event) (p : Peer) → binds d e ≡ Some p → quiet_turns d (e ∷ es) ≡ 0
unfolding quiet_turns
turns_bound d e es p is =
    ap (λ (xs : List Event). length (filter is_quiet xs))
    (before_first-yes (λ event. is_some (binds d event)) e es (rw is refl))

-- ---- one that doesn't

latest_other : (d : ℕ) (e : Event) (es : List Event) → binds d e ≡ None → latest d (e ∷ es) ≡ latest d es
unfolding latest
latest_other d e es is = rw is refl

turns_other : (d : ℕ) (e : Event) (es : List Event) → binds d e ≡ None → is_quiet e ≡ false
    → quiet_turns d (e ∷ es) ≡ quiet_turns d es
unfolding quiet_turns
turns_other d e es is heard =
    ap (λ (xs : List Event). length (filter is_quiet xs))
    (before_first-no (λ event. is_some (binds d event)) e es (rw is refl))
    ∙ rw heard refl

turns_quiet : (d : ℕ) (es : List Event) → quiet_turns d (Quiet ∷ es) ≡ quiet_turns d es + 1
unfolding quiet_turns
turns_quiet d es =
    ap (λ (xs : List Event). length (filter is_quiet xs))
    (before_first-no (λ event. is_some (binds d event)) Quiet es refl)
    ∙ omega arith

-- ---- the round

pub begin_heard : (e : Event) (es : List Event) → is_quiet e ≡ false → round_begin (e ∷ es) ≡ round_begin es
unfolding round_begin this_round
begin_heard e es heard =
    ap (λ (xs : List Event). drop (length xs) (e ∷ es)) (before_first-no is_quiet e es heard)

pub begin_quiet : (es : List Event) → round_begin (Quiet ∷ es) ≡ Quiet ∷ es
unfolding round_begin this_round
begin_quiet es = refl

pub out_other : (e : Event) (es : List Event) → is_quiet e ≡ false → is_ping e ≡ false → out (e ∷ es) ≡ out es
unfolding out this_round
out_other e es heard none =
    ap (λ (xs : List Event). length (filter is_ping xs)) (before_first-no is_quiet e es heard) ∙ rw none refl

pub out_ping : (es : List Event) → out (Pinged ∷ es) ≡ out es + 1
unfolding out this_round
out_ping es =
    ap (λ (xs : List Event). length (filter is_ping xs)) (before_first-no is_quiet Pinged es refl) ∙ omega arith

pub out_quiet : (es : List Event) → out (Quiet ∷ es) ≡ 0
unfolding out this_round
out_quiet es = refl

pub first_heard : (e : Event) (es : List Event) → is_quiet e ≡ false → first_number (e ∷ es) ≡ first_number es
unfolding first_number
first_heard e es heard = ap (λ (xs : List Event). ping_count xs + 1) (begin_heard e es heard)

no_pings : ping_count [] ≡ ping_count (round_begin []) + out []
unfolding round_begin this_round out
no_pings = refl

-- the pings before the round and those in it are all of them
all_pings : (es : List Event) → ping_count es ≡ ping_count (round_begin es) + out es
all_pings [] = no_pings
all_pings (Quiet ∷ es) = rw (begin_quiet es, out_quiet es) (omega arith)
all_pings (Pinged ∷ es) =
    let more = all_pings es in
    rw (begin_heard Pinged es refl, out_ping es) (omega (arith, more))
all_pings (Called set ∷ es) =
    let more = all_pings es in
    rw (begin_heard (Called set) es refl, out_other (Called set) es refl refl) more
all_pings (Offered taken ∷ es) =
    let more = all_pings es in
    rw (begin_heard (Offered taken) es refl, out_other (Offered taken) es refl refl) more

pub first_quiet : (es : List Event) → first_number (Quiet ∷ es) ≡ first_number es + out es
unfolding first_number
first_quiet es =
    let more = all_pings es in
    ap (λ (xs : List Event). ping_count xs + 1) (begin_quiet es) ∙ omega (arith, more)

-- ---- the standing of a domain

pub standing_bound : (d : ℕ) (e : Event) (es : List Event) (p : Peer) → binds d e ≡ Some p → is_quiet e ≡ false
    → standing_of d (e ∷ es) ≡ bound_to (standing_of d es) p
unfolding standing_of
standing_bound d e es p is heard =
    rw (latest_bound d e es p is, turns_bound d e es p is, begin_heard e es heard) refl

pub standing_other : (d : ℕ) (e : Event) (es : List Event) → binds d e ≡ None → is_quiet e ≡ false
    → standing_of d (e ∷ es) ≡ standing_of d es
unfolding standing_of
standing_other d e es is heard =
    rw (latest_other d e es is, turns_other d e es is heard, begin_heard e es heard) refl

same_turns : (n : ℕ) → min (n + 1) 3 ≡ min (min n 3 + 1) 3
same_turns n = omega arith

ends_same : (n : ℕ) → ltb (n + 1) 3 ≡ ltb (min (min n 3 + 1) 3) 3
ends_same n = grind (arith, nat_tests)

within_same : (n : ℕ) → ltb (min n 3) 3 ≡ ltb n 3
within_same n = grind (arith, nat_tests)

pub standing_quiet : (d : ℕ) (es : List Event) → standing_of d (Quiet ∷ es) ≡ rested (standing_of d es)
unfolding standing_of
standing_quiet d es =
    rw (
      begin_quiet es,
      latest_other d Quiet es refl,
      turns_quiet d es,
      ends_same (quiet_turns d es),
      same_turns (quiet_turns d es),
    )
    refl

-- the server that a domain is bound to
pub bound_standing : (d : ℕ) (es : List Event) → bound_by (standing_of d es) ≡ binding_of d es
unfolding standing_of
bound_standing d es = rw (within_same (quiet_turns d es)) refl

pub asked_standing : (d : ℕ) (es : List Event) → (standing_of d es).asked ≡ binding_of d (round_begin es)
unfolding standing_of
asked_standing d es = refl
