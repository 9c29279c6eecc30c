-- What the code keeps of a binder stays true by each event.
use Rattle.std.proofs.Common.{◌≡◌, ◌≢◌, ℕ, ◌+◌, ◌%◌, ◌^◌, ◌<◌, ◌≤◌, false, List, [], ◌∷◌, length, map}
use Rattle.std.proofs.Common.{set, get_or, Some, None, refl, sym, ap, ◌∙◌, arith, inl, inr}
use Rattle.std.specs.Prelude.{replicate}
use Rattle.std.specs.List.{slice_get}
use Rattle.std.proofs.lemmas.Bool.{cases_eq, ne_eqb}
use Rattle.std.proofs.lemmas.Bool.Decides.{Decides-eqb}
use Rattle.std.proofs.lemmas.List.{length-set, get_or-set_same, get_or-set_other, get_or-replicate, length-replicate}
use Rattle.std.proofs.lemmas.List.{length-map, get_or-map, get_or_read}
use Rattle.yp_io.specs.declared.stream.Peer.{Peer}
use Rattle.yp_binding.specs.declared.binder.Policy.{Policy}
use Rattle.yp_binding.specs.declared.event.Binding.{Binding}
use Rattle.yp_binding.specs.declared.event.Event.{Event}
use Rattle.yp_binding.specs.declared.event.Event.TheVariants.{Pinged, Quiet}
use Rattle.yp_binding.specs.declared.standing.BindingState.{BindingState}
use Rattle.yp_binding.specs.Events.{is_quiet, server_for, latest, quiet_turns, binding_of}
use Rattle.yp_binding.specs.Rounds.{Bindings, with_event, round_begin, this_round, out, first_number, targets}
use Rattle.yp_binding.specs.inside.Rounds.{pings_left}
use Rattle.yp_binding.specs.inside.Standings.{fresh, rested, bound_to, standing_of}
use Rattle.yp_binding.specs.Kept.{servers_max}
use Rattle.yp_binding.specs.inside.Kept.{domains_max, Keeps, Binds}
use Rattle.yp_binding.proofs.Lists.{slice_get-there}
use Rattle.yp_binding.proofs.Steps.{begin_heard, out_other, out_ping, out_quiet, first_heard, first_quiet, standing_bound}
use Rattle.yp_binding.proofs.Steps.{standing_other, standing_quiet, asked_standing}

-- the targets of a round stay as they were when it began
targets_same : (bindings : Bindings) (e : Event) → is_quiet e ≡ false
    → targets (with_event bindings e) ≡ targets bindings
unfolding targets
targets_same bindings e heard = rw (begin_heard e bindings.events heard) refl

server_same : (domain : ℕ) (server : Peer)
    → server_for domain (Some (record { domain = domain; server = server })) ≡ Some server
server_same domain server = rw ((Decides-eqb domain domain).1 refl) refl

server_other : (domain other : ℕ) (server : Peer) → other ≢ domain
    → server_for other (Some (record { domain = domain; server = server })) ≡ None
server_other domain other server differs = rw (ne_eqb domain other (λ q. differs (sym q))) refl

pub binds_one : (bindings : Bindings) (standings : List BindingState) (pinged first next : ℕ) (binding : Binding)
    (e : Event)
    → Keeps bindings standings pinged first next → Binds (length bindings.domains) (Some binding) e
    → Keeps (with_event bindings e)
    (set standings binding.domain (bound_to (get_or standings binding.domain fresh) binding.server)) pinged first next
binds_one bindings standings pinged first next binding e kept told =
    let es = bindings.events in
    let domain = binding.domain in
    let server = binding.server in
    let new = bound_to (get_or standings domain fresh) server in
    let within : domain < length standings = omega (arith, told.within, kept.count) in
    record {
      few = kept.few;
      few_servers = kept.few_servers;
      count = length-set standings domain new ∙ kept.count;
      by_events = λ d lt.
          let inside : d < length standings = omega (arith, lt, length-set standings domain new) in
          elim (cases_eq d domain) [
            | inl is ↦
                rw is
                (get_or-set_same standings domain new fresh within
                ∙ ap (λ (s : BindingState). bound_to s server) (kept.by_events domain within)
                ∙ sym (standing_bound domain e es server (told.bound domain ∙ server_same domain server) told.is_heard))
            | inr differs ↦
                get_or-set_other standings domain d new fresh differs ∙ kept.by_events d inside
                ∙ sym (standing_other d e es (told.bound d ∙ server_other domain d server differs) told.is_heard)
          ];
      are_out = kept.are_out ∙ sym (out_other e es told.is_heard told.pings_none);
      within = rw (targets_same bindings e told.is_heard) kept.within;
      first = rw (first_heard e es told.is_heard) kept.first;
      next = rw (first_heard e es told.is_heard) kept.next;
    }

pub passes : (bindings : Bindings) (standings : List BindingState) (pinged first next : ℕ) (e : Event)
    → Keeps bindings standings pinged first next → Binds (length bindings.domains) None e
    → Keeps (with_event bindings e) standings pinged first next
passes bindings standings pinged first next e kept told =
    let es = bindings.events in
    record {
      few = kept.few;
      few_servers = kept.few_servers;
      count = kept.count;
      by_events = λ d lt. kept.by_events d lt ∙ sym (standing_other d e es (told.bound d) told.is_heard);
      are_out = kept.are_out ∙ sym (out_other e es told.is_heard told.pings_none);
      within = rw (targets_same bindings e told.is_heard) kept.within;
      first = rw (first_heard e es told.is_heard) kept.first;
      next = rw (first_heard e es told.is_heard) kept.next;
    }

more_mod : (number pinged next : ℕ) → next ≡ (number + pinged) % 2 ^ 32
    → (next + 1) % 2 ^ 32 ≡ (number + (pinged + 1)) % 2 ^ 32
more_mod number pinged next is = omega (arith, is)

pub pings : (bindings : Bindings) (standings : List BindingState) (pinged first next : ℕ) (to : Binding)
    → Keeps bindings standings pinged first next → Some to ≡ slice_get (targets bindings) pinged
    → Keeps (with_event bindings Pinged) standings (pinged + 1) first ((next + 1) % 2 ^ 32)
pings bindings standings pinged first next to kept there =
    let es = bindings.events in
    record {
      few = kept.few;
      few_servers = kept.few_servers;
      count = kept.count;
      by_events = λ d lt. kept.by_events d lt ∙ sym (standing_other d Pinged es refl refl);
      are_out = ap (λ (n : ℕ). n + 1) kept.are_out ∙ sym (out_ping es);
      within =
          let under = slice_get-there (targets bindings) pinged to (sym there) in
          rw (targets_same bindings Pinged refl) (omega (arith, under));
      first = rw (first_heard Pinged es refl) kept.first;
      next = rw (first_heard Pinged es refl) (more_mod (first_number es) pinged next kept.next);
    }

pub fewer : (bindings : Bindings) (standings : List BindingState) (pinged first next : ℕ) (to : Binding)
    → Keeps bindings standings pinged first next → Some to ≡ slice_get (targets bindings) pinged
    → pings_left (with_event bindings Pinged) < pings_left bindings
fewer bindings standings pinged first next to kept there =
    let under = slice_get-there (targets bindings) pinged to (sym there) in
    rw (targets_same bindings Pinged refl, out_ping bindings.events) (omega (arith, under, kept.are_out))

pub quiets : (bindings : Bindings) (standings : List BindingState) (pinged first next : ℕ)
    → Keeps bindings standings pinged first next
    → Keeps (with_event bindings Quiet) (map rested standings) 0 next next
quiets bindings standings pinged first next kept =
    let es = bindings.events in
    let number : next ≡ first_number (Quiet ∷ es) % 2 ^ 32 =
    kept.next ∙ ap (λ (n : ℕ). (first_number es + n) % 2 ^ 32) kept.are_out
    ∙ ap (λ (n : ℕ). n % 2 ^ 32) (sym (first_quiet es)) in
    let add : first_number (Quiet ∷ es) + 0 ≡ first_number (Quiet ∷ es) = omega arith in
    record {
      few = kept.few;
      few_servers = kept.few_servers;
      count = length-map standings rested ∙ kept.count;
      by_events = λ d lt.
          let inside : d < length standings = omega (arith, lt, length-map standings rested) in
          get_or-map rested standings d fresh fresh inside ∙ ap rested (kept.by_events d inside)
          ∙ sym (standing_quiet d es);
      are_out = sym (out_quiet es);
      within = omega arith;
      first = number;
      next = rw add number;
    }

pub begins : (domains : List (List ℕ)) (servers : List Peer) (policy : Policy) → length domains ≤ domains_max
    → length servers ≤ servers_max
    → Keeps (record { domains = domains; servers = servers; policy = policy; events = [] })
    (replicate (length domains) fresh) 0 1 1
unfolding standing_of latest quiet_turns out first_number round_begin this_round
begins domains servers policy few few_servers = record {
  few = few;
  few_servers = few_servers;
  count = length-replicate (length domains) fresh;
  by_events = λ d lt.
      get_or-replicate (length domains) d fresh fresh (omega (arith, lt, length-replicate (length domains) fresh));
  are_out = refl;
  within = omega arith;
  first = refl;
  next = refl;
}

-- the server that a domain was bound to when the round began
pub asked_at : (bindings : Bindings) (standings : List BindingState) (pinged first next domain : ℕ) (standing : BindingState)
    → Keeps bindings standings pinged first next → domain < length standings
    → standing ≡ get_or standings domain standing → standing.asked ≡ binding_of domain (round_begin bindings.events)
asked_at bindings standings pinged first next domain standing kept within read =
    ap (λ (s : BindingState). s.asked)
    (get_or_read standings domain standing within read fresh ∙ kept.by_events domain within)
    ∙ asked_standing domain bindings.events
