-- A caller that is told by its port mapper.
use Rattle.std.proofs.Common.{◌≡◌, ◌⊎◌, inl, inr, ℕ, ◌+◌, ◌≤◌, Bool, true, ◌==◌, List, [], ◌∷◌, ◌++◌, Option, None, Some, IsSome, refl, sym, ◌∙◌, ap, subst, append_assoc, arith}
use Rattle.yp_io.specs.Counts.{HasRisen}
use Rattle.yp_io.specs.Dials.{DialTells, Sending, Asked, GainsItem, came_in}
use Rattle.yp_io.specs.declared.stream.Peer.{Peer}
use Rattle.yp_messages.specs.declared.transfer.XfrStat.{XfrStat}
use Rattle.yp_messages.specs.Numbers.{push_version}
use Rattle.yp_binding.specs.portmap.Asking.{getport_call}
use Rattle.yp_binding.specs.portmap.Numbers.{mapper_port, udp}
use Rattle.yp_transfer.specs.declared.calling_back.Asker.{Asker}
use Rattle.yp_transfer.specs.CallBack.{called_at, question, port_told, call_to, calls_to, GainsItems, AsksAndPosts, Sends, TellsBack}
use Rattle.yp_transfer.specs.inside.CallBack.{TellsPort, TellsAt}

-- what came of a question to the port mapper of a caller
pub port_asked : (asker : Asker) (piece buf : List ℕ) (came : Option ℕ) (port : Option ℕ) (old new : Option (List Sending))
    → piece ≡ getport_call asker.transid asker.prog push_version udp
    → GainsItem (Asked (called_at asker mapper_port) piece (came_in buf came)) old new
    → port ≡ port_told asker.transid (came_in buf came) → TellsPort asker port old new
port_asked asker piece buf came port old new is gains told = record {
  came = came_in buf came;
  asked = subst (λ (p : List ℕ). GainsItem (Asked (called_at asker mapper_port) p (came_in buf came)) old new) is gains;
  is_told = told;
}

-- two items, one after the other
gains_two : {A : Type 0} (a b : A) (old mid new : Option (List A)) → GainsItem a old mid → GainsItem b mid new
    → GainsItems (a ∷ b ∷ []) old new
gains_two {A = A} a b None mid new first second = tt
gains_two {A = A} a b (Some xs) None new first second = absurd first
gains_two {A = A} a b (Some xs) (Some ys) None first second = absurd second
gains_two {A = A} a b (Some xs) (Some ys) (Some zs) first second =
    second ∙ ap (λ (l : List A). l ++ b ∷ []) first ∙ append_assoc xs (a ∷ []) (b ∷ [])

-- one item is a list of one
gains_one : {A : Type 0} (a : A) (old new : Option (List A)) → GainsItem a old new → GainsItems (a ∷ []) old new
gains_one a None new gains = tt
gains_one a (Some xs) None gains = absurd gains
gains_one a (Some xs) (Some ys) gains = gains

is_zero : (n : ℕ) → n ≡ 0 → (n == 0) ≡ true
is_zero n is = rw is refl

-- what is told of a caller that named no port
unnamed : (asker : Asker) (stat : XfrStat) (old new : DialTells) → asker.port ≡ 0 → new.past ≡ old.past
    → old.faults ≤ new.faults
    → AsksAndPosts asker stat (HasRisen old.faults new.faults) old.letters new.letters → TellsBack asker stat old new
unnamed asker stat old new port past faults asks = record {
  past = past;
  never_falls = faults;
  told = inl (subst
      (λ (named : Bool). Sends named asker stat (HasRisen old.faults new.faults) old.letters new.letters)
      (sym (is_zero asker.port port)) asks);
}

-- a port mapper that tells none
pub mapper_tells_none : (asker : Asker) (stat : XfrStat) (old new : DialTells) → asker.port ≡ 0
    → new.past ≡ old.past → old.faults ≤ new.faults → TellsPort asker None old.letters new.letters
    → TellsBack asker stat old new
mapper_tells_none asker stat old new port past faults asks = unnamed asker stat old new port past faults (record {
  came = asks.came;
  sent = inl (subst (λ (told : Option ℕ). GainsItems (question asker asks.came ∷ calls_to asker stat told) old.letters new.letters)
      asks.is_told (gains_one (question asker asks.came) old.letters new.letters asks.asked));
})

-- a post behind the question
posted : (asker : Asker) (stat : XfrStat) (port : ℕ) (came : Option (List ℕ)) (failed risen : Type 0)
    (old mid new : Option (List Sending)) → (risen → failed) → Some port ≡ port_told asker.transid came
    → GainsItem (question asker came) old mid → GainsItem (call_to asker stat port) mid new ⊎ ((new ≡ mid) × risen)
    → AsksAndPosts asker stat failed old new
posted asker stat port came failed risen old mid new rises told asked (inl gains) = record {
  came = came;
  sent = inl (subst (λ (t : Option ℕ). GainsItems (question asker came ∷ calls_to asker stat t) old new) told
      (gains_two (question asker came) (call_to asker stat port) old mid new asked gains));
}
posted asker stat port came failed risen old mid new rises told asked (inr unsent) = record {
  came = came;
  sent = inr (
    subst (λ (letters : Option (List Sending)). GainsItem (question asker came) old letters) (sym unsent.0) asked,
    subst (λ (t : Option ℕ). IsSome t) told refl,
    rises unsent.1,
  );
}

-- a port mapper that tells one
pub mapper_tells_port : (asker : Asker) (stat : XfrStat) (port : ℕ) (old mid new : DialTells) → asker.port ≡ 0
    → mid.past ≡ old.past → old.faults ≤ mid.faults → TellsPort asker (Some port) old.letters mid.letters
    → TellsAt port asker stat mid new → TellsBack asker stat old new
mapper_tells_port asker stat port old mid new zero past faults asks tells =
    unnamed asker stat old new zero (tells.past ∙ past) (omega (arith, faults, tells.never_falls))
    (posted asker stat port asks.came (HasRisen old.faults new.faults) (HasRisen mid.faults new.faults) old.letters
    mid.letters new.letters (λ risen. omega (arith, risen, faults)) asks.is_told asks.asked tells.told)
