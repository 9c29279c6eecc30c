-- How a host over stored maps passes from one moment of a session to a later one.
use Rattle.std.proofs.Common.{◌≡◌, inl, inr, Ok, Err, None, Some, Result, ℕ, ◌<◌, Bool, true, false, List, [], ◌∷◌, ◌++◌, map, length, Option, IfSome, refl, sym, ◌∙◌, ap, subst, arith}
use Rattle.std.specs.List.{Contains, AllByRecursion}
use Rattle.std.proofs.lemmas.List.Elements.{recursion_from_All, All-contains_itself}
use Rattle.yp_io.specs.Counts.{next_count}
use Rattle.yp_messages.specs.declared.transfer.XfrStat.{XfrStat}
use Rattle.yp_version.specs.Versions.{MapVersion}
use Rattle.yp_board.specs.Catalogues.{Catalogue}
use Rattle.yp_publisher.specs.Standing.{Published}
use Rattle.yp_answer.specs.declared.procedure.Path.TheVariants.{Stream}
use Rattle.yp_answer.specs.Answers.{StepsWhere}
use Rattle.yp_answer.specs.declared.make.MakeJob.{MakeJob}
use Rattle.yp_answer.specs.Maps.{maps_of}
use Rattle.yp_answer.specs.Transfer.{Taken}
use Rattle.yp_answer.specs.Reply.{Response, Silence, Bytes, Takes, Open, reply, asks}
use Rattle.yp_answer.specs.declared.session.session.End.{End}
use Rattle.yp_answer.specs.declared.session.session.End.TheVariants.{Clean, Torn, TooLong, ReadFault, WriteFault, Enough}
use Rattle.yp_answer.specs.session.Wires.{Wire}
use Rattle.yp_answer.specs.session.Hosts.{Turn, CarriesWhere, Carries, Link}
use Rattle.yp_answer.specs.session.Runs.{Dialogue, Chain, Ends, unsent, Runs}
use Rattle.yp_host.specs.Locals.{Local, Telling, IsUsed, seen_of}
use Rattle.std.specs.Prelude.{IsTrue}
use Rattle.yp_publisher.specs.declared.install.Installed.{Installed}
use Rattle.yp_transfer.specs.declared.fault.XfrFault.{XfrFault}
use Rattle.yp_transfer.specs.HostTable.{HostList}
use Rattle.yp_transfer.specs.Fetching.{FetchOutcome}
use Rattle.yp_transfer.specs.Installing.{OpensAndOffers, marking, fetched_offer}
use Rattle.yp_transfer.specs.Transfers.{InstallsOutcome}
use Rattle.yp_host.specs.Transferring.{MapIsTransferred, request_for}
use Rattle.yp_texts.specs.After.{Material}
use Rattle.yp_answer.specs.Causes.{Told, Matter, OfText, OfNetgroups, Task, MaterialIsTold, IsMadeOf, IsAnew, TellsSame, task_of, task_at}
use Rattle.yp_host.specs.Making.{MapIsMade, OpensAndTries}
use Rattle.yp_host.specs.Connections.{Service, IsCalledFor, Transition, transition_of, transitions_of, GaveVersion, IsGiven, local_conduct}
use Rattle.yp_publisher.proofs.Growing.{front_none, front_then}
use Rattle.yp_publisher.proofs.Passing.{Respects, Sound, Passes, passes_none, passes_then, stays_on, opens_on}
use Rattle.yp_host.proofs.Passing.{offered_on, fetched_on}

-- ---- desks

pub used_never : {E : Type 0} (telling : Telling E) (desk : E) → IsUsed telling desk desk
used_never telling desk = record { tells = record { texts = λ file. refl; moment = refl }; hosts = refl; never_falls = omega arith; dial_never_falls = omega arith }

pub used_then : {E : Type 0} (telling : Telling E) (a b c : E) → IsUsed telling a b → IsUsed telling b c → IsUsed telling a c
used_then telling a b c first second = record {
  tells = record { texts = λ file. second.tells.texts file ∙ first.tells.texts file; moment = second.tells.moment ∙ first.tells.moment };
  hosts = second.hosts ∙ first.hosts;
  never_falls = omega (arith, first.never_falls, second.never_falls);
  dial_never_falls = omega (arith, first.dial_never_falls, second.dial_never_falls);
}

pub told_then : {a b c : Told} → TellsSame a b → TellsSame b c → TellsSame a c
told_then first second = record { texts = λ file. second.texts file ∙ first.texts file; moment = second.moment ∙ first.moment }

-- what is made of what is told later is made of what is told now
material_before : (first now : Told) (name : List ℕ) (material : Material) → TellsSame first now → MaterialIsTold now name material
    → MaterialIsTold first name material
material_before first now name material same told = record {
  text = subst (λ (o : Option (List ℕ)). IfSome o (λ text. material.text ≡ text)) (same.texts name) told.text;
  moment = subst (λ (o : Option ℕ). IfSome o (λ moment. material.moment ≡ moment)) same.moment told.moment;
}

made_before : (first now : Told) (matter : Matter) (own : List ℕ) (last : Option MapVersion) (version : MapVersion) → TellsSame first now
    → IsMadeOf now matter own last version → IsMadeOf first matter own last version
made_before first now (OfText reading name) own last version same made = record {
  material = made.material;
  of_told = material_before first now name made.material same made.of_told;
  built = made.built;
}
made_before first now (OfNetgroups field None) own last version same made = absurd made
made_before first now (OfNetgroups field (Some netgroups)) own last version same made = record {
  moment = made.moment;
  of_told = subst (λ (o : Option ℕ). IfSome o (λ known. made.moment ≡ known)) same.moment made.of_told;
  of_own = made.of_own;
  next = made.next;
  is = made.is;
  reverse = made.reverse;
  fits = made.fits;
}

anew_before : (first now : Told) (task : Task) (version : MapVersion) → TellsSame first now → IsAnew now task version → IsAnew first task version
anew_before first now task version same anew = made_before first now task.matter task.own task.last version same anew

module _ {D B E : Type 0} (service : Service D B E) (turns : List Turn) (transitions : List (Transition (Local D B E))) (first : Told) (table : HostList) where
  pub respects : Respects (IsGiven service turns transitions first table)
  respects number log other version front e given = elim given [
    | inl made ↦ inl (record {
      job = made.job;
      of_map = made.of_map;
      called = made.called;
      at = made.at;
      front = front_then made.at log other made.front front;
      anew = subst (λ (s : Option MapVersion). IsAnew first (task_of service.catalogue made.job made.at s) version) e made.anew;
    })
    | inr fetched ↦ inr (record {
      taken = fetched.taken;
      of_map = fetched.of_map;
      transition = fetched.transition;
      among = fetched.among;
      fetched = fetched.fetched;
      gave = fetched.gave;
      marked = subst (λ (s : Option MapVersion). version ≡ record fetched.fetched { secure = marking None s }) e fetched.marked;
    })
  ]

  -- what holds of the host at each moment
  pub record SoundHost (host : Local D B E) : Type 0 where
    pub maps : Sound service.keeping (IsGiven service turns transitions first table) respects host.published
    pub catalogue : host.published.catalogue ≡ service.catalogue
    pub told : TellsSame first (service.telling.told host.desk)
    pub hosts : service.telling.hosts host.desk ≡ table

  -- what holds of it at two moments
  pub record PassesHost (old new : Local D B E) : Type 0 where
    pub maps : Passes service.keeping (IsGiven service turns transitions first table) respects old.published new.published
    pub desk : IsUsed service.telling old.desk new.desk

  -- it was so before, and passed so
  abbrev pub GoesOnTo : Local D B E → Local D B E → Type 0
  GoesOnTo old new = SoundHost new × PassesHost old new

  goes_nowhere : (old new : Local D B E) → new ≡ old → SoundHost old → GoesOnTo old new
  goes_nowhere old new e sound =
      subst (λ (h : Local D B E). GoesOnTo old h) (sym e)
      (sound, record { maps = passes_none service.keeping (IsGiven service turns transitions first table) respects old.published sound.maps; desk = used_never service.telling old.desk })

  goes_twice : (old middle new : Local D B E) → GoesOnTo old middle → GoesOnTo middle new → GoesOnTo old new
  goes_twice old middle new f s = (
    s.0,
    record {
      maps = passes_then service.keeping (IsGiven service turns transitions first table) respects old.published middle.published new.published f.1.maps s.1.maps;
      desk = used_then service.telling old.desk middle.desk new.desk f.1.desk s.1.desk;
    },
  )

  -- a host whose maps went on, over a desk that tells the same
  with_maps : (old new : Local D B E) → SoundHost old → IsUsed service.telling old.desk new.desk
      → Sound service.keeping (IsGiven service turns transitions first table) respects new.published × Passes service.keeping (IsGiven service turns transitions first table) respects old.published new.published
      → GoesOnTo old new
  with_maps old new sound same went = (
    record { maps = went.0; catalogue = went.1.catalogue ∙ sound.catalogue; told = told_then sound.told same.tells; hosts = same.hosts ∙ sound.hosts },
    record { maps = went.1; desk = same },
  )

  -- ---- a map that is made

  is_made : (job : MakeJob) (old : Local D B E) (middle : Published D B) (version : MapVersion)
      → IsCalledFor service turns job → SoundHost old → middle.catalogue ≡ old.published.catalogue
      → IsAnew (service.telling.told old.desk) (task_at middle.catalogue job (service.keeping.log middle.board)) version
      → IsGiven service turns transitions first table job.map (service.keeping.log middle.board) version
  is_made job old middle version called sound same anew = inl (record {
    job = job;
    of_map = refl;
    called = called;
    at = service.keeping.log middle.board;
    front = front_none (service.keeping.log middle.board) (service.keeping.log middle.board) refl;
    anew =
        anew_before first (service.telling.told old.desk) (task_at service.catalogue job (service.keeping.log middle.board)) version sound.told
        (subst (λ (k : Catalogue). IsAnew (service.telling.told old.desk) (task_at k job (service.keeping.log middle.board)) version) (same ∙ sound.catalogue) anew);
  })

  opened_on : (stat : XfrStat) (job : MakeJob) (old new : Local D B E) → IsCalledFor service turns job → SoundHost old
      → job.map < length old.published.maps → OpensAndTries service.keeping service.telling job stat old new
      → Sound service.keeping (IsGiven service turns transitions first table) respects new.published × Passes service.keeping (IsGiven service turns transitions first table) respects old.published new.published
  opened_on stat job old new called sound kept step =
      let Is = IsGiven service turns transitions first table in
      let opened = opens_on service.keeping Is respects job.map old.published step.middle kept sound.maps step.opens in
      elim step.tries [
        | inl none ↦ subst (λ (p : Published D B). Sound service.keeping Is respects p × Passes service.keeping Is respects old.published p) (sym none.1) opened
        | inr built ↦
            let within : job.map < length step.middle.maps = subst (λ (n : ℕ). job.map < n) (sym step.opens.upheld.elsewhere.count) kept in
            let made = is_made job old step.middle built.0 called sound step.opens.upheld.catalogue built.1 in
            let installed = offered_on service.keeping Is respects job.map built.0 stat step.middle new.published within opened.0 step.opens.level made built.2 in
            (installed.0, passes_then service.keeping Is respects old.published step.middle new.published opened.1 installed.1)
      ]

  made_on : (stat : XfrStat) (job : MakeJob) (old new : Local D B E) → IsCalledFor service turns job → SoundHost old
      → MapIsMade service.keeping service.telling job stat old new → GoesOnTo old new
  made_on stat job old new called sound made =
      with_maps old new sound made.1.desk (elim made.1.ends [
        | inl stays ↦ stays_on service.keeping (IsGiven service turns transitions first table) respects job.map stays.fault old.published new.published sound.maps stays.stays
        | inr tries ↦ opened_on stat job old new called sound made.0 tries
      ])

  -- ---- a transfer

  -- a record whose transfer gave this version
  record Fetched (taken : Taken) (version : MapVersion) : Type 0 where
    transition : Transition (Local D B E)
    among : Contains transitions transition
    gave : GaveVersion service table taken version transition

  is_fetched : (taken : Taken) (middle : Published D B) (version : MapVersion) → Fetched taken version
      → IsGiven service turns transitions first table taken.map (service.keeping.log middle.board) (fetched_offer service.keeping (request_for taken) version middle).version
  is_fetched taken middle version fetched =
      inr (record { taken = taken; of_map = refl; transition = fetched.transition; among = fetched.among; fetched = version; gave = fetched.gave; marked = refl })

  offers_fetched : (taken : Taken) (result : Result Installed XfrFault) (old new : Local D B E) (version : MapVersion)
      → Fetched taken version → SoundHost old → taken.map < length old.published.maps
      → OpensAndOffers service.keeping (request_for taken) version result old.published new.published
      → Sound service.keeping (IsGiven service turns transitions first table) respects new.published × Passes service.keeping (IsGiven service turns transitions first table) respects old.published new.published
  offers_fetched taken result old new version fetched sound kept step =
      let Is = IsGiven service turns transitions first table in
      let opened = opens_on service.keeping Is respects taken.map old.published step.middle kept sound.maps step.opens in
      let within : taken.map < length step.middle.maps = subst (λ (n : ℕ). taken.map < n) (sym step.opens.upheld.elsewhere.count) kept in
      let given = is_fetched taken step.middle version fetched in
      let installed = fetched_on service.keeping Is respects taken.map (fetched_offer service.keeping (request_for taken) version step.middle) result step.middle new.published
      within opened.0 step.opens.level refl given step.offers in
      (installed.0, passes_then service.keeping Is respects old.published step.middle new.published opened.1 installed.1)

  installs_fetched : (taken : Taken) (outcome : FetchOutcome) (result : Result Installed XfrFault) (old new : Local D B E)
      → ((version : MapVersion) → outcome ≡ Ok version → Fetched taken version) → SoundHost old → taken.map < length old.published.maps
      → InstallsOutcome service.keeping (request_for taken) outcome result old.published new.published
      → Sound service.keeping (IsGiven service turns transitions first table) respects new.published × Passes service.keeping (IsGiven service turns transitions first table) respects old.published new.published
  installs_fetched taken (Err fault) result old new fetched sound kept installs =
      let Is = IsGiven service turns transitions first table in
      subst (λ (p : Published D B). Sound service.keeping Is respects p × Passes service.keeping Is respects old.published p) (sym installs.1)
      (sound.maps, passes_none service.keeping Is respects old.published sound.maps)
  installs_fetched taken (Ok version) result old new fetched sound kept installs = elim installs [
    | inl stays ↦ stays_on service.keeping (IsGiven service turns transitions first table) respects taken.map stays.why old.published new.published sound.maps stays.stays
    | inr step ↦ offers_fetched taken result old new version (fetched version refl) sound kept step
  ]

  carried_out : (taken : Taken) (turn : Turn) (before old new : Local D B E) → turn.taken ≡ Some taken → IsTrue turn.flushed
      → Contains transitions (transition_of before turn new) → old ≡ record before { asked = old.asked } → SoundHost old
      → MapIsTransferred service.keeping service.telling taken service.peer old new → GoesOnTo old new
  carried_out taken turn before old new took flushed among middle_is sound step =
      let done = step.transfers in
      let fetched : (version : MapVersion) → done.transfers.outcome ≡ Ok version → Fetched taken version = λ version gave. record {
        transition = transition_of before turn new;
        among = among;
        gave = record { took = took; flushed = flushed; middle = old; middle_is = middle_is; hosts_are = sound.hosts; carried = step; gave = gave };
      } in
      with_maps old new sound step.used (installs_fetched taken done.transfers.outcome done.result old new fetched sound step.inside done.transfers.installs)

  -- it is carried out where its reply was flushed
  carried_where : (flushed : Bool) (taken : Taken) (turn : Turn) (before old new : Local D B E) → turn.flushed ≡ flushed → turn.taken ≡ Some taken
      → (IsTrue flushed → Contains transitions (transition_of before turn new)) → old ≡ record before { asked = old.asked } → SoundHost old
      → CarriesWhere flushed (local_conduct service.keeping service.telling) taken service.peer old new → GoesOnTo old new
  carried_where true taken turn before old new flushed took among middle_is sound step =
      carried_out taken turn before old new took flushed (among refl) middle_is sound step.carried
  carried_where false taken turn before old new flushed took among middle_is sound step = goes_nowhere old new step sound

  -- ---- a record

  counted : (old new : Local D B E) → new ≡ record old { asked = next_count old.asked } → SoundHost old → GoesOnTo old new
  counted old new e sound =
      subst (λ (h : Local D B E). GoesOnTo old h) (sym e)
      (with_maps old (record old { asked = next_count old.asked }) sound (used_never service.telling old.desk)
      (sound.maps, passes_none service.keeping (IsGiven service turns transitions first table) respects old.published sound.maps))

  stepped_on : (asked : Bool) (old new : Local D B E) → SoundHost old
      → StepsWhere asked (λ old new. new ≡ record old { asked = next_count old.asked }) (seen_of service.keeping.log) old new → GoesOnTo old new
  stepped_on true old new sound step = counted old new step.0 sound
  stepped_on false old new sound step = goes_nowhere old new step sound

  -- a read step changes how often the host was asked, at most
  asked_alone : (asked : Bool) (old new : Local D B E)
      → StepsWhere asked (λ old new. new ≡ record old { asked = next_count old.asked }) (seen_of service.keeping.log) old new → new ≡ record old { asked = new.asked }
  asked_alone true old new step = subst (λ (h : Local D B E). h ≡ record old { asked = h.asked }) (sym step.0) refl
  asked_alone false old new step = subst (λ (h : Local D B E). h ≡ record old { asked = h.asked }) (sym step) refl

  carried_on : (response : Response) (turn : Turn) (before old new : Local D B E) → Contains turns turn
      → (IsTrue turn.flushed → Contains transitions (transition_of before turn new)) → old ≡ record before { asked = old.asked } → SoundHost old
      → reply Stream (maps_of (seen_of service.keeping.log old)) service.peer turn.message ≡ response
      → Carries (local_conduct service.keeping service.telling) service.peer response turn old new → GoesOnTo old new
  carried_on Silence turn before old new among passed middle_is sound is carried = goes_nowhere old new carried.3 sound
  carried_on (Bytes bytes) turn before old new among passed middle_is sound is carried = goes_nowhere old new carried.3 sound
  carried_on (Takes bytes taken) turn before old new among passed middle_is sound is carried =
      carried_where turn.flushed taken turn before old new refl carried.2 passed middle_is sound carried.3
  carried_on (Open xid job) turn before old new among passed middle_is sound is carried =
      let called : IsCalledFor service turns job =
      (turn, xid, record { among = among; maps = maps_of (seen_of service.keeping.log old); of_catalogue = sound.catalogue; gets = is }) in
      made_on carried.0 job old new called sound carried.4.made

  linked_on : (turn : Turn) (old new : Local D B E) → Contains turns turn → (IsTrue turn.flushed → Contains transitions (transition_of old turn new)) → SoundHost old
      → Link (local_conduct service.keeping service.telling) Stream service.peer turn old new → GoesOnTo old new
  linked_on turn old new among passed sound link =
      let stepped = stepped_on (asks Stream turn.message) old link.mid sound link.step in
      let carried = carried_on (reply Stream (maps_of (seen_of service.keeping.log link.mid)) service.peer turn.message) turn old link.mid new among passed
      (asked_alone (asks Stream turn.message) old link.mid link.step) stepped.0 refl link.carried in
      goes_twice old link.mid new stepped carried

  chain_on : (answered : List (Turn × Dialogue (Local D B E))) (rest : List Turn) (old new : Dialogue (Local D B E))
      → AllByRecursion (Contains turns) (map (λ one. one.0) answered ++ rest) → AllByRecursion (Contains transitions) (transitions_of old answered) → SoundHost old.host
      → Chain (local_conduct service.keeping service.telling) service.peer answered old new → GoesOnTo old.host new.host × AllByRecursion (Contains turns) rest
  chain_on [] rest old new among passed sound chain = (goes_nowhere old.host new.host (ap (λ (d : Dialogue (Local D B E)). d.host) chain) sound, among)
  chain_on (one ∷ answered) rest old new among passed sound chain =
      let first = linked_on one.0 old.host one.1.host among.0 (λ flushed. passed.0) sound chain.0.replied.link in
      let later = chain_on answered rest one.1 new among.1 passed.1 first.0 chain.1 in
      (goes_twice old.host one.1.host new.host first later.0, later.1)

  -- a reply that isn't flushed has no transfer carried out behind it
  unflushed : (turn : Turn) (old new : Local D B E) → turn.flushed ≡ false → IsTrue turn.flushed → Contains transitions (transition_of old turn new)
  unflushed turn old new e flushed = absurd (cc (e, flushed))

  ends_on : (most count : ℕ) (end : End) (last new : Dialogue (Local D B E)) (ends : Ends (local_conduct service.keeping service.telling) service.peer most count end last new)
      → AllByRecursion (Contains turns) (unsent (local_conduct service.keeping service.telling) service.peer most count end last new ends) → SoundHost last.host → GoesOnTo last.host new.host
  ends_on most count Clean last new ends among sound = goes_nowhere last.host new.host ends.1.1.host sound
  ends_on most count (Torn at) last new ends among sound = goes_nowhere last.host new.host ends.1.1.host sound
  ends_on most count (TooLong at) last new ends among sound = goes_nowhere last.host new.host ends.1.1.host sound
  ends_on most count ReadFault last new ends among sound = goes_nowhere last.host new.host ends.1.1.host sound
  ends_on most count WriteFault last new ends among sound =
      linked_on ends.1.0 last.host new.host among.0 (unflushed ends.1.0 last.host new.host ends.1.1.replied.flush) sound ends.1.1.replied.link
  ends_on most count Enough last new ends among sound = goes_nowhere last.host new.host (ap (λ (d : Dialogue (Local D B E)). d.host) ends.1) sound

-- the whole run of a session
pub session_on : {D B E : Type 0} (service : Service D B E) (first : Told) (table : HostList) (most : ℕ) (end : End) (old new : Dialogue (Local D B E)) (wires : List Wire)
    (runs : Runs (local_conduct service.keeping service.telling) service.peer most end old new wires)
    → SoundHost service runs.turns (transitions_of old runs.answered) first table old.host → GoesOnTo service runs.turns (transitions_of old runs.answered) first table old.host new.host
session_on service first table most end old new wires runs sound =
    let transitions = transitions_of old runs.answered in
    let all = recursion_from_All (Contains runs.turns) runs.turns (All-contains_itself runs.turns) in
    let passed = recursion_from_All (Contains transitions) transitions (All-contains_itself transitions) in
    let rest = unsent (local_conduct service.keeping service.telling) service.peer most (length runs.answered) end runs.last new runs.ends in
    let among : AllByRecursion (Contains runs.turns) (map (λ one. one.0) runs.answered ++ rest) =
    subst (λ (turns : List Turn). AllByRecursion (Contains runs.turns) turns) runs.all all in
    let chain = chain_on service runs.turns transitions first table runs.answered rest old runs.last among passed sound runs.chain in
    goes_twice service runs.turns transitions first table old.host runs.last.host new.host chain.0
    (ends_on service runs.turns transitions first table most (length runs.answered) end runs.last new runs.ends chain.1 chain.0.0)
