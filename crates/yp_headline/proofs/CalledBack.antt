-- A letter of a server calls back a transfer that a call took which came.
use Rattle.std.proofs.Common.{◌≡◌, ℕ, ℤ, Bool, true, false, cond, ◌||◌, List, [], ◌∷◌, ◌++◌, length, Option, Some, None, Result, Ok, Err, refl, sym, ap, ◌∙◌, subst, inl, inr}
use Rattle.std.specs.Prelude.{Contains, IfSome, slice_get, ◌==◌}
use Rattle.std.specs.Option.{ok_or}
use Rattle.std.specs.List.{AllByRecursion}
use Rattle.yp_io.specs.declared.stream.Peer.{Peer}
use Rattle.yp_io.specs.Dials.{Wires, Dialing}
use Rattle.yp_rpc.specs.Called.{call_of}
use Rattle.yp_messages.specs.Transfers.{resp_xfr, xfr_number}
use Rattle.yp_messages.specs.declared.transfer.XfrStat.{XfrStat}
use Rattle.yp_messages.specs.declared.transfer.XfrStat.TheVariants.{Succ, Maddr as NoAddress}
use Rattle.yp_version.specs.Versions.{MapVersion}
use Rattle.yp_board.specs.Catalogues.{Catalogue, Name}
use Rattle.yp_board.specs.Logs.{Log}
use Rattle.yp_board.specs.Views.{IsFront}
use Rattle.yp_publisher.specs.declared.install.Origin.TheVariants.{Fetched as FromSource}
use Rattle.yp_publisher.specs.sharing.Shares.{IsShownBehind, offer_behind}
use Rattle.yp_transfer.specs.declared.fault.XfrFault.{XfrFault}
use Rattle.yp_transfer.specs.declared.fault.XfrFault.TheVariants.{Maddr, Badargs}
use Rattle.yp_transfer.specs.declared.calling_back.Asker.{Asker}
use Rattle.yp_transfer.specs.Dialing.{ByAddress, sought}
use Rattle.yp_transfer.specs.Fetching.{Wanted, wanted_of, FetchOutcome, against_names}
use Rattle.yp_transfer.specs.HostTable.{HostList, find}
use Rattle.yp_answer.specs.Transfer.{Taken}
use Rattle.yp_worker.specs.datagrams.Queues.{WeighTheSame}
use Rattle.yp_host.specs.declared.workers.call_backs.CallBack.{CallBack}
use Rattle.yp_host.specs.workers.CallBacks.{version_in}
use Rattle.yp_host.specs.workers.Statuses.{InstallsAs, wanted_behind, HasStatus}
use Rattle.yp_host.specs.workers.Wires.{CameByWire}
use Rattle.yp_host.specs.workers.Workers.{ShowsFetched}
use Rattle.yp_headline.specs.World.{World, Letter}
use Rattle.yp_headline.specs.Publishing.{IsAmong, IsMarked, IsFetched}
use Rattle.yp_headline.specs.Sources.{IsOfSource}
use Rattle.yp_headline.specs.Calling.{known_before, IsAskedFor}
use Rattle.yp_headline.proofs.Steps.{front_then}
use Rattle.yp_headline.proofs.Posting.{never_succeeds}
use Rattle.yp_headline.proofs.Weighed.{contains_among, all_among, all_so, told_among}
use Rattle.yp_headline.proofs.Letters.{IsOfOne}
use Rattle.yp_headline.proofs.Carrying.{IsOfCall}

-- ---- the names of a map that was fetched

no_fault : (version : MapVersion) (fault : XfrFault) → (let one : FetchOutcome = Ok version in one) ≡ Err fault → ⊥
no_fault version fault is = cc

-- where a source was sought, the names aren't empty
names_stand : (domain map source : Bool) (found : Result Peer XfrFault) (peer : Peer)
    → cond (domain || map || source) (Err Badargs) found ≡ Ok peer
    → (let one : Option XfrFault = cond (domain || map) (Some Badargs) None in one) ≡ None
names_stand true map source found peer is = absurd cc
names_stand false true source found peer is = absurd cc
names_stand false false source found peer is = refl

by_address : (wanted : Wanted) (sought_is : Result Peer XfrFault) (version : MapVersion) (old new : Dialing)
    → ByAddress wanted sought_is (Ok version) old new → (peer : Peer) × (sought_is ≡ Ok peer)
by_address wanted (Err fault) version old new by = absurd (no_fault version fault by.0)
by_address wanted (Ok peer) version old new by = (peer, refl)

given_so : (own : List ℕ) (number : ℕ) (outcome : FetchOutcome) (stat : XfrStat) (old new : Log)
    → InstallsAs own number outcome stat old new → stat ≡ Succ → (version : MapVersion) × (outcome ≡ Ok version)
given_so own number (Ok version) stat old new installs done = (version, refl)
given_so own number (Err fault) stat old new installs done = absurd (never_succeeds fault (sym installs.0 ∙ done))

pub named_so : (served : Catalogue) (hosts : HostList) (taken : Taken) (stat : XfrStat) (old new : Log)
    → HasStatus served hosts taken stat old new → stat ≡ Succ → (name : Name) → slice_get served.maps taken.map ≡ Some name
    → against_names (wanted_of name.0 name.1 None false) ≡ None
named_so served hosts taken stat old new (inl none) done name there =
    absurd (let e : Succ ≡ NoAddress = sym done ∙ none.1 in cc)
named_so served hosts taken stat old new (inr some) done name there =
    let fetches = some.1 in
    let gave = given_so served.own taken.map fetches.outcome stat old new fetches.installs done in
    let wanted = wanted_behind taken.map name old in
    let from = subst (λ (o : Option Name). IfSome o (λ name. ByAddress (wanted_behind taken.map name old)
    (sought (wanted_behind taken.map name old) taken.source hosts) fetches.outcome fetches.before fetches.after)) there
    fetches.fetches in
    let peer = by_address wanted (sought wanted taken.source hosts) gave.0 fetches.before fetches.after
    (subst (λ (o : FetchOutcome). ByAddress wanted (sought wanted taken.source hosts) o fetches.before fetches.after) gave.1 from) in
    names_stand (length name.0 == 0) (length name.1 == 0) (length taken.source == 0) (ok_or (find taken.source hosts) Maddr) peer.0
    peer.1

-- ---- what was shown

record ShownSo (own : List ℕ) (number : ℕ) (shown : Option MapVersion) (old new : Log) : Type 0 where
  version : MapVersion
  is : shown ≡ Some version
  behind : IsShownBehind own number version FromSource old new

shown_so : (own : List ℕ) (number : ℕ) (stat : XfrStat) (shown : Option MapVersion) (old new : Log) → stat ≡ Succ
    → ShowsFetched own number stat shown old new → ShownSo own number shown old new
shown_so own number stat (Some version) old new done shows = record {
  version = version;
  is = refl;
  behind = subst (λ (s : XfrStat). ShowsFetched own number s (Some version) old new) done shows;
}
shown_so own number stat None old new done shows =
    absurd (subst (λ (s : XfrStat). ShowsFetched own number s None old new) done shows)

-- ---- what is said

says_same : (prog prog' transid transid' : ℕ) (number number' : ℤ) → prog ≡ prog' → transid ≡ transid' → number ≡ number'
    → call_of resp_xfr transid prog 1 1 (transid, number) ≡ call_of resp_xfr transid' prog' 1 1 (transid', number')
says_same prog prog' transid transid' number number' a b c =
    ap (λ (p : ℕ). call_of resp_xfr transid p 1 1 (transid, number)) a
    ∙ ap (λ (t : ℕ). call_of resp_xfr t prog' 1 1 (t, number)) b
    ∙ ap (λ (z : ℤ). call_of resp_xfr transid' prog' 1 1 (transid', z)) c

module _ (world : World) (hosts : HostList) (begun log : Log) (past past' : Option Wires)
    (given : (number : ℕ) (fetched stored : MapVersion) → CameByWire past past' fetched → IsMarked fetched stored
    → ((name : Name) → slice_get world.catalogue.maps number ≡ Some name
    → against_names (wanted_of name.0 name.1 None false) ≡ None)
    → (is : IsFetched world stored) × IsOfSource world number is.gives stored) where
  module _ (told : List CallBack) (are : AllByRecursion (IsOfCall world hosts begun log) told)
      (came : (call_back : CallBack) → Contains told call_back → IfSome (version_in call_back) (CameByWire past past')) where
    -- the version of one that says SUCC
    shows : (y : CallBack) → IsAmong told y → (is : IsOfCall world hosts begun log y) → y.stat ≡ Succ
        → (version : MapVersion) × (before : Log) × IsFront (known_before is.path begun is.front) before
        × IsFront (before ++ (is.taken.map, version) ∷ []) log
        × (fetched : IsFetched world version) × IsOfSource world is.taken.map fetched.gives version
    shows y among is done =
        let own = world.catalogue.own in
        let shown = shown_so own is.taken.map y.stat (version_in y) is.before is.after done is.tells.shows in
        let behind = shown.behind in
        let stored = (offer_behind is.taken.map shown.version FromSource behind.before).version in
        let has : Contains told y = subst (λ (l : List CallBack). Contains l y) (sym among.2) (contains_among among.0 among.1 y) in
        let by_wire = subst (λ (o : Option MapVersion). IfSome o (CameByWire past past')) shown.is (came y has) in
        let got = given is.taken.map shown.version stored by_wire refl
        (named_so world.catalogue hosts is.taken y.stat is.before is.after is.status done) in (
          stored,
          behind.before,
          front_then (known_before is.path begun is.front) is.before behind.before is.known behind.begins,
          subst (λ (l : Log). IsFront l log) behind.entry is.entered,
          got.0,
          got.1,
        )

    asked_for : (posted : List CallBack) → WeighTheSame posted told → (letter : Letter) → IsOfOne posted letter
        → IsAskedFor world begun log letter
    asked_for posted same letter of =
        let x = of.0 in
        let tells = of.2 in
        let found = told_among posted told same x of.1 in
        let y = found.0 in
        let alike = found.2 in
        let is = all_among (IsOfCall world hosts begun log) told y are found.1 in
        let asker = is.tells.asker in
        let port : x.asker.port ≡ is.taken.port = alike.port ∙ ap (λ (a : Asker). a.port) asker in (
          is.path,
          is.one,
          is.came,
          is.front,
          is.begins,
          is.ends,
          record {
            reply = is.reply;
            taken = is.taken;
            takes = is.takes;
            host = tells.host ∙ alike.addr ∙ ap (λ (a : Asker). a.addr) asker;
            port = λ some. tells.port (λ none. some (sym port ∙ none)) ∙ port;
            stat = y.stat;
            says = tells.says ∙ says_same x.asker.prog is.taken.prog x.asker.transid is.taken.transid (xfr_number x.stat)
                (xfr_number y.stat) (alike.prog ∙ ap (λ (a : Asker). a.prog) asker)
                (alike.transid ∙ ap (λ (a : Asker). a.transid) asker) alike.number;
            shows = shows y found.1 is;
          },
        )

    pub all_asked_for : (posted : List CallBack) → WeighTheSame posted told → (letters : List Letter)
        → AllByRecursion (IsOfOne posted) letters → AllByRecursion (IsAskedFor world begun log) letters
    all_asked_for posted same letters of =
        all_so (IsOfOne posted) (IsAskedFor world begun log) (asked_for posted same) letters of
