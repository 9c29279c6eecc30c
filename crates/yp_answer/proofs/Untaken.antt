-- What a transfer that is taken rests on: this server isn't the master of what is shown.
use Rattle.std.proofs.Common.{◌≡◌, ◌≢◌, ℕ, Bool, true, false, not, cond, List, Option, Some, None, Result, Ok, Err, ap, sym, ◌∙◌}
use Rattle.std.specs.Prelude.{bytes_eq, length, ◌||◌, ◌==◌}
use Rattle.std.proofs.lemmas.Slice.Eq.{bytes_eq-Decides}
use Rattle.yp_io.specs.declared.stream.Peer.{Peer}
use Rattle.yp_messages.specs.declared.transfer.XfrStat.{XfrStat}
use Rattle.yp_messages.specs.declared.transfer.XfrStat.TheVariants.{Refused, Badargs, Nodom}
use Rattle.yp_version.specs.Versions.{MapVersion}
use Rattle.yp_board.specs.Catalogues.{find, serves}
use Rattle.yp_board.specs.Logs.{shown}
use Rattle.yp_answer.specs.Maps.{Maps}
use Rattle.yp_answer.specs.Transfer.{XfrRequest, Taken, asked_source, is_mastered_by, entry_check, xfr_check}
use Rattle.yp_answer.specs.Reply.{Takes}
use Rattle.yp_answer.proofs.Opened.{IsAsked}

-- what passes a check that refuses first passes the rest of it
past : (refused : Bool) (stat : XfrStat) (later : Result ℕ XfrStat) (map : ℕ) → cond refused (Err stat) later ≡ Ok map → later ≡ Ok map
past true stat later map e = absurd cc
past false stat later map e = e

-- a map that is fetched isn't mastered here
of_unmastered : (mastered : Bool) (found map : ℕ) → cond mastered (Err Refused) (Ok found) ≡ Ok map → (found ≡ map) × (mastered ≡ false)
of_unmastered true found map e = absurd cc
of_unmastered false found map e = (cc, cc)

of_entry : (maps : Maps) (found : Option ℕ) (map : ℕ) → entry_check maps found ≡ Ok map → is_mastered_by maps.catalogue.own (shown map maps.log) ≡ false
of_entry maps None map e = absurd cc
of_entry maps (Some found) map e =
    let both = of_unmastered (is_mastered_by maps.catalogue.own (shown found maps.log)) found map e in
    ap (λ m. is_mastered_by maps.catalogue.own (shown m maps.log)) (sym both.0) ∙ both.1

unmastered : (own : List ℕ) (held : Option MapVersion) (version : MapVersion) → held ≡ Some version → is_mastered_by own held ≡ false → version.master ≢ own
unmastered own held version is not_own = λ same.
    let own_is : bytes_eq version.master own ≡ true = (bytes_eq-Decides version.master own).1 same in
    let other : is_mastered_by own (Some version) ≡ false = ap (is_mastered_by own) (sym is) ∙ not_own in
    absurd cc

-- a request that isn't refused passes each check
passed : (maps : Maps) (asked : XfrRequest) (map : ℕ) → xfr_check maps asked ≡ Ok map → is_mastered_by maps.catalogue.own (shown map maps.log) ≡ false
passed maps asked map e =
    let entry = find asked.0 asked.1.0 maps.catalogue in
    let unserved : Bool = not (serves asked.0 maps.catalogue) in
    let served = past (length asked.0 == 0 || length asked.1.0 == 0 || length (asked_source asked) == 0) Badargs (cond unserved (Err Nodom) (entry_check maps entry)) map e in
    of_entry maps entry map (past unserved Nodom (entry_check maps entry) map served)

pub taken_is_unmastered : (maps : Maps) (peer : Peer) (bytes : List ℕ) (taken : Taken) (version : MapVersion) → IsAsked maps peer (Takes bytes taken)
    → shown taken.map maps.log ≡ Some version → version.master ≢ maps.catalogue.own
taken_is_unmastered maps peer bytes taken version asked is =
    let same : taken.map ≡ asked.1 = ap (λ t. t.map) asked.3 in
    unmastered maps.catalogue.own (shown asked.1 maps.log) version (ap (λ m. shown m maps.log) (sym same) ∙ is) (passed maps asked.0 asked.1 asked.2)
