-- What the dial of a server posted: each letter tells of a call back that was told.
use Rattle.std.proofs.Common.{List, [], ◌∷◌, refl, ap, subst}
use Rattle.std.specs.List.{AllByRecursion}
use Rattle.yp_io.specs.Dials.{DialTells}
use Rattle.yp_board.specs.Catalogues.{Name}
use Rattle.yp_transfer.specs.HostTable.{HostList}
use Rattle.yp_transfer.specs.CallBack.{wants_call}
use Rattle.yp_host.specs.declared.workers.call_backs.CallBack.{CallBack}
use Rattle.yp_host.specs.workers.Uses.{DialUse, Fetching, Telling, UsesInTurn, told_in, IsUsedForTransfers}
use Rattle.yp_headline.specs.World.{Letter}
use Rattle.yp_headline.specs.Publishing.{IsAmong}
use Rattle.yp_headline.specs.inside.Files.{posted_between}
use Rattle.yp_headline.proofs.Posting.{Gains, gains_none, gains_then, gains_from, all_posted, AtMostOne, TellsAsker, calls_back}
use Rattle.yp_headline.proofs.Weighed.{all_both, all_so}

-- a letter tells of one of these call backs
abbrev pub IsOfOne : List CallBack → Letter → Type 0
IsOfOne told letter = (call_back : CallBack) × IsAmong told call_back × TellsAsker call_back.asker call_back.stat letter

one_at_most : (call_back : CallBack) (told : List CallBack) (letters : List Letter)
    → AtMostOne (TellsAsker call_back.asker call_back.stat) letters → AllByRecursion (IsOfOne (call_back ∷ told)) letters
one_at_most call_back told [] is = tt
one_at_most call_back told (letter ∷ []) is = ((call_back, ([], told, refl), is), tt)
one_at_most call_back told (letter ∷ other ∷ letters) is = absurd is

of_more : (call_back : CallBack) (told : List CallBack) (letter : Letter) → IsOfOne told letter → IsOfOne (call_back ∷ told) letter
of_more call_back told letter is = (
  is.0,
  (call_back ∷ is.1.0, is.1.1, ap (λ (l : List CallBack). call_back ∷ l) is.1.2),
  is.2,
)

module _ (hosts : HostList) (maps : List Name) where
  uses_post : (uses : List DialUse) (old new : DialTells) → UsesInTurn hosts maps uses old new
      → Gains (λ (letters : List Letter). AllByRecursion (IsOfOne (told_in uses)) letters) old.letters new.letters
  uses_post [] old new same =
      gains_none (λ (letters : List Letter). AllByRecursion (IsOfOne []) letters) tt old.letters new.letters
      (ap (λ (d : DialTells). d.letters) same)
  uses_post (Fetching source name shown outcome ∷ more) old new uses =
      gains_from (λ (letters : List Letter). AllByRecursion (IsOfOne (told_in more)) letters) old.letters uses.0.letters new.letters
      uses.1.2 (uses_post more uses.0 new uses.2)
  uses_post (Telling call_back ∷ more) old new uses =
      let told = told_in more in
      gains_then (AtMostOne (TellsAsker call_back.asker call_back.stat))
      (λ (letters : List Letter). AllByRecursion (IsOfOne told) letters)
      (λ (letters : List Letter). AllByRecursion (IsOfOne (call_back ∷ told)) letters)
      (λ some others one rest. all_both (IsOfOne (call_back ∷ told)) some others (one_at_most call_back told some one)
      (all_so (IsOfOne told) (IsOfOne (call_back ∷ told)) (of_more call_back told) others rest))
      old.letters uses.0.letters new.letters
      (calls_back (wants_call call_back.asker) call_back.asker call_back.stat old uses.0 uses.1)
      (uses_post more uses.0 new uses.2)

  pub letters_told : (told : List CallBack) (old new : DialTells) → IsUsedForTransfers hosts maps told old new
      → AllByRecursion (IsOfOne told) (posted_between old.letters new.letters)
  letters_told told old new used =
      subst (λ (l : List CallBack). AllByRecursion (IsOfOne l) (posted_between old.letters new.letters)) used.told_is
      (all_posted (λ (letters : List Letter). AllByRecursion (IsOfOne (told_in used.uses)) letters) tt old.letters new.letters
      (uses_post used.uses old new used.in_turn))
