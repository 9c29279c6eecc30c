-- What is shown at moments of a log that rises.
use Rattle.std.proofs.Common.{◌≡◌, ℕ, Bool, true, false, cond, Option, Some, Result, Ok, Err, refl, sym, ap}
use Rattle.std.proofs.Common.{◌∙◌, subst, inl, inr, ◌&&◌, nat_le, arith}
use Rattle.std.specs.Option.{option_and_then}
use Rattle.yp_messages.specs.declared.stat.YpStat.{YpStat}
use Rattle.yp_messages.specs.declared.stat.YpStat.TheVariants.{Yperr}
use Rattle.yp_version.specs.Versions.{MapVersion}
use Rattle.yp_board.specs.Logs.{shown}
use Rattle.yp_answer.specs.Maps.{guarded}
use Rattle.yp_answer.specs.Served.{maps_on}
use Rattle.yp_end_to_end.specs.inside.transfer.Shown.{ShownBetween, FrontIsServed, ShowsRows, ShownIsSound}
use Rattle.yp_end_to_end.proofs.transfer.Showing.{is_held, held_again, has_number, held_sound, served_before}
use Rattle.yp_end_to_end.proofs.transfer.Rising.{one_between}

pub shown_between : ShownBetween
shown_between catalogue first middle final log domain map version other rises begins goes ends held last same =
    let number = has_number catalogue domain map first version held in
    let later = has_number catalogue domain map final other last in
    let one : later.number ≡ number.number =
    (let both : Some later.number ≡ Some number.number = sym later.found ∙ number.found in cc) in
    let shows : shown number.number final ≡ Some other =
    subst (λ (n : ℕ). shown n final ≡ Some other) one later.shows in
    let is = one_between number.number first middle final log version other begins goes ends rises number.shows shows same in
    held_again catalogue first middle domain map version held
    (ap (λ (found : Option ℕ). option_and_then (λ n. shown n middle) found) number.found ∙ is.1
    ∙ sym (is_held (maps_on catalogue first) domain map version held).held)

pub front_is_served : FrontIsServed
front_is_served catalogue front log begins served = served_before catalogue front log begins served

guarded_or : (port : ℕ) (version : MapVersion) → ShowsRows port version (guarded port (Ok version))
guarded_or port version = by version.secure (nat_le 1024 port) refl refl
  where
    by : (secure high : Bool) → version.secure ≡ secure → nat_le 1024 port ≡ high
        → ShowsRows port version (cond (secure && high) (Err Yperr) (Ok version))
    by false high is port_is = inl refl
    by true false is port_is = inl refl
    by true true is port_is = inr (refl, is, grind (arith, port_is))

pub shown_is_sound : ShownIsSound
shown_is_sound maps port domain map version served held = (
  held_sound maps domain map version served held,
  subst (λ (r : Result MapVersion YpStat). ShowsRows port version (guarded port r)) (sym held) (guarded_or port version),
)
