-- What an answer says of a record, and what it does with the view.
use Rattle.std.specs.Prelude.{◌≡◌, Bool, true, false}
use Rattle.yp_board.specs.Views.{Seen, Refreshes}

-- A view took one read step where it was asked to, and else nothing changed.
abbrev pub StepsWhere : {V : Type 0} → Bool → (V → V → Type 0) → (V → Seen) → V → V → Type 0
StepsWhere true stepped seen old new = stepped old new × Refreshes (seen old) (seen new)
StepsWhere false stepped seen old new = new ≡ old
