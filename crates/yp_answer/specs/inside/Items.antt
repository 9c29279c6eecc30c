-- What the code puts of a version's rows, as they stand there.
use Rattle.std.specs.Prelude.{◌≡◌, ℕ, List, ◌∷◌, ◌++◌, Result, Ok, Err}
use Rattle.yp_xdr.specs.Kind.{Opaque, Value}
use Rattle.yp_xdr.specs.Spelling.{spelling}
use Rattle.yp_messages.specs.Messages.{resp_val}
use Rattle.yp_messages.specs.Statuses.{stat, stat_number}
use Rattle.yp_messages.specs.declared.stat.YpStat.{YpStat}
use Rattle.yp_messages.specs.inside.Messages.{all_item, all_item_view}
use Rattle.yp_messages.specs.declared.results.AllItem.{AllItem}
use Rattle.yp_version.specs.Limits.{value_max}
use Rattle.yp_version.specs.Versions.{MapVersion}
use Rattle.yp_answer.specs.declared.stream.Items.{Items}
use Rattle.yp_answer.specs.declared.stream.Items.TheVariants.{Rows, Refused}
use Rattle.yp_answer.specs.declared.look_up.Valued.{Valued}

-- the version whose rows are listed, or the status
abbrev pub items_view : Items → Result MapVersion YpStat
items_view (Rows version) = Ok version.now
items_view (Refused stat) = Err stat

-- the bytes of an item
abbrev pub item_bytes : AllItem → List ℕ
item_bytes item = spelling all_item (all_item_view item)

-- the bytes of an item with a row, from its key and its value as they are spelled
abbrev pub spelled_item : List ℕ × List ℕ → List ℕ
spelled_item row = 0 ∷ 0 ∷ 0 ∷ 1 ∷ 0 ∷ 0 ∷ 0 ∷ 1 ∷ (row.1 ++ row.0)

-- the bytes of what MATCH answers
abbrev pub valued_bytes : Valued → List ℕ
valued_bytes found = spelling stat (stat_number found.stat) ++ found.val.now

-- The result has this status, and its value spells this value.
abbrev pub IsStatusAndValue : Valued → Value resp_val → Type 0
IsStatusAndValue found told = (stat_number found.stat ≡ told.0) × (found.val.now ≡ spelling (Opaque value_max) told.1)
