-- What workers tell of what they do, until it is taken.
use Rattle.std.specs.Prelude.{ℕ, Bool, List, [], ◌∷◌, ◌++◌, length, nat_lt, if◌then◌else◌}
use Rattle.yp_io.specs.Counts.{next_count}
use Rattle.yp_host.specs.declared.workers.journal.Event.{Event}
use Rattle.yp_host.specs.declared.workers.journal.TheConstants.{EVENTS_MAX}

-- what nobody has taken yet: the events that wait, how many more there were, and whether none comes any more
pub record Kept : Type 0 where
  pub events : List Event
  pub more : ℕ
  pub has_ended : Bool

-- what is kept with one event more: it waits, or is counted where too many wait, up to the last count
abbrev pub kept_with : Event → Kept → Kept
kept_with event kept =
    if nat_lt (length kept.events) EVENTS_MAX then record kept { events = kept.events ++ event ∷ [] }
    else record kept { more = next_count kept.more }

-- what is kept once all that waited was taken
abbrev pub emptied : Kept → Kept
emptied kept = record kept { events = []; more = 0 }
