-- The limits of a version, in bytes and in rows. They are this project's choices, but for the length of a name
-- (`yp.x`). Those of a key and of a value are those of a message.
use Rattle.std.specs.Prelude.{ℕ}
use Rattle.yp_messages.specs.Numbers.{name_max}
pub use Rattle.yp_messages.specs.Numbers.{key_max, value_max}

-- the most bytes of a master's name (`yp.x`, YPMAXPEER)
abbrev pub master_max : ℕ
master_max = name_max

-- the most rows
abbrev pub rows_max : ℕ
rows_max = 262144

-- the most bytes of the stored body
abbrev pub body_max : ℕ
body_max = 16777216
