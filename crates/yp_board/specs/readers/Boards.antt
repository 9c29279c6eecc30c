-- What the writer of a board tells.
use Rattle.std.specs.Prelude.{ℕ}

-- the most workers of a server that serve connections: each has a reader of its own
abbrev pub workers_max : ℕ
workers_max = 8
