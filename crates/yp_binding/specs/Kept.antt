-- What the code keeps of a binder.
use Rattle.std.specs.Prelude.{ℕ}

abbrev pub servers_max : ℕ
servers_max = 64
