-- What a slot holds, and what it knows of its file.
use Rattle.std.specs.Prelude.{◌≡◌, ℕ, List, Option, IfSome}
use Rattle.std.specs.Prelude.{⊤}
use Rattle.yp_io.specs.Disk.{History}
use Rattle.yp_map_file.specs.Stands.{Stands, Nothing, Stored, Damaged, stands}
use Rattle.yp_map_file.specs.Commits.{winning, generation_of}

-- not damaged
abbrev pub IsSound : Stands → Type 0
IsSound Nothing = ⊤
IsSound (Stored version) = ⊤
IsSound (Damaged at rule) = ⊥

-- These bytes stand for what the bytes stand for that a read gives now.
abbrev pub IsAsBefore : Option History → List ℕ → Type 0
IsAsBefore history image = IfSome history (λ h. stands image ≡ stands h.state.reads)

-- this is the generation of what a read gives
abbrev pub HasGeneration : Option History → ℕ → Type 0
HasGeneration history generation = IfSome history (λ h. generation ≡ generation_of (winning h.state.reads))
