-- Records of a stream that is never waited for.
use Rattle.std.specs.Prelude.{◌≡◌, ◌≤◌, ℕ, List, ◌++◌, length, take, Option, Some, None, Result, Ok, Err}
use Rattle.std.specs.Io.KnownBytes.{Consumes, IsAtEnd, Keeps}
use Rattle.yp_rpc.specs.declared.record.incoming.First.{First}
use Rattle.yp_rpc.specs.declared.record.incoming.First.TheVariants.{Whole, Part, TooLong}
use Rattle.yp_rpc.specs.Records.{Fragments, IsLong, IsUnfinished}

-- how many bytes came
abbrev pub count_of : {E : Type 0} → Result (Option ℕ) E → ℕ
count_of (Ok (Some n)) = n
count_of (Ok None) = 0
count_of (Err e) = 0

-- some of the next bytes came behind those before, none exactly at the end; or nothing changed
abbrev pub Fills : {E : Type 0} → Option (List ℕ) → Option (List ℕ) → List ℕ → List ℕ → Result (Option ℕ) E → Type 0
Fills before after old new (Ok (Some n)) =
    (came : List ℕ) × Consumes before after came × (length came ≡ n) × (new ≡ old ++ came) × (n ≡ 0 → IsAtEnd after)
Fills before after old new (Ok None) = Keeps before after × (new ≡ old)
Fills before after old new (Err e) = Keeps before after × (new ≡ old)

-- a whole record stands at the front of what came, spelled in so many bytes, and at the front of a buffer
pub record IsRecord (limit len spelled : ℕ) (came buf : List ℕ) : Type 0 where
  pub within : len ≤ length buf
  pub bytes : List ℕ
  pub fragments : Fragments limit (take len buf) bytes
  pub rest : List ℕ
  pub came_is : came ≡ bytes ++ rest
  pub count : length bytes ≡ spelled

-- What came begins with a whole record, with less than one, or with one that is too long.
abbrev pub BeginsWith : ℕ → First → List ℕ → List ℕ → Type 0
BeginsWith limit (Whole len spelled) came buf = IsRecord limit len spelled came buf
BeginsWith limit Part came buf = IsUnfinished limit came
BeginsWith limit TooLong came buf = IsLong limit came
