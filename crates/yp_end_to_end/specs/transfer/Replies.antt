-- The replies of a server to a fetch, and what it showed meanwhile.
use Rattle.std.specs.Prelude.{◌≡◌, ℕ, ◌+◌, ◌%◌, ◌^◌, false, Ok}
use Rattle.yp_version.specs.Versions.{MapVersion}
use Rattle.yp_answer.specs.Maps.{Maps, map_check}
use Rattle.yp_transfer.specs.Fetching.{Wanted}

-- the number of the call behind one with a number
abbrev pub next_xid : ℕ → ℕ
next_xid xid = (xid + 1) % 2 ^ 32

-- what is fetched of a version: the mark is each site's own
abbrev pub unsecured : MapVersion → MapVersion
unsecured version = record version { secure = false }

-- The server shows this version of a map.
abbrev pub IsShown : Wanted → MapVersion → Maps → Type 0
IsShown wanted version maps = map_check maps wanted.domain wanted.map ≡ Ok version
