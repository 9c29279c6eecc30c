-- A `Who` as contracts see it.
use Rattle.std.specs.Prelude.{ℕ, List, Option, option_map}
use Rattle.std.specs.Borrow.{Bor}
use Rattle.yp_netgroup.specs.Reach.{SoughtMember}
use Rattle.yp_netgroup.specs.declared.who.Who.{Who}

-- what is lent, if it is given
abbrev pub lent : Option (Bor (List ℕ)) → Option (List ℕ)
lent given = option_map (λ bytes. bytes.now) given

abbrev pub asked_of : Who → SoughtMember
asked_of who = record { host = lent who.host; user = lent who.user; domain = lent who.domain }

-- what is sought, if anything is
abbrev pub sought_of : Option (Bor Who) → Option SoughtMember
sought_of sought = option_map (λ who. asked_of who.now) sought
