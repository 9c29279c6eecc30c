-- A `Member`, and one with what follows it, as contracts see them.
use Rattle.std.specs.Prelude.{ℕ, List}
use Rattle.std.specs.Borrow.{Bor}
use Rattle.yp_netgroup.specs.Parts.{Part, Includes, Lists, CutMember}
use Rattle.yp_netgroup.specs.declared.text.Member.{Member}
use Rattle.yp_netgroup.specs.declared.text.Member.TheVariants.{Group, Triple}

abbrev pub part_of : Member → Part
part_of (Group name) = Includes name.now
part_of (Triple host user domain) = Lists (record { host = host.now; user = user.now; domain = domain.now })

abbrev pub cut_of : Member × Bor (List ℕ) → CutMember
cut_of cut = (part_of cut.0, cut.1.now)
