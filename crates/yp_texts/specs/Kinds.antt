-- The kinds of maps that are made of texts: their numbers, the names of their maps, which are those of ypserv's
-- Makefile, and the names of their texts.
use Rattle.std.specs.Prelude.{ℕ, List, [], ◌∷◌, Option, bytes_eq, codes}
use Rattle.std.specs.List.{find}
use Rattle.yp_texts.specs.declared.kind.Kind.{Kind}
use Rattle.yp_texts.specs.declared.kind.Kind.TheVariants.{PasswdByname, PasswdByuid, GroupByname, GroupBygid}
use Rattle.yp_texts.specs.declared.kind.Kind.TheVariants.{HostsByname, HostsByaddr, ServicesByname, ProtocolsBynumber}
use Rattle.yp_texts.specs.declared.kind.Kind.TheVariants.{Netgroup, Ypservers}

-- all of them, in the order of their numbers
abbrev pub kinds : List Kind
kinds =
    PasswdByname ∷ PasswdByuid ∷ GroupByname ∷ GroupBygid ∷ HostsByname ∷ HostsByaddr ∷ ServicesByname
    ∷ ProtocolsBynumber ∷ Netgroup ∷ Ypservers ∷ []

abbrev pub number_of : Kind → ℕ
number_of PasswdByname = 1
number_of PasswdByuid = 2
number_of GroupByname = 3
number_of GroupBygid = 4
number_of HostsByname = 5
number_of HostsByaddr = 6
number_of ServicesByname = 7
number_of ProtocolsBynumber = 8
number_of Netgroup = 9
number_of Ypservers = 10

abbrev pub name_of : Kind → List ℕ
name_of PasswdByname = codes "passwd.byname"
name_of PasswdByuid = codes "passwd.byuid"
name_of GroupByname = codes "group.byname"
name_of GroupBygid = codes "group.bygid"
name_of HostsByname = codes "hosts.byname"
name_of HostsByaddr = codes "hosts.byaddr"
name_of ServicesByname = codes "services.byname"
name_of ProtocolsBynumber = codes "protocols.bynumber"
name_of Netgroup = codes "netgroup"
name_of Ypservers = codes "ypservers"

abbrev pub file_of : Kind → List ℕ
file_of PasswdByname = codes "passwd"
file_of PasswdByuid = codes "passwd"
file_of GroupByname = codes "group"
file_of GroupBygid = codes "group"
file_of HostsByname = codes "hosts"
file_of HostsByaddr = codes "hosts"
file_of ServicesByname = codes "services"
file_of ProtocolsBynumber = codes "protocols"
file_of Netgroup = codes "netgroup"
file_of Ypservers = codes "ypservers"

-- the kind whose map has this name
abbrev pub kind_named : List ℕ → Option Kind
kind_named name = find (λ kind. bytes_eq (name_of kind) name) kinds
