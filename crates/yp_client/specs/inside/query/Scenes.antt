-- The cause of a failed question.
use Rattle.std.specs.Prelude.{ℕ, ⊤}
use Rattle.yp_io.specs.Counts.{HasRisen}
use Rattle.yp_client.specs.declared.fault.ClientFault.TheVariants.{ReadFault, WriteFault}
use Rattle.yp_client.specs.declared.query.fault.QueryFault.{QueryFault}
use Rattle.yp_client.specs.declared.query.fault.QueryFault.TheVariants.{Client, Dial, Output}
use Rattle.yp_client.specs.query.Scenes.{QueryTells}

-- the count of a dial rose, where its wire failed, too
abbrev pub DialHasCause : QueryFault → ℕ → ℕ → Type 0
DialHasCause Dial before now = HasRisen before now
DialHasCause (Client ReadFault) before now = HasRisen before now
DialHasCause (Client WriteFault) before now = HasRisen before now
DialHasCause fault before now = ⊤

-- the count of what failed rose
abbrev pub HasQueryCause : QueryFault → QueryTells → QueryTells → Type 0
HasQueryCause Output old new = HasRisen old.faults new.faults
HasQueryCause fault old new = DialHasCause fault old.dial.faults new.dial.faults
