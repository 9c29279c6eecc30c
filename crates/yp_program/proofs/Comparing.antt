-- Servers that were compared: the causes of the statuses, and which of them answer.
use Rattle.std.proofs.Common.{◌≡◌, Bool, true, false, Result, Ok, Err, refl, inl, inr}
use Rattle.std.specs.Prelude.{◌⊎◌, ◌≢◌, IfErr}
use Rattle.yp_io.specs.Counts.{HasRisen}
use Rattle.yp_version.specs.declared.builder.VersionFault.TheVariants as version
use Rattle.yp_client.specs.declared.fault.ClientFault.TheVariants as client
use Rattle.yp_client.specs.declared.query.fault.QueryFault.{QueryFault}
use Rattle.yp_client.specs.declared.query.fault.QueryFault.TheVariants as fault
use Rattle.yp_client.specs.query.Scenes.{QueryTells}
use Rattle.yp_client.specs.inside.query.Scenes.{HasQueryCause}
use Rattle.yp_client.specs.inside.orders.Complete.{IsCompared}
use Rattle.yp_command.specs.declared.office.status.Status.TheVariants.{ReadFault, WriteFault, DialFault}
use Rattle.yp_program.specs.Asking.{IsClientAnswer}
use Rattle.yp_program.specs.Orders.{compared_status}

pub answered : (result : Result Bool QueryFault) → IsCompared result → IsClientAnswer (compared_status result)
answered (Ok true) is = inl refl
answered (Ok false) is = inr (inl refl)
answered (Err fault.NoMemory) is = inr (inr refl)
answered (Err why) is = absurd is

module _ (old new : QueryTells) where
  pub read_cause : (result : Result Bool QueryFault) → IfErr result (λ fault. HasQueryCause fault old new)
      → compared_status result ≡ ReadFault → HasRisen old.dial.faults new.dial.faults
  read_cause (Ok true) cause is = absurd cc
  read_cause (Ok false) cause is = absurd cc
  read_cause (Err fault.NoKey) cause is = absurd cc
  read_cause (Err fault.NotMember) cause is = absurd cc
  read_cause (Err (fault.NotDone stat)) cause is = absurd cc
  read_cause (Err fault.Dial) cause is = absurd cc
  read_cause (Err fault.Output) cause is = absurd cc
  read_cause (Err fault.NoMemory) cause is = absurd cc
  read_cause (Err (fault.Client (client.Yp stat))) cause is = absurd cc
  read_cause (Err (fault.Client (client.Denied head))) cause is = absurd cc
  read_cause (Err (fault.Client (client.BadReply at))) cause is = absurd cc
  read_cause (Err (fault.Client (client.BadXid want got))) cause is = absurd cc
  read_cause (Err (fault.Client (client.Torn at))) cause is = absurd cc
  read_cause (Err (fault.Client (client.TooLong at))) cause is = absurd cc
  read_cause (Err (fault.Client client.ReadFault)) cause is = cause
  read_cause (Err (fault.Client client.WriteFault)) cause is = absurd cc
  read_cause (Err (fault.Client client.Spent)) cause is = absurd cc
  read_cause (Err (fault.Client (client.Rows row version.NoMemory))) cause is = absurd cc
  read_cause (Err (fault.Client (client.Rows row (version.KeyLong len)))) cause is = absurd cc
  read_cause (Err (fault.Client (client.Rows row (version.ValueLong len)))) cause is = absurd cc
  read_cause (Err (fault.Client (client.Rows row version.TooManyRows))) cause is = absurd cc
  read_cause (Err (fault.Client (client.Rows row version.TooBig))) cause is = absurd cc
  read_cause (Err (fault.Client client.NoMemory)) cause is = absurd cc

  pub write_cause : (result : Result Bool QueryFault) → IfErr result (λ fault. HasQueryCause fault old new)
      → compared_status result ≡ WriteFault
      → HasRisen old.faults new.faults ⊎ HasRisen old.dial.faults new.dial.faults
  write_cause (Ok true) cause is = absurd cc
  write_cause (Ok false) cause is = absurd cc
  write_cause (Err fault.NoKey) cause is = absurd cc
  write_cause (Err fault.NotMember) cause is = absurd cc
  write_cause (Err (fault.NotDone stat)) cause is = absurd cc
  write_cause (Err fault.Dial) cause is = absurd cc
  write_cause (Err fault.Output) cause is = inl cause
  write_cause (Err fault.NoMemory) cause is = absurd cc
  write_cause (Err (fault.Client (client.Yp stat))) cause is = absurd cc
  write_cause (Err (fault.Client (client.Denied head))) cause is = absurd cc
  write_cause (Err (fault.Client (client.BadReply at))) cause is = absurd cc
  write_cause (Err (fault.Client (client.BadXid want got))) cause is = absurd cc
  write_cause (Err (fault.Client (client.Torn at))) cause is = absurd cc
  write_cause (Err (fault.Client (client.TooLong at))) cause is = absurd cc
  write_cause (Err (fault.Client client.ReadFault)) cause is = absurd cc
  write_cause (Err (fault.Client client.WriteFault)) cause is = inr cause
  write_cause (Err (fault.Client client.Spent)) cause is = absurd cc
  write_cause (Err (fault.Client (client.Rows row version.NoMemory))) cause is = absurd cc
  write_cause (Err (fault.Client (client.Rows row (version.KeyLong len)))) cause is = absurd cc
  write_cause (Err (fault.Client (client.Rows row (version.ValueLong len)))) cause is = absurd cc
  write_cause (Err (fault.Client (client.Rows row version.TooManyRows))) cause is = absurd cc
  write_cause (Err (fault.Client (client.Rows row version.TooBig))) cause is = absurd cc
  write_cause (Err (fault.Client client.NoMemory)) cause is = absurd cc

  pub dial_cause : (result : Result Bool QueryFault) → IfErr result (λ fault. HasQueryCause fault old new)
      → compared_status result ≡ DialFault → HasRisen old.dial.faults new.dial.faults
  dial_cause (Ok true) cause is = absurd cc
  dial_cause (Ok false) cause is = absurd cc
  dial_cause (Err fault.NoKey) cause is = absurd cc
  dial_cause (Err fault.NotMember) cause is = absurd cc
  dial_cause (Err (fault.NotDone stat)) cause is = absurd cc
  dial_cause (Err fault.Dial) cause is = cause
  dial_cause (Err fault.Output) cause is = absurd cc
  dial_cause (Err fault.NoMemory) cause is = absurd cc
  dial_cause (Err (fault.Client (client.Yp stat))) cause is = absurd cc
  dial_cause (Err (fault.Client (client.Denied head))) cause is = absurd cc
  dial_cause (Err (fault.Client (client.BadReply at))) cause is = absurd cc
  dial_cause (Err (fault.Client (client.BadXid want got))) cause is = absurd cc
  dial_cause (Err (fault.Client (client.Torn at))) cause is = absurd cc
  dial_cause (Err (fault.Client (client.TooLong at))) cause is = absurd cc
  dial_cause (Err (fault.Client client.ReadFault)) cause is = absurd cc
  dial_cause (Err (fault.Client client.WriteFault)) cause is = absurd cc
  dial_cause (Err (fault.Client client.Spent)) cause is = absurd cc
  dial_cause (Err (fault.Client (client.Rows row version.NoMemory))) cause is = absurd cc
  dial_cause (Err (fault.Client (client.Rows row (version.KeyLong len)))) cause is = absurd cc
  dial_cause (Err (fault.Client (client.Rows row (version.ValueLong len)))) cause is = absurd cc
  dial_cause (Err (fault.Client (client.Rows row version.TooManyRows))) cause is = absurd cc
  dial_cause (Err (fault.Client (client.Rows row version.TooBig))) cause is = absurd cc
  dial_cause (Err (fault.Client client.NoMemory)) cause is = absurd cc

-- what wasn't told as a write fault wasn't one of the output
pub not_output : (result : Result Bool QueryFault) → compared_status result ≢ WriteFault → result ≢ Err fault.Output
not_output result other is = other (rw is refl)
