use Rattle.std.proofs.Common.{rules}
use Rattle.yp_xdr.specs.declared.fault.XdrFault.TheVariants.{TooLong}
use Rattle.yp_xdr.specs.Kind.{Opaque}
use Rattle.yp_xdr.specs.Reading.{opaque_at}
use Rattle.yp_xdr.specs.inside.Cursor.{unread}
use Rattle.yp_xdr.proofs.KindLaws.{read_is_spelled, refused_is_not_spelled}
use Rattle.yp_xdr.proofs.Readers.{refused}
use Rattle.yp_xdr.proofs.cursor.Cursor.opaque.Goals as goal

pub returns-in_err-len-clause-refused : goal.returns-in_err-len-clause-refused
unfolding opaque_at
returns-in_err-len-clause-refused c =
    refused (Opaque c.args.max) (λ s. s.now) _ (unread c.args.self.now) (unread c.args.self.now) (search rules)

pub returns-then-len-max-clause-refused : goal.returns-then-len-max-clause-refused
unfolding opaque_at
returns-then-len-max-clause-refused c =
    refused_is_not_spelled (Opaque c.args.max) (unread c.args.self.now) (TooLong c.args.self.now.at c.in_ok-len.len)
    (search rules)

pub returns-in-Err-clause-refused : goal.returns-in-Err-clause-refused
unfolding opaque_at
returns-in-Err-clause-refused c =
    refused_is_not_spelled (Opaque c.args.max) (unread c.args.self.now) c.in-Err.fault (search rules)

pub returns-in-Ok-clause-spelled : goal.returns-in-Ok-clause-spelled
unfolding opaque_at
returns-in-Ok-clause-spelled c =
    read_is_spelled (Opaque c.args.max) (unread c.args.self.now) _ _ c.args.self.now.are_bytes (search rules)
