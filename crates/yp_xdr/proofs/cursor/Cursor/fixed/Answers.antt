use Rattle.std.proofs.Common.{rules}
use Rattle.yp_xdr.specs.Kind.{Fixed}
use Rattle.yp_xdr.specs.inside.Cursor.{unread}
use Rattle.yp_xdr.proofs.Readers.{spelled, refused}
use Rattle.yp_xdr.proofs.cursor.Cursor.fixed.Goals as goal

pub returns-clause-refused : goal.returns-clause-refused
returns-clause-refused c =
    refused (Fixed c.args.n) (λ s. s.now) _ (unread c.args.self.now) (unread c.content.new.self) (search rules)

pub returns-clause-spelled : goal.returns-clause-spelled
returns-clause-spelled c =
    spelled (Fixed c.args.n) (λ s. s.now) _ (unread c.args.self.now) (unread c.content.new.self)
    c.args.self.now.are_bytes (search rules)
