use Rattle.std.proofs.Common.{rules}
use Rattle.yp_xdr.specs.Kind.{U32}
use Rattle.yp_xdr.specs.Reading.{word_at}
use Rattle.yp_xdr.specs.inside.Cursor.{unread}
use Rattle.yp_xdr.proofs.Words.{IsBytes-from_drop}
use Rattle.yp_xdr.proofs.KindLaws.{read_is_spelled}
use Rattle.yp_xdr.proofs.cursor.Cursor.u32.Goals as goal

pub returns-in-Some-clause-spelled : goal.returns-in-Some-clause-spelled
unfolding word_at
returns-in-Some-clause-spelled c =
    read_is_spelled U32 (unread c.args.self.now) _ _ c.args.self.now.are_bytes (search rules)

pub invariant_of-self-clause-are_bytes : goal.invariant_of-self-clause-are_bytes
invariant_of-self-clause-are_bytes c = IsBytes-from_drop 4 _ _ c.in-Some.ensures.cases.1 c.args.self.now.are_bytes
