use Rattle.std.proofs.Common.{◌++◌, length, drop, ap, ◌∙◌, arith}
use Rattle.yp_xdr.specs.Kind.{U32}
use Rattle.yp_xdr.specs.Spelling.{spelling}
use Rattle.yp_version.specs.Bodies.{format}
use Rattle.yp_version.specs.Version.{version_of}
use Rattle.yp_version.proofs.Lengths.{length_front}
use Rattle.yp_version.proofs.Finished.{marked_kept}
use Rattle.yp_version.proofs.version.Version.marked.Goals as goal

pub set_first_word-requires : goal.set_first_word-requires
set_first_word-requires c =
    let v = version_of c.version.inside in
    let head = ap length c.version.invariant.head in
    let len = length_front (format v.secure) v.order v.master (length v.rows) in
    omega arith

pub invariant_of-version : goal.invariant_of-version
invariant_of-version c =
    marked_kept c.version.inside c.args.secure c.set_first_word.new.self c.version.invariant
    (c.set_first_word.ensures ∙ ap (λ n. record c.version.inside.slab { head = spelling U32 n ++ drop 4 c.version.inside.slab.head }) c.format_of.ensures)
