use Rattle.std.proofs.Common.{◌++◌, ap, ◌∙◌, length}
use Rattle.std.specs.List.{flat_map}
use Rattle.yp_version.specs.inside.Bodies.{row_bytes}
use Rattle.yp_version.specs.Versions.{body_len}
use Rattle.yp_version.specs.Version.{version_of}
use Rattle.yp_version.proofs.Lengths.{length_body}
use Rattle.yp_version.proofs.version.Version.body.Goals as goal

pub returns-clause-len : goal.returns-clause-len
returns-clause-len c =
    ap length (c.bytes.ensures ∙ ap (λ l. l ++ flat_map row_bytes c.self.inside.slab.rows) c.self.invariant.head)
    ∙ length_body (version_of c.self.inside) ∙ ap body_len c.self.view_is
