use Rattle.std.proofs.Common.{◌≡◌, length, ap, ◌∙◌, arith}
use Rattle.std.specs.List.{flat_map}
use Rattle.std.proofs.lemmas.List.{length-append}
use Rattle.yp_version.specs.inside.Bodies.{row_bytes}
use Rattle.yp_version.specs.Drafts.{draft_len}
use Rattle.yp_version.specs.inside.VersionBuilder.{draft_of}
use Rattle.yp_version.proofs.Lengths.{length_rows}
use Rattle.yp_version.proofs.builder.VersionBuilder.body_len.Goals as goal

pub returns-clause-len : goal.returns-clause-len
returns-clause-len c =
    let i = c.self.inside in
    let all = ap length c.bytes.ensures in
    let parts = length-append i.slab.head (flat_map row_bytes i.slab.rows) in
    let rows = length_rows i.slab.rows in
    let head = c.self.invariant.head in
    let len : length c.bytes.result.now ≡ draft_len (draft_of i) = omega arith in
    len ∙ ap draft_len c.self.view_is

pub returns-clause-bound : goal.returns-clause-bound
returns-clause-bound c =
    let i = c.self.inside in
    let all = ap length c.bytes.ensures in
    let parts = length-append i.slab.head (flat_map row_bytes i.slab.rows) in
    let rows = length_rows i.slab.rows in
    let head = c.self.invariant.head in
    let most = c.self.invariant.draft.body in
    omega arith
