use Rattle.std.proofs.Common.{◌≡◌, ◌+◌, ◌++◌, ◌≤◌, ◌∷◌, [], length, ap, ◌∙◌, sym, subst, rules}
use Rattle.yp_version.specs.Limits.{body_max}
use Rattle.yp_version.specs.Rows.{row_len, rows_len}
use Rattle.yp_version.specs.inside.Slabs.{Packed, row_from}
use Rattle.yp_version.proofs.Packing.{pushed_kept, pushed_view}
use Rattle.yp_version.proofs.slab.Slab.push_copy.Goals as goal

pub invariant_of-self-else-is_err : goal.invariant_of-self-else-is_err
invariant_of-self-else-is_err c =
    let row = row_from c.args.bytes.now c.args.from in
    let room = subst (λ (p : Packed). length p.head + rows_len p.rows + row_len row ≤ body_max) (sym c.self.view_is) c.requires.room in
    let places : c.push.new.self.items ≡ c.self.inside.places.items ++ length c.self.inside.bytes.items ∷ [] = search rules in
    pushed_kept c.self.inside c.copy_row.new.bytes c.push.new.self row
    c.self.invariant (c.requires.row.key, c.requires.row.value) room c.in_ok-copy_row.ensures.ok places

pub returns-clause-ok : goal.returns-clause-ok
returns-clause-ok c =
    let row = row_from c.args.bytes.now c.args.from in
    let places : c.push.new.self.items ≡ c.self.inside.places.items ++ length c.self.inside.bytes.items ∷ [] = search rules in
    pushed_view c.self.inside c.copy_row.new.bytes c.push.new.self row
    c.self.invariant (c.requires.row.key, c.requires.row.value) c.in_ok-copy_row.ensures.ok places
    ∙ ap (λ (p : Packed). record p { rows = p.rows ++ row ∷ [] }) c.self.view_is
