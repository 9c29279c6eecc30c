use Rattle.std.proofs.Common.{◌≡◌, ◌+◌, ◌++◌, ◌≤◌, ◌∷◌, [], length, ap, ◌∙◌, sym, subst, arith, rules}
use Rattle.yp_version.specs.Limits.{body_max}
use Rattle.yp_version.specs.Rows.{row_len, rows_len}
use Rattle.yp_version.specs.inside.Slabs.{Packed}
use Rattle.yp_version.proofs.Packing.{bytes_len, pushed_kept, pushed_view}
use Rattle.yp_version.proofs.slab.Slab.push.Goals as goal

pub add_row-requires-clause-room : goal.add_row-requires-clause-room
add_row-requires-clause-room c =
    let room = subst (λ (p : Packed). length p.head + rows_len p.rows + row_len (c.args.key.now, c.args.value.now) ≤ body_max) (sym c.self.view_is) c.requires.room in
    let len = bytes_len c.self.inside c.self.invariant in
    omega arith

pub invariant_of-self-else-is_err : goal.invariant_of-self-else-is_err
invariant_of-self-else-is_err c =
    let room = subst (λ (p : Packed). length p.head + rows_len p.rows + row_len (c.args.key.now, c.args.value.now) ≤ body_max) (sym c.self.view_is) c.requires.room in
    let places : c.push.new.self.items ≡ c.self.inside.places.items ++ length c.self.inside.bytes.items ∷ [] = search rules in
    pushed_kept c.self.inside c.add_row.new.bytes c.push.new.self (c.args.key.now, c.args.value.now)
    c.self.invariant (c.requires.key, c.requires.value) room c.in_ok-add_row.ensures.ok places

pub returns-clause-ok : goal.returns-clause-ok
returns-clause-ok c =
    let places : c.push.new.self.items ≡ c.self.inside.places.items ++ length c.self.inside.bytes.items ∷ [] = search rules in
    pushed_view c.self.inside c.add_row.new.bytes c.push.new.self (c.args.key.now, c.args.value.now)
    c.self.invariant (c.requires.key, c.requires.value) c.in_ok-add_row.ensures.ok places
    ∙ ap (λ (p : Packed). record p { rows = p.rows ++ (c.args.key.now, c.args.value.now) ∷ [] }) c.self.view_is
