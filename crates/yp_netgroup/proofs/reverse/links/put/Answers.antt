use Rattle.std.proofs.Common.{◌≡◌, ◌++◌, ◌∷◌, [], rules}
use Rattle.std.specs.Prelude.{unwrap_or}
use Rattle.std.specs.Map.{lookup}
use Rattle.indexmap.specs.IndexMap.{insert_entry}
use Rattle.yp_netgroup.proofs.reverse.Linking.{alike, is_at, put_under}
use Rattle.yp_netgroup.proofs.reverse.links.put.Goals as goal

pub returns-in-Ok-insert : goal.returns-in-Ok-insert
returns-in-Ok-insert c = λ other.
    let first : c.insert.new.self.entries ≡ insert_entry alike c.args.links.now.entries c.args.name c.new.result = search rules in
    let second : c.insert-2.new.self.entries ≡ insert_entry alike c.insert.new.self.entries c.args.name c.push.new.self = search rules in
    let before : c.in-Ok.before ≡ lookup (is_at c.args.name.now) c.args.links.now.entries = search rules in
    let groups : c.unwrap_or-groups.result ≡ unwrap_or c.in-Ok.before c.new-2.result = search rules in
    let pushed : c.push.new.self.items ≡ c.unwrap_or-groups.result.items ++ c.args.group ∷ [] = search rules in
    rw (second, first)
    (put_under other c.args.links.now.entries c.args.name c.args.group c.new.result c.new-2.result c.unwrap_or-groups.result c.push.new.self
    c.in-Ok.before before groups c.new-2.ensures.items pushed)
