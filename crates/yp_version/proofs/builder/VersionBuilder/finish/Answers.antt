use Rattle.std.proofs.Common.{◌≡◌, List, false, length, ap, ◌∙◌, sym, arith}
use Rattle.yp_version.specs.Bodies.{front_bytes}
use Rattle.yp_version.specs.Drafts.{Draft}
use Rattle.yp_version.specs.Rows.{Row, listed}
use Rattle.yp_version.specs.inside.VersionBuilder.{draft_of}
use Rattle.std.proofs.lemmas.List.Sorted.{length_permutation}
use Rattle.yp_version.proofs.Lengths.{length_front}
use Rattle.yp_version.proofs.Finished.{finished}
use Rattle.yp_version.proofs.Unique.{rising_is_listed}
use Rattle.yp_version.proofs.builder.VersionBuilder.finish.Goals as goal

pub finished-requires-clause-head : goal.finished-requires-clause-head
finished-requires-clause-head c =
    let head = ap length (c.in_ok-head.ensures ∙ ap (λ master. front_bytes 1 c.self.inside.order master c.len.result) c.deref.ensures.value) in
    let len = length_front 1 c.self.inside.order c.self.inside.master.items c.len.result in
    let kept = c.self.invariant.head in
    omega arith

pub new-requires-clause-version : goal.new-requires-clause-version
new-requires-clause-version c =
    finished (draft_of c.self.inside) c.in_ok-slab.slab.rows c.self.invariant.draft c.in_ok-slab.ensures.moved
    (sym (rising_is_listed c.self.inside.slab.rows c.in_ok-slab.slab.rows c.in_ok-slab.ensures.moved c.in_ok-slab.ensures.rising))

pub new-requires-clause-head : goal.new-requires-clause-head
new-requires-clause-head c =
    let count : c.len.result ≡ length c.in_ok-slab.slab.rows =
    c.len.ensures ∙ sym (length_permutation c.self.inside.slab.rows c.in_ok-slab.slab.rows c.in_ok-slab.ensures.moved) in
    c.in_ok-slab.ensures.head ∙ c.in_ok-head.ensures
    ∙ (λ i. front_bytes 1 c.self.inside.order (c.deref.ensures.value i) (count i))

pub new-requires-clause-table : goal.new-requires-clause-table
new-requires-clause-table c = c.without_buckets-table.ensures c.in_ok-slab.slab.rows

pub returns : goal.returns
returns c =
    let rows = rising_is_listed c.self.inside.slab.rows c.in_ok-slab.slab.rows c.in_ok-slab.ensures.moved c.in_ok-slab.ensures.rising in
    c.new.ensures
    ∙ ap (λ (l : List Row). record { order = c.self.inside.order; master = c.self.inside.master.items; secure = false; rows = l }) (sym rows)
    ∙ ap (λ (d : Draft). record { order = d.order; master = d.master; secure = false; rows = listed d.rows }) c.self.view_is
