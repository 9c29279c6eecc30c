use Rattle.std.proofs.Common.{◌≡◌, ◌<◌, true, false, Some, None, length, bytes_eq, ap, ◌∙◌, sym, subst, arith, rules}
use Rattle.yp_version.specs.Tables.{bucket_of, bucket_at, mark_by, linked, is_in, last_below, IsMarked}
use Rattle.yp_version.specs.inside.Tables.{has_key}
use Rattle.yp_version.proofs.Chains.{Walks, walk_within, walk_finds, walk_ends, walk_goes, walk_shrinks, key_in_bucket, key_tells, mark_tells, bucket_is}
use Rattle.yp_version.proofs.table.Table.find.Goals.{else-mark-via-then-mark+else-eq, else-mark-via-else-mark}
use Rattle.yp_version.proofs.table.Table.find.Goals as goal

pub key-requires : goal.key-requires
key-requires c =
    let test = is_in c.args.self.now.hasher (length c.args.self.now.heads.items) c.args.slab.now.rows (bucket_of c.args.self.now.hasher (length c.args.self.now.heads.items) c.args.key.now) in
    let narrow = has_key c.args.key.now c.args.slab.now.rows in
    let here : linked c.loop-row.link ≡ Some c.in-Some.row = sym c.row.ensures ∙ c.in-Some.is in
    let low = (walk_within test narrow (length c.args.self.now.before.items) c.in-Some.row (subst (Walks test narrow (length c.args.self.now.before.items)) here c.loop-row.invariant.0)).0 in
    let within = c.requires.within in
    omega arith

pub index-link-requires-in-Some : goal.index-link-requires-in-Some
index-link-requires-in-Some c =
    let test = is_in c.args.self.now.hasher (length c.args.self.now.heads.items) c.args.slab.now.rows (bucket_of c.args.self.now.hasher (length c.args.self.now.heads.items) c.args.key.now) in
    let narrow = has_key c.args.key.now c.args.slab.now.rows in
    let here : linked c.loop-row.link ≡ Some c.in-Some.row = sym c.row.ensures ∙ c.in-Some.is in
    let low : c.in-Some.row < length c.args.self.now.before.items =
    (walk_within test narrow (length c.args.self.now.before.items) c.in-Some.row (subst (Walks test narrow (length c.args.self.now.before.items)) here c.loop-row.invariant.0)).0 in
    let len = c.args.self.now.before.ok.0 in
    omega arith

pub returns-then-eq : goal.returns-then-eq
returns-then-eq c =
    let size = length c.args.self.now.heads.items in
    let rows = c.args.slab.now.rows in
    let test = is_in c.args.self.now.hasher size rows (bucket_of c.args.self.now.hasher size c.args.key.now) in
    let narrow = has_key c.args.key.now rows in
    let here : linked c.loop-row.link ≡ Some c.in-Some.row = sym c.row.ensures ∙ c.in-Some.is in
    let same : bytes_eq c.key.result.now c.args.key.now ≡ true = search rules in
    walk_finds test narrow (length c.args.self.now.before.items) c.in-Some.row (key_in_bucket c.args.self.now.hasher size rows c.args.key.now)
    (subst (Walks test narrow (length c.args.self.now.before.items)) here c.loop-row.invariant.0)
    (key_tells rows c.in-Some.row c.key.result.now c.args.key.now c.key.ensures ∙ same)

pub returns : goal.returns
returns c =
    let size = length c.args.self.now.heads.items in
    let rows = c.args.slab.now.rows in
    let test = is_in c.args.self.now.hasher size rows (bucket_of c.args.self.now.hasher size c.args.key.now) in
    let narrow = has_key c.args.key.now rows in
    let none : c.row.result ≡ None = search rules in
    walk_ends test narrow (length c.args.self.now.before.items) (key_in_bucket c.args.self.now.hasher size rows c.args.key.now)
    (subst (Walks test narrow (length c.args.self.now.before.items)) (sym c.row.ensures ∙ none) c.loop-row.invariant.0)

pub loop-row-preserved : goal.loop-row-preserved
loop-row-preserved c =
    let state = c.args.self.now.hasher in
    let size = length c.args.self.now.heads.items in
    let rows = c.args.slab.now.rows in
    let bucket = bucket_of state size c.args.key.now in
    let test = is_in state size rows bucket in
    let narrow = has_key c.args.key.now rows in
    let here : linked c.loop-row.link ≡ Some c.in-Some.row = sym c.row.ensures ∙ c.in-Some.is in
    let walk = subst (Walks test narrow (length c.args.self.now.before.items)) here c.loop-row.invariant.0 in
    let within = walk_within test narrow (length c.args.self.now.before.items) c.in-Some.row walk in
    let apart : has_key c.args.key.now rows c.in-Some.row ≡ false =
    elim c.else-mark.branch [
      | else-mark-via-then-mark+else-eq w ↦
          let other : bytes_eq w.key.result.now c.args.key.now ≡ false = search rules in
          key_tells rows c.in-Some.row w.key.result.now c.args.key.now w.key.ensures ∙ other
      | else-mark-via-else-mark w ↦
          mark_tells state rows c.in-Some.row c.args.key.now c.loop-row.link c.loop-row.invariant.1 here
          (λ same. w.if-mark.false (c.mark.ensures ∙ same ∙ sym (c.mark-mark.ensures.value ∙ ap mark_by c.hash-hash.ensures)))
    ] in
    let next : linked c.index-link-in-Some.result.now ≡ last_below test c.in-Some.row =
    ap linked c.index-link-in-Some.ensures ∙ c.requires.former c.in-Some.row c.index-link-in-Some.result.now within.0
    ∙ ap (λ b. last_below (is_in state size rows b) c.in-Some.row) (bucket_is state size rows bucket c.in-Some.row within.1) in (
      walk_goes test narrow (length c.args.self.now.before.items) c.in-Some.row (linked c.index-link-in-Some.result.now) (key_in_bucket state size rows c.args.key.now)
          walk apart next,
      subst (IsMarked state rows) (sym c.index-link-in-Some.ensures) (c.requires.former_marked c.in-Some.row c.index-link-in-Some.result.now within.0),
    )

pub loop-row-smaller : goal.loop-row-smaller
loop-row-smaller c =
    let state = c.args.self.now.hasher in
    let size = length c.args.self.now.heads.items in
    let rows = c.args.slab.now.rows in
    let bucket = bucket_of state size c.args.key.now in
    let test = is_in state size rows bucket in
    let narrow = has_key c.args.key.now rows in
    let here : linked c.loop-row.link ≡ Some c.in-Some.row = sym c.row.ensures ∙ c.in-Some.is in
    let walk = subst (Walks test narrow (length c.args.self.now.before.items)) here c.loop-row.invariant.0 in
    let within = walk_within test narrow (length c.args.self.now.before.items) c.in-Some.row walk in
    let next : linked c.index-link-in-Some.result.now ≡ last_below (is_in state size rows (bucket_at state size rows c.in-Some.row)) c.in-Some.row =
    ap linked c.index-link-in-Some.ensures ∙ c.requires.former c.in-Some.row c.index-link-in-Some.result.now within.0 in
    walk_shrinks c.loop-row.link c.index-link-in-Some.result.now (is_in state size rows (bucket_at state size rows c.in-Some.row)) c.in-Some.row here next
