use Rattle.std.proofs.Common.{◌≡◌, ◌+◌, ◌<◌, suc, [], ◌∷◌, ◌++◌, length, set, ap, ◌∙◌, sym, subst, add-one, arith, rules}
use Rattle.yp_version.specs.Tables.{bucket_by, bucket_at, mark_of, mark_by, mark_in, linked, IsMarked, is_in, last_below, HasChains}
use Rattle.yp_version.proofs.Chains.{chained, bucket_of_key, link_marked}
use Rattle.yp_version.proofs.table.Table.fill.Goals as goal

pub loop-row-preserved : goal.loop-row-preserved
loop-row-preserved c =
    let state = c.loop-row.self.hasher in
    let heads = c.loop-row.self.heads.items in
    let before = c.loop-row.self.before.items in
    let rows = c.args.slab.now.rows in
    let row = c.loop-row.row in
    let bucket = c.bucket-bucket.result in
    let last = c.index-last.result.now in
    let head = c.to.result in
    let chains = c.loop-row.invariant in
    let within : bucket < length heads = omega (arith, c.bucket-bucket.ensures.within, c.len.ensures) in
    let low : row < length rows = omega (arith, c.loop-row-test.true, c.len-row-end.ensures) in
    let size : c.len.result ≡ length heads = omega (arith, c.len.ensures) in
    let is : bucket ≡ bucket_at state (length heads) rows row =
    c.bucket-bucket.ensures.value ∙ (λ i. bucket_by (c.hash-hash.ensures i) (size i)) ∙ bucket_of_key state (length heads) rows row c.key.result.now c.key.ensures in
    let last_is : linked last ≡ last_below (is_in state (length heads) rows bucket) row = ap linked c.index-last.ensures ∙ chains.last bucket last within in
    let mark : mark_in head ≡ mark_of state c.key.result.now = c.to.ensures.mark ∙ c.mark.ensures.value ∙ ap mark_by c.hash-hash.ensures in
    let items : c.push.new.self.items ≡ before ++ last ∷ [] = search rules in
    let longer : HasChains state (set heads bucket head) (before ++ last ∷ []) rows (suc row) =
    chained state heads before rows row bucket head last chains low within is c.to.ensures.row last_is
    (link_marked state rows row c.key.result.now head c.key.ensures c.to.ensures.row mark)
    (subst (IsMarked state rows) (sym c.index-last.ensures) (chains.last_marked bucket last within)) in
    subst (λ items. HasChains state (set heads bucket head) items rows (row + 1)) (sym items)
    (subst (HasChains state (set heads bucket head) (before ++ last ∷ []) rows) (sym (add-one row)) longer)
