use Rattle.std.proofs.Common.{◌≡◌, ◌+◌, ◌-◌, length, take, drop, ap, ◌∙◌, arith}
use Rattle.yp_version.specs.Rows.{padded}
use Rattle.yp_version.specs.inside.Slabs.{key_from, value_from}
use Rattle.yp_version.proofs.Packing.{row_within, spelled_at}
use Rattle.yp_version.proofs.spelled_rows.spelled_from.Goals as goal

pub slice_bounds-result-end : goal.slice_bounds-result-end
slice_bounds-result-end c =
    let bytes = c.args.bytes.now in
    let within = row_within bytes c.args.place c.requires.there in
    let first : c.padded.result ≡ padded (length (key_from bytes c.args.place)) =
    c.padded.ensures.value ∙ ap (λ (l : _). padded (length l)) c.key_from.ensures in
    omega arith

pub slice_bounds-result-end-2 : goal.slice_bounds-result-end-2
slice_bounds-result-end-2 c =
    let bytes = c.args.bytes.now in
    let within = row_within bytes c.args.place c.requires.there in
    let is = c.requires.end in
    let first : c.padded.result ≡ padded (length (key_from bytes c.args.place)) =
    c.padded.ensures.value ∙ ap (λ (l : _). padded (length l)) c.key_from.ensures in
    omega arith

pub returns-clause-row : goal.returns-clause-row
returns-clause-row c =
    let bytes = c.args.bytes.now in
    let place = c.args.place in
    let k = 4 + c.padded.result in
    let first : k ≡ 4 + padded (length (key_from bytes place)) =
    ap (λ n. 4 + n) (c.padded.ensures.value ∙ ap (λ (l : _). padded (length l)) c.key_from.ensures) in
    let v = c.args.end - (place + k) in
    let second : v ≡ 4 + padded (length (value_from bytes place)) = omega (arith, c.requires.end, first) in
    let a : place + k - place ≡ k = omega arith in
    (λ i. (take (a i) (drop place bytes), take v (drop (place + k) bytes)))
    ∙ spelled_at bytes place k v c.requires.there first second
