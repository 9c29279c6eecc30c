use Rattle.std.proofs.Common.{◌≡◌, ℕ, List, Ok, length, min, take, rules, arith, ap, sym, subst, ◌∙◌, IfSome}
use Rattle.std.proofs.lemmas.List.{length-take}
use Rattle.yp_xdr.specs.inside.Cursor.{unread}
use Rattle.yp_map_file.specs.declared.survey.Summary.{Summary}
use Rattle.yp_map_file.specs.inside.Surveys.{body_of, FindsFront}
use Rattle.yp_map_file.proofs.Surveying.{front_told, front_wrong, front_wrong_within}
use Rattle.yp_map_file.proofs.survey.survey_front.Goals as goal

pub fault_at-requires-clause-within : goal.fault_at-requires-clause-within
fault_at-requires-clause-within g c =
    let n = c.in_ok-count.count in
    let w = take n c.look.new.buf in
    let found = rw c.new-cursor.ensures at c.in-Err.ensures.read in
    omega (arith, front_wrong_within w c.in-Err.wrong found, length-take n c.look.new.buf, c.in_ok-count.ensures.count)

pub returns-in-Err-clause-front : goal.returns-in-Err-clause-front
returns-in-Err-clause-front g c =
    let n = c.in_ok-count.count in
    let w = take n c.look.new.buf in
    let e = c.args.entry.now in
    let size : length c.look.new.buf ≡ 80 = search rules in
    let count : n ≡ min e.len 80 = omega (arith, c.in_ok-count.ensures.count, size) in
    let len : length w ≡ n = omega (arith, length-take n c.look.new.buf, count, size) in
    let found = rw c.new-cursor.ensures at c.in-Err.ensures.read in
    rw c.fault_at.ensures (front_wrong (g.D.Disk.history c.args.disk.now) e w n c.in-Err.wrong
    c.in_ok-count.ensures.bytes count len found)

pub returns-clause-front : goal.returns-clause-front
returns-clause-front g c =
    let n = c.in_ok-count.count in
    let w = take n c.look.new.buf in
    let e = c.args.entry.now in
    let history = g.D.Disk.history c.args.disk.now in
    let front = c.in-Ok.front in
    let summary : Summary = record {
      order = front.order;
      master = c.in_ok-master.master;
      secure = front.secure;
      rows = front.count;
    } in
    let size : length c.look.new.buf ≡ 80 = search rules in
    let count : n ≡ min e.len 80 = omega (arith, c.in_ok-count.ensures.count, size) in
    let len : length w ≡ n = omega (arith, length-take n c.look.new.buf, count, size) in
    let rest = unread c.read_front.new.cursor in
    let found = rw c.new-cursor.ensures at c.in-Ok.ensures.read in
    let same : summary.master.items ≡ front.master.now = c.in_ok-master.ensures.items in
    subst (λ (k : ℕ). IfSome history (λ h. FindsFront e.place (body_of e h.state.reads) (Ok (summary, k))))
    (sym c.at.ensures.place)
    (front_told history e w n summary rest c.in_ok-count.ensures.bytes count len
    (found ∙ ap (λ (l : List ℕ). Ok (
      record { secure = front.secure; order = front.order; master = l; count = front.count },
      rest,
    )) (sym same)))
