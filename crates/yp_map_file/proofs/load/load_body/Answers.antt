use Rattle.std.proofs.Common.{◌≡◌, ◌++◌, ℕ, length, rules, arith, ap, sym, ◌∙◌, subst, List, drop, take}
use Rattle.std.proofs.lemmas.List.{take_at}
use Rattle.yp_io.specs.Disk.{ReadsAt}
use Rattle.yp_map_file.proofs.Loading.{wrong_fits, load_version, load_wrong}
use Rattle.yp_map_file.proofs.load.load_body.Goals as goal

pub returns-in-Ok-clause-stands : goal.returns-in-Ok-clause-stands
returns-in-Ok-clause-stands g c =
    let len : length c.read.new.buf ≡ c.in_ok-body.body.len = search rules in
    let same = sym (take_at c.read.new.buf (drop (length c.read.new.buf) c.in_ok-body.body.items) c.in_ok-body.body.len len) in
    let size : length c.read.new.buf ≡ c.args.entry.now.len = search rules in
    load_version (g.D.Disk.history c.args.disk.now) c.args.entry.now
    (take c.in_ok-body.body.len (c.read.new.buf ++ drop (length c.read.new.buf) c.in_ok-body.body.items)) c.in-Ok.version
    (sym (ap length same) ∙ size)
    (subst (λ (b : List ℕ). ReadsAt c.args.entry.now.place b (g.D.Disk.history c.args.disk.now)) same c.in_ok-read.ensures.bytes) c.in-Ok.ensures

pub in_body-requires : goal.in_body-requires
in_body-requires g c =
    let len : length c.read.new.buf ≡ c.in_ok-body.body.len = search rules in
    let same = ap length (take_at c.read.new.buf (drop (length c.read.new.buf) c.in_ok-body.body.items) c.in_ok-body.body.len len) in
    let size : length c.read.new.buf ≡ c.args.entry.now.len = search rules in
    let file = c.requires.lies.file in
    wrong_fits c.args.entry.now.place (take c.in_ok-body.body.len (c.read.new.buf ++ drop (length c.read.new.buf) c.in_ok-body.body.items))
    c.in-Err.fault (omega arith) c.in-Err.ensures

pub returns-in-Err-clause-stands : goal.returns-in-Err-clause-stands
returns-in-Err-clause-stands g c =
    let len : length c.read.new.buf ≡ c.in_ok-body.body.len = search rules in
    let same = sym (take_at c.read.new.buf (drop (length c.read.new.buf) c.in_ok-body.body.items) c.in_ok-body.body.len len) in
    let size : length c.read.new.buf ≡ c.args.entry.now.len = search rules in
    rw c.in_body.ensures (load_wrong (g.D.Disk.history c.args.disk.now) c.args.entry.now
    (take c.in_ok-body.body.len (c.read.new.buf ++ drop (length c.read.new.buf) c.in_ok-body.body.items)) c.in-Err.fault
    (sym (ap length same) ∙ size)
    (subst (λ (b : List ℕ). ReadsAt c.args.entry.now.place b (g.D.Disk.history c.args.disk.now)) same c.in_ok-read.ensures.bytes) c.in-Err.ensures)
