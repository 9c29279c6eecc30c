use Rattle.std.proofs.Common.{◌≡◌, ap, rules}
use Rattle.yp_publisher.specs.Installs.{LeavesEither}
use Rattle.yp_publisher.specs.Keeping.{keeping_of}
use Rattle.yp_publisher.specs.Standing.{Published}
use Rattle.yp_publisher.proofs.Changing.{upheld_same}
use Rattle.yp_publisher.proofs.Maps.{read_map, at_same}
use Rattle.yp_publisher.proofs.publisher.Publisher.check.Goals as goal

pub returns-clause-any_moment : goal.returns-clause-any_moment
returns-clause-any_moment g c =
    let now = c.args.self.now.maps in
    let n = c.args.map in
    let x = c.index-stored.result.now in
    let same : c.self.inside.maps.items ≡ now =
    ap (λ (p : Published g.row.D.Denot g.row.B.Denot). p.maps) c.self.view_is in
    let there = read_map now c.self.inside.maps.items n x same c.requires c.index-stored.ensures in
    at_same (LeavesEither g.D.Disk.history c.args.version.now) now n x there
    (c.rest.ensures.any_moment c.args.version.now)

pub returns-clause-upheld : goal.returns-clause-upheld
returns-clause-upheld g c =
    let now = c.args.self.now.maps in
    let n = c.args.map in
    let x = c.index-stored.result.now in
    let same : c.self.inside.maps.items ≡ now =
    ap (λ (p : Published g.row.D.Denot g.row.B.Denot). p.maps) c.self.view_is in
    let there = read_map now c.self.inside.maps.items n x same c.requires c.index-stored.ensures in
    let K = keeping_of g.D.Disk.history g.D.Disk.faults g.B.Show.log in
    upheld_same K c.args.self.now n x there c.rest.ensures.standing c.rest.ensures.numbered c.rest.ensures.bound
    (search rules)
