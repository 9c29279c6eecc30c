use Rattle.std.proofs.Common.{◌≡◌, option_map}
use Rattle.std.specs.Arc.{arc_value}
use Rattle.yp_publisher.specs.inside.Shared.{standing_of}
use Rattle.yp_publisher.specs.Standing.{Level, Behind}
use Rattle.yp_publisher.proofs.Moments.{level_either, install_moments, at_end}
use Rattle.yp_publisher.proofs.stored.StoredMap.install.Goals as goal

pub returns-in_default-clause-any_moment : goal.returns-in_default-clause-any_moment
returns-in_default-clause-any_moment g c =
    let w = arc_value c.args.spelled.stored in
    let i = c.self.inside in
    let H = g.D.Disk.history in
    let L = g.met.D.Disk in
    let v = option_map arc_value i.version in
    let all = level_either H c.args.self.now i.slot.disk c.commit.new.slot.disk i.slot.generation v
    (standing_of i.failed) w c.self.view_is c.requires.level c.self.invariant.images (L.reads_image i.slot.disk)
    c.commit.ensures.any_moment in
    install_moments H c.args.self.now i.slot.disk c.commit.new.slot.disk i.slot.generation v (standing_of i.failed)
    w c.self.view_is c.requires.level all

pub returns-then-is_err-clause-any_moment : goal.returns-then-is_err-clause-any_moment
returns-then-is_err-clause-any_moment g c =
    let w = arc_value c.args.spelled.stored in
    let i = c.self.inside in
    let H = g.D.Disk.history in
    let L = g.met.D.Disk in
    let v = option_map arc_value i.version in
    let all = level_either H c.args.self.now i.slot.disk c.commit.new.slot.disk i.slot.generation v
    (standing_of i.failed) w c.self.view_is c.requires.level c.self.invariant.images (L.reads_image i.slot.disk)
    c.commit.ensures.any_moment in
    install_moments H c.args.self.now i.slot.disk c.commit.new.slot.disk i.slot.generation v (standing_of i.failed)
    w c.self.view_is c.requires.level all

pub returns-clause-any_moment : goal.returns-clause-any_moment
returns-clause-any_moment g c =
    let w = arc_value c.args.spelled.stored in
    let i = c.self.inside in
    let H = g.D.Disk.history in
    let L = g.met.D.Disk in
    let v = option_map arc_value i.version in
    let all = level_either H c.args.self.now i.slot.disk c.commit.new.slot.disk i.slot.generation v
    (standing_of i.failed) w c.self.view_is c.requires.level c.self.invariant.images (L.reads_image i.slot.disk)
    c.commit.ensures.any_moment in
    install_moments H c.args.self.now i.slot.disk c.commit.new.slot.disk i.slot.generation v (standing_of i.failed)
    w c.self.view_is c.requires.level all

pub returns-in_default-clause-standing : goal.returns-in_default-clause-standing
returns-in_default-clause-standing g c =
    let w = arc_value c.args.spelled.stored in
    let i = c.self.inside in
    let H = g.D.Disk.history in
    let L = g.met.D.Disk in
    let v = option_map arc_value i.version in
    let all = level_either H c.args.self.now i.slot.disk c.commit.new.slot.disk i.slot.generation v
    (standing_of i.failed) w c.self.view_is c.requires.level c.self.invariant.images (L.reads_image i.slot.disk)
    c.commit.ensures.any_moment in
    at_end (H i.slot.disk) (H c.commit.new.slot.disk) (L.counts_now i.slot.disk c.commit.new.slot.disk) all

pub invariant_of-self : goal.invariant_of-self
invariant_of-self g c =
    let w = arc_value c.args.spelled.stored in
    let i = c.self.inside in
    let H = g.D.Disk.history in
    let L = g.met.D.Disk in
    let v = option_map arc_value i.version in
    let all = level_either H c.args.self.now i.slot.disk c.commit.new.slot.disk i.slot.generation v
    (standing_of i.failed) w c.self.view_is c.requires.level c.self.invariant.images (L.reads_image i.slot.disk)
    c.commit.ensures.any_moment in
    record {
      ready = λ (e : Behind w ≡ Level). cc;
      numbered = λ (e : Behind w ≡ Level). cc;
      images = at_end (H i.slot.disk) (H c.commit.new.slot.disk) (L.counts_now i.slot.disk c.commit.new.slot.disk)
          all;
    }
