-- What the code keeps of a whole walk.
use Rattle.yp_transfer.specs.declared.walk.walk.Walk.TheInside.{Inside}
use Rattle.yp_transfer.specs.walk.Schedules.{Walking}
use Rattle.yp_transfer.specs.inside.walk.Kept.{wanted_in, standing_of, HasShortNames, IsRoomy}

-- what the fields tell
abbrev pub walking_of : Inside → Walking
walking_of inside = record {
  source = inside.source;
  wanted = wanted_in inside.asked;
  xid = inside.xid;
  standing = standing_of inside.stage;
}

pub record IsKept (inside : Inside) : Type 0 where
  pub names : HasShortNames inside.asked
  pub room : IsRoomy inside.asked inside.stage
