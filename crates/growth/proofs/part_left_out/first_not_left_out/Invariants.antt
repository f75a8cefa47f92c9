use Rattle.std.proofs.Common.{take}
use Rattle.cube.specs.Cube.{SameSize, IsSubset, IsDisjoint, holds}
use Rattle.rows.specs.Places.{places, behind}
use Rattle.growth.proofs.part_left_out.first_not_left_out.Given as goal

abbrev pub invariant-loop-row : goal.invariant-loop-row
invariant-loop-row l = record {
  size : SameSize l.part l.region;
  within : IsSubset (holds l.part) (holds l.region);
}

abbrev pub invariant-loop-row-2 : goal.invariant-loop-row-2
invariant-loop-row-2 l = record {
  size : SameSize l.part l.region;
  within : IsSubset (holds l.part) (holds l.region);
  apart : IsDisjoint (holds l.part) (places (behind (take l.row-index l.rows)));
}
