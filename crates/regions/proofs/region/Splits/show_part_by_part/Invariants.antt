use Rattle.cube.specs.Cube.{SameSize, IsSubset, holds}
use Rattle.rows.specs.Places.{places, behind}
use Rattle.regions.proofs.region.Splits.show_part_by_part.Given as goal

abbrev pub invariant-loop : goal.invariant-loop
invariant-loop l = SameSize l.left l.region
    × (IsSubset (holds l.left) (holds l.region)
    × (IsSubset (holds l.left) (places (behind l.rows)) → IsSubset (holds l.region) (places (behind l.rows))))
