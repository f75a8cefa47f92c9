use Rattle.cube.specs.Cube.{SameSize, IsSubset, holds}
use Rattle.rows.specs.Places.{places}
use Rattle.regions.proofs.region.learned.holds_by_hints.Given as goal

abbrev pub invariant-loop-hint : goal.invariant-loop-hint
invariant-loop-hint l = SameSize l.region l.cube
    × (IsSubset (holds l.region) (places l.known) → IsSubset (holds l.cube) (places l.known))
