use Rattle.std.proofs.Common.{◌≡◌, true}
use Rattle.std.specs.List.{list_any}
use Rattle.cube.specs.Cube.{HasSize}
use Rattle.regions.proofs.region.learned.cube_of_literals.Given as goal

abbrev pub invariant-loop-literal : goal.invariant-loop-literal
invariant-loop-literal l = HasSize l.cube l.shape × (list_any (λ b. b) l.cube.outputs ≡ true)
